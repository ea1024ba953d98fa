pub mod Labels
pub mod Outgoing
pub mod Tournament
pub mod Workspaces
