mod Outcomes
mod Running
