-- The laws that every measure kind owes, of the values that can come about.
use Rattle.std.specs.Prelude.{◌≡◌, ◌≤◌, true, false, ◌⊎◌}
use Rattle.measure.specs.declared.ratio.Ratio.{Ratio}
use Rattle.measure.specs.Kind.{Kind, Made}
use Rattle.measure.specs.Ratios.{AtMost}

-- a ratio at most 1 with a bottom from 1 to 2,147,483,647
pub record Proper (r : Ratio) : Type 0 where
  pub some : 1 ≤ r.bottom
  pub small : r.bottom ≤ 2147483647
  pub most : r.top ≤ r.bottom

-- the seven laws of a kind
pub record Laws {V L : Type 0} (k : Kind V L) : Type 0 where
  -- dominance is reflexive and transitive, and two values that dominate each other are the same
  pub dom_refl : (a : V) → Made k a → k.dominates a a ≡ true
  pub dom_trans : (a b c : V) → Made k a → Made k b → Made k c → k.dominates a b ≡ true → k.dominates b c ≡ true → k.dominates a c ≡ true
  pub dom_same : (a b : V) → Made k a → Made k b → k.dominates a b ≡ true → k.dominates b a ≡ true → a ≡ b
  -- the empty value dominates every value, is within every admitted limit, and joined before or after a value gives that value
  pub empty_least : (a : V) → Made k a → k.dominates k.empty a ≡ true
  pub empty_within : (l : L) → k.limit_admitted l ≡ true → k.within k.empty l ≡ true
  pub empty_left : (a : V) → Made k a → k.join k.empty a ≡ a
  pub empty_right : (a : V) → Made k a → k.join a k.empty ≡ a
  -- dominance survives joining the same value after both, or before both
  pub join_after : (a b c : V) → Made k a → Made k b → Made k c → k.dominates a b ≡ true → k.dominates (k.join a c) (k.join b c) ≡ true
  pub join_before : (a b c : V) → Made k a → Made k b → Made k c → k.dominates a b ≡ true → k.dominates (k.join c a) (k.join c b) ≡ true
  -- each of two values dominates the two joined
  pub join_first : (a b : V) → Made k a → Made k b → k.dominates a (k.join a b) ≡ true
  pub join_second : (a b : V) → Made k a → Made k b → k.dominates b (k.join a b) ≡ true
  -- a value that dominates one within a limit is within it too
  pub within_down : (a b : V) (l : L) → Made k a → Made k b → k.dominates a b ≡ true → k.within b l ≡ true → k.within a l ≡ true
  -- within an admitted limit the ratio is proper, and a dominating value has a ratio no greater
  pub ratio_proper : (a : V) (l : L) → Made k a → k.limit_admitted l ≡ true → k.within a l ≡ true → Proper (k.ratio a l)
  pub ratio_rises : (a b : V) (l : L) → Made k a → Made k b → k.limit_admitted l ≡ true → k.dominates a b ≡ true → k.within b l ≡ true → AtMost (k.ratio a l) (k.ratio b l)
  -- the value order is total and transitive, no value comes before itself, and a dominating value comes first or is the same
  pub before_never : (a : V) → Made k a → k.before a a ≡ false
  pub before_trans : (a b c : V) → Made k a → Made k b → Made k c → k.before a b ≡ true → k.before b c ≡ true → k.before a c ≡ true
  pub before_total : (a b : V) → Made k a → Made k b → (k.before a b ≡ true) ⊎ ((a ≡ b) ⊎ (k.before b a ≡ true))
  pub dom_before : (a b : V) → Made k a → Made k b → k.dominates a b ≡ true → (k.before a b ≡ true) ⊎ (a ≡ b)
