-- What a walk's extension by a link keeps: this is all that the search needs of it.
use Rattle.measure.specs.Kind.{Kind, Made, made_join}
use Rattle.measure.specs.Laws.{Laws}
use Rattle.measure.specs.Ranks.{Fit, ranks}
use Rattle.measure.proofs.Ranking.{rank_dom, fit_dom}
use Rattle.catalogue.specs.Walks.{extend}
use Rattle.std.proofs.Common.{true, ◌≡◌, false}

pub extend_made : {V L : Type 0} (K : Kind V L) (v c : V) → Made K v → Made K c → Made K (extend K v c)
extend_made K v c mv mc = made_join mv mc

module _ {V L : Type 0} {K : Kind V L} (laws : Laws K) where
  -- a walk dominates its extension
  pub extend_over : (v c : V) → Made K v → Made K c → K.dominates v (extend K v c) ≡ true
  extend_over = laws.join_first

  -- dominance survives the same extension
  pub extend_keeps : (a b c : V) → Made K a → Made K b → Made K c → K.dominates a b ≡ true → K.dominates (extend K a c) (extend K b c) ≡ true
  extend_keeps = laws.join_after

  -- an extension ranks no earlier
  pub rank_extend : (l : L) → K.limit_admitted l ≡ true → (v c : V) → Made K v → Made K c → Fit K l (extend K v c) → ranks K l (extend K v c) v ≡ false
  rank_extend l adm v c mv mc f =
      let d = extend_over v c mv mc in
      rank_dom laws l adm v (extend K v c) (fit_dom laws l adm v (extend K v c) mv f d) f d
