-- Two kinds side by side, part by part.
use Rattle.std.specs.Prelude.{not, ◌&&◌, ◌||◌}
use Rattle.measure.specs.declared.pair.Pair.{Pair}
use Rattle.measure.specs.Kind.{Kind}
use Rattle.measure.specs.Ratios.{greater}

-- two values, or two limits, side by side
abbrev pub pair : {V W : Type 0} → V → W → Pair V W
pair a b = record { first = a; second = b }

-- the order is by the first part, then by the second; the ratio is the greater of the parts' ratios, the first part's where they are equal
abbrev pub pair_kind : {V W L M : Type 0} → Kind V L → Kind W M → Kind (Pair V W) (Pair L M)
pair_kind j k = record {
  admitted = λ a. j.admitted a.first && k.admitted a.second;
  limit_admitted = λ l. j.limit_admitted l.first && k.limit_admitted l.second;
  empty = pair j.empty k.empty;
  join = λ a b. pair (j.join a.first b.first) (k.join a.second b.second);
  dominates = λ a b. j.dominates a.first b.first && k.dominates a.second b.second;
  before = λ a b. j.before a.first b.first || (not (j.before b.first a.first) && k.before a.second b.second);
  within = λ a l. j.within a.first l.first && k.within a.second l.second;
  ratio = λ a l. greater (j.ratio a.first l.first) (k.ratio a.second l.second);
}
