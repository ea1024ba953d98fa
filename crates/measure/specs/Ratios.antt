-- Ratios by cross products.
use Rattle.std.specs.Prelude.{ℕ, ◌*◌, ◌≤◌, Bool, cond, ◌==◌, nat_lt}
use Rattle.measure.specs.declared.ratio.Ratio.{Ratio}

-- the ratio of these two numbers
abbrev pub ratio_of : ℕ → ℕ → Ratio
ratio_of top bottom = record { top = top; bottom = bottom }

-- whether the first ratio is smaller
abbrev pub less : Ratio → Ratio → Bool
less r s = nat_lt (r.top * s.bottom) (s.top * r.bottom)

-- whether two ratios are equal, as 1/2 and 2/4 are
abbrev pub equal : Ratio → Ratio → Bool
equal r s = r.top * s.bottom == s.top * r.bottom

-- the first ratio is no greater
abbrev pub AtMost : Ratio → Ratio → Type 0
AtMost r s = r.top * s.bottom ≤ s.top * r.bottom

-- the second where the first is less, else the first
abbrev pub greater : Ratio → Ratio → Ratio
greater r s = cond (less r s) s r
