-- How a word is printed.
use Rattle.std.specs.Prelude.{ℕ, List, decimal}
use Rattle.measure.specs.declared.ratio.Ratio.{Ratio}
use Rattle.line.specs.declared.words.Word.{Word}
use Rattle.line.specs.declared.words.Word.TheVariants.{Text, Number, Share}
use Rattle.line.specs.Lines.{share}

-- the bytes of a word
abbrev pub spelled : Word → List ℕ
spelled (Text t) = t.now
spelled (Number n) = decimal n
spelled (Share r) = share r

-- the share of these two numbers
abbrev pub share_of : ℕ → ℕ → Ratio
share_of top bottom = record { top = top; bottom = bottom }
