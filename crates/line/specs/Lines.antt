-- The line that is printed for a record.
use Rattle.std.specs.Prelude.{ℕ, List, [], ◌∷◌, ◌++◌, map, length, codes, decimal}
use Rattle.std.specs.List.{flat_map}
use Rattle.measure.specs.declared.ratio.Ratio.{Ratio}
use Rattle.measure.specs.Scalars.{number_of}
use Rattle.report.specs.declared.Mark.{Mark}
use Rattle.report.specs.declared.Mark.TheVariants.{Standing, Doubtful}
use Rattle.report.specs.Refusals.{number as refusal_number, returned}
use Rattle.line.specs.declared.Reply.{Reply}
use Rattle.line.specs.declared.Reply.TheVariants.{Counted, Route, NoRoute, Refused}

-- the word for a mark
abbrev pub mark_word : Mark → List ℕ
mark_word Standing = codes "standing"
mark_word Doubtful = codes "doubtful"

-- a ratio, as in 8/10
abbrev pub share : Ratio → List ℕ
share r = decimal r.top ++ (codes "/" ++ decimal r.bottom)

-- the words of a reply: a route has its delay, price and class, how many legs it has, and the legs
abbrev pub words : Reply → List ℕ → List (List ℕ)
words (Counted n) legs = codes "ok" ∷ decimal n ∷ []
words (Route mark ratio value) legs =
    codes "route" ∷ mark_word mark ∷ share ratio
    ∷ decimal (number_of value.first.first) ∷ decimal (number_of value.first.second) ∷ decimal (number_of value.second)
    ∷ decimal (length legs) ∷ map decimal legs
words (NoRoute mark) legs = codes "none" ∷ mark_word mark ∷ []
words (Refused why) legs = codes "refused" ∷ decimal (refusal_number why) ∷ map decimal (returned why)

-- a word after one space
abbrev pub after_space : List ℕ → List ℕ
after_space word = codes " " ++ word

-- the record's number, the words of the reply, each after one space, and a newline
abbrev pub line_of : ℕ → Reply → List ℕ → List ℕ
line_of number reply legs = decimal number ++ (flat_map after_space (words reply legs) ++ codes "\n")
