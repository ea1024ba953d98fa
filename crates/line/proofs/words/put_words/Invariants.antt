use Rattle.std.proofs.Common.{◌++◌, map, take, decimal}
use Rattle.std.specs.List.{flat_map}
use Rattle.line.specs.Lines.{after_space}
use Rattle.line.specs.Words.{spelled}
use Rattle.line.proofs.words.put_words.Given as goal

abbrev pub invariant-loop-word : goal.invariant-loop-word
invariant-loop-word g l =
    g.S.Sink.took l.fn.sink (flat_map after_space (map spelled (take l.word-index l.words))) l.sink

abbrev pub invariant-loop-leg : goal.invariant-loop-leg
invariant-loop-leg g l =
    g.S.Sink.took l.fn.sink (flat_map after_space (map spelled l.fn.words ++ map decimal (take l.leg-index l.legs))) l.sink
