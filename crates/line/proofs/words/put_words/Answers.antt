use Rattle.std.proofs.Common.{◌≡◌, ℕ, ◌+◌, ◌<◌, List, [], ◌++◌, map, length, get_or, take, drop, codes, decimal, refl, sym, ap, ◌∙◌, append_assoc, append-nil, take-append-drop}
use Rattle.std.proofs.lemmas.Grind.{flat_map-append}
use Rattle.std.proofs.lemmas.List.{map-append, take_more}
use Rattle.std.specs.List.{flat_map}
use Rattle.line.specs.Lines.{after_space}
use Rattle.line.specs.Words.{spelled}
use Rattle.line.proofs.words.put_words.Goals as goal

-- one more word after those so far
word_more : {X : Type 0} (f : X → List ℕ) (xs : List X) (i : ℕ) (d : X) (ws : List (List ℕ)) → i < length xs
    → flat_map after_space (ws ++ map f (take (i + 1) xs)) ≡ flat_map after_space (ws ++ map f (take i xs)) ++ after_space (f (get_or xs i d))
word_more f xs i d ws here = simp (take_more xs i d here, map-append, flat_map-append, append_assoc, append-nil) refl

pub loop-word-preserved : goal.loop-word-preserved
loop-word-preserved g c =
    let both = g.met.S.Sink.both in
    let more = word_more spelled c.args.words.now c.loop-word.word-index _ [] c.loop-word-test.true in
    rw more (both _ _ _ _ _ c.loop-word.invariant (both _ _ _ (codes " ") _ c.put.ensures c.put-in-loop-word.ensures))

-- the words so far, and those that are left, are all
words_split : (ws : List (List ℕ)) (legs : List ℕ) (i : ℕ)
    → flat_map after_space (ws ++ map decimal legs) ≡ flat_map after_space (ws ++ map decimal (take i legs)) ++ flat_map after_space (map decimal (drop i legs))
words_split ws legs i =
    sym (ap (λ (x : List ℕ). flat_map after_space (ws ++ map decimal x)) (take-append-drop i legs)) ∙ simp (map-append, flat_map-append, append_assoc) refl

pub returns-then-is_full : goal.returns-then-is_full
returns-then-is_full g c =
    let both = g.met.S.Sink.both in
    let all = words_split (map spelled c.args.words.now) c.args.legs.now c.loop-leg.leg-index in
    rw all (both _ _ _ _ _ c.loop-leg.invariant (c.is_full.ensures c.if-is_full.true _))

pub loop-leg-preserved : goal.loop-leg-preserved
loop-leg-preserved g c =
    let both = g.met.S.Sink.both in
    let more = word_more decimal c.args.legs.now c.loop-leg.leg-index 0 (map spelled c.args.words.now) c.loop-leg-test.true in
    rw more (both _ _ _ _ _ c.loop-leg.invariant (both _ _ _ (codes " ") _ c.put-in-loop-leg.ensures c.put_number.ensures))
