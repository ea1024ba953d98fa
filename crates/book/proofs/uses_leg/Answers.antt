use Rattle.std.proofs.Common.{◌≡◌, ℕ, eqb, List, [], ◌∷◌, ◌||◌, refl, ap, ◌∙◌, rules, tests}
use Rattle.std.specs.List.{list_any}
use Rattle.std.proofs.lemmas.Iterator.{YieldsList-from_slice}
use Rattle.std.proofs.lemmas.Iterator.Search.{any_from_yields_List}
use Rattle.cards.specs.Doubts.{uses}
use Rattle.book.proofs.uses_leg.Goals as goal

any_uses : (legs : List ℕ) (link : ℕ) → list_any (λ leg. eqb leg link) legs ≡ uses legs link
any_uses [] link = refl
any_uses (leg ∷ legs) link = ap (λ b. eqb leg link || b) (any_uses legs link)

pub returns : goal.returns
returns c =
    let legs = c.args.legs.now in
    any_from_yields_List (λ leg. eqb leg c.args.link) _ _ c.any.result c.any.ensures.ran (YieldsList-from_slice legs cc) (λ x b q k. search (rules, tests)) ∙ any_uses legs c.args.link
