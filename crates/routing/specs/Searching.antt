-- What routing promises.
use Rattle.std.specs.Prelude.{◌≡◌, ℕ, Bool, List, [], ◌∷◌, ◌++◌, length, Some, None, Ok, Err, Option, Result, nat_lt}
use Rattle.measure.specs.Kind.{Kind}
use Rattle.report.specs.declared.Refusal.{Refusal}
use Rattle.report.specs.declared.Refusal.TheVariants.{NoSuchSite, LimitNotAdmitted, WorkspaceSize, ReplyTooShort, LabelsFull}
use Rattle.report.specs.Refusals.{topmost}
use Rattle.catalogue.specs.declared.Link.{Link}
use Rattle.catalogue.specs.declared.routes.Ask.{Ask}
use Rattle.catalogue.specs.declared.routes.Route.{Route}
use Rattle.catalogue.specs.Asks.{ends_out, limit_out, row_with}
use Rattle.catalogue.specs.Routes.{Found, Overfull}
use Rattle.labels.specs.declared.Slot.{Slot}
use Rattle.labels.specs.Workspaces.{ill_sized, AllFree}

-- why what is asked is refused: an end is no site, or the limit is not admitted
abbrev pub ask_causes : {V L : Type 0} → Kind V L → ℕ → Ask L → List (Bool × Refusal)
ask_causes K sites ask = (ends_out sites ask, NoSuchSite) ∷ (limit_out K ask, LimitNotAdmitted) ∷ []

-- why a call is refused before it begins: an end is no site, the limit is not admitted, the workspace is not k labels a site with k from
-- 1 to 64, or the row has fewer numbers than there are sites
abbrev pub route_causes : {V L : Type 0} → Kind V L → ℕ → ℕ → ℕ → Ask L → ℕ → List (Bool × Refusal)
route_causes K sites room k ask row = ask_causes K sites ask ++ (ill_sized sites room k, WorkspaceSize) ∷ (nat_lt row sites, ReplyTooShort) ∷ []

-- What an answer says of the links, and what it leaves in the row. A route or none, with the route's legs in the row and then zeros; or a
-- full site, and the row is as it was.
abbrev pub Answered : {V L : Type 0} → Kind V L → List (Option (Link V)) → ℕ → Ask L → List ℕ → List ℕ → Result (Option (Route V)) Refusal → Type 0
Answered K links k ask was is (Ok answer) = (legs : List ℕ) × Found K links ask answer legs × (is ≡ row_with legs (length was))
Answered K links k ask was is (Err why) = (site : ℕ) × (why ≡ LabelsFull site) × Overfull K links ask k site × (is ≡ was)

-- the full outcome: a refusal before it begins leaves all as it was; otherwise every label is free at the end, and the answer is right
abbrev pub Searched : {V L : Type 0} → Kind V L → ℕ → List (Option (Link V)) → ℕ → Ask L → List (Slot V) → List (Slot V) → List ℕ → List ℕ → Result (Option (Route V)) Refusal → Type 0
Searched K sites links k ask labels labels' row row' r =
    elim (topmost (route_causes K sites (length labels) k ask (length row))) [
      | Some why ↦ (r ≡ Err why) × (labels' ≡ labels) × (row' ≡ row)
      | None ↦ AllFree K labels' × Answered K links k ask row row' r
    ]
