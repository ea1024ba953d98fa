-- What the check of a search says.
use Rattle.std.proofs.Common.{◌≡◌, ℕ, Bool, true, false, cond, List, length, Some, None, Ok, Err, Option, Result, sym, refl, subst}
use Rattle.std.proofs.lemmas.Bool.{or_parts, leb-false, ltb-false, eqb-true, not-false}
use Rattle.measure.specs.Kind.{Kind}
use Rattle.report.specs.declared.Refusal.{Refusal}
use Rattle.report.specs.Refusals.{topmost, unless}
use Rattle.catalogue.specs.declared.Link.{Link}
use Rattle.catalogue.specs.declared.routes.Ask.{Ask}
use Rattle.catalogue.specs.declared.routes.Route.{Route}
use Rattle.labels.specs.declared.Slot.{Slot}
use Rattle.labels.specs.Labels.{table, Frees}
use Rattle.labels.specs.Workspaces.{AllFree}
use Rattle.routing.specs.Finds.{Admits}
use Rattle.routing.specs.Searching.{route_causes, Answered, Searched}

cond_none : {A : Type 0} (b : Bool) (x : A) (t : Option A) → cond b (Some x) t ≡ None → (b ≡ false) × (t ≡ None)
cond_none true x t e = cc
cond_none false x t e = (refl, e)

pub admits : {V L : Type 0} (K : Kind V L) (sites room k : ℕ) (ask : Ask L) (row : ℕ) → topmost (route_causes K sites room k ask row) ≡ None → Admits K sites room k ask row
admits K sites room k ask row e =
    let joined = cond_none _ _ _ e in
    let limited = cond_none _ _ _ joined.1 in
    let sized = cond_none _ _ _ limited.1 in
    let fitting = cond_none _ _ _ sized.1 in
    let ends = or_parts _ _ joined.0 in
    let sizes = or_parts _ _ sized.0 in
    let ks = or_parts _ _ sizes.1 in
    record {
      source = leb-false _ _ ends.0;
      destination = leb-false _ _ ends.1;
      limit = not-false _ limited.0;
      size = eqb-true _ _ (not-false _ sizes.0);
      some = ltb-false k 1 ks.0;
      few = ltb-false 64 k ks.1;
      fits = ltb-false _ _ fitting.0;
    }

pub unrefused : (done : Unit {0}) (t : Option Refusal) → ◌≡◌ {A = Result (Unit {0}) Refusal} (Ok done) (unless t (Ok tt)) → t ≡ None
unrefused done (Some why) e = cc
unrefused done None e = refl

module _ {V L : Type 0} (K : Kind V L) (sites : ℕ) (links : List (Option (Link V))) (k : ℕ) (ask : Ask L) (labels : List (Slot V)) (row : List ℕ) where
  abbrev Outcome : List (Slot V) → List ℕ → Result (Option (Route V)) Refusal → Option Refusal → Type 0
  Outcome labels' row' r t = elim t [
    | Some why ↦ (r ≡ Err why) × (labels' ≡ labels) × (row' ≡ row)
    | None ↦ Frees (table K labels') (length labels') × Answered K links k ask row row' r
  ]

  refused_so : (why : Refusal) (t : Option Refusal) → ◌≡◌ {A = Result (Unit {0}) Refusal} (Err why) (unless t (Ok tt)) → Outcome labels row (Err why) t
  refused_so why (Some other) e = (cc, refl, refl)
  refused_so why None e = cc

  pub searched_refused : (why : Refusal) → ◌≡◌ {A = Result (Unit {0}) Refusal} (Err why) (unless (topmost (route_causes K sites (length labels) k ask (length row))) (Ok tt)) → Searched K sites links k ask labels labels row row (Err why)
  searched_refused why e = refused_so why _ e

  pub searched_so : (labels' : List (Slot V)) (row' : List ℕ) (r : Result (Option (Route V)) Refusal) → topmost (route_causes K sites (length labels) k ask (length row)) ≡ None → Frees (table K labels') (length labels') → Answered K links k ask row row' r → Searched K sites links k ask labels labels' row row' r
  searched_so labels' row' r e free answered = subst (Outcome labels' row' r) (sym e) (free, answered)

  pub searched_free : (labels' : List (Slot V)) (row' : List ℕ) (r : Result (Option (Route V)) Refusal) → topmost (route_causes K sites (length labels) k ask (length row)) ≡ None → Searched K sites links k ask labels labels' row row' r → Frees (table K labels') (length labels') × Answered K links k ask row row' r
  searched_free labels' row' r e h = subst (Outcome labels' row' r) e h

  -- how a call ends, refused or not
  pub done : (labels' : List (Slot V)) (row' : List ℕ) (r : Result (Option (Route V)) Refusal) → ◌≡◌ {A = Result (Unit {0}) Refusal} (Ok tt) (unless (topmost (route_causes K sites (length labels) k ask (length row))) (Ok tt)) →
      AllFree K labels' → Answered K links k ask row row' r → Searched K sites links k ask labels labels' row row' r
  done labels' row' r e free answered = searched_so labels' row' r (unrefused tt _ e) free answered

-- what a call that is not refused knows of its arguments
pub admitted : {V L : Type 0} {K : Kind V L} {sites room k : ℕ} {ask : Ask L} {row : ℕ} → ◌≡◌ {A = Result (Unit {0}) Refusal} (Ok tt) (unless (topmost (route_causes K sites room k ask row)) (Ok tt)) → Admits K sites room k ask row
admitted {K = K} {sites} {room} {k} {ask} {row} e = admits K sites room k ask row (unrefused tt _ e)

pub ruleset ends = (searched_refused, done, admitted)
