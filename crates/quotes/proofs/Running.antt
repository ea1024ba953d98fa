-- A call is a step of a run.
use Rattle.std.proofs.Common.{◌≡◌, ℕ, List, Option, Result, sym, subst}
use Rattle.measure.specs.Kind.{Kind}
use Rattle.report.specs.declared.Mark.{Mark}
use Rattle.report.specs.declared.Refusal.{Refusal}
use Rattle.catalogue.specs.declared.Link.{Link}
use Rattle.catalogue.specs.declared.routes.Ask.{Ask}
use Rattle.catalogue.specs.declared.routes.Route.{Route}
use Rattle.labels.specs.declared.Slot.{Slot}
use Rattle.cards.specs.declared.Call.{Call}
use Rattle.cards.specs.declared.Call.TheVariants.{Offer, Change, Withdraw, Quote, Recheck, Discard, Read}
use Rattle.cards.specs.Books.{Network, Book}
use Rattle.cards.specs.Calls.{Offered, Changed, Withdrawn, Quoted, Rechecked, Discarded, Shown}
use Rattle.cards.specs.Runs.{Reply, counted, answered, emptied, showing, Memory, memory, Lent, lent, Outcome, by_offer, by_change, by_withdrawal, by_quote, by_recheck, by_discard, by_reading}

as_called : {V L : Type 0} {K : Kind V L} {m m' : Memory V L} {l l' : Lent V} {call call' : Call V L} {reply reply' : Reply V} → call ≡ call' → reply ≡ reply' → Outcome K m l call' reply' m' l' → Outcome K m l call reply m' l'
as_called {K = K} {m} {m'} {l} {l'} {call} {call'} {reply} {reply'} same is o = subst (λ x. Outcome K m l x reply m' l') (sym same) (subst (λ x. Outcome K m l call' x m' l') (sym is) o)

module _ {V L : Type 0} {K : Kind V L} {m : Memory V L} {l : Lent V} {call : Call V L} {reply : Reply V} where
  pub on_offer : {n : Network V} {b : Book V L} {place : ℕ} {link : Link V} {r : Result ℕ Refusal} → call ≡ Offer place link → Offered K m.network m.book place link r n b → reply ≡ counted r → Outcome K m l call reply (memory n b) l
  on_offer same o is = as_called same is (by_offer o)

  pub on_change : {n : Network V} {b : Book V L} {place : ℕ} {value : V} {r : Result ℕ Refusal} → call ≡ Change place value → Changed K m.network m.book place value r n b → reply ≡ counted r → Outcome K m l call reply (memory n b) l
  on_change same o is = as_called same is (by_change o)

  pub on_withdrawal : {n : Network V} {b : Book V L} {place : ℕ} {r : Result ℕ Refusal} → call ≡ Withdraw place → Withdrawn K m.network m.book place r n b → reply ≡ counted r → Outcome K m l call reply (memory n b) l
  on_withdrawal same o is = as_called same is (by_withdrawal o)

  pub on_discard : {b : Book V L} {card : ℕ} {r : Result (Unit {0}) Refusal} → call ≡ Discard card → Discarded m.book card r b → reply ≡ emptied r → Outcome K m l call reply (memory m.network b) l
  on_discard same o is = as_called same is (by_discard o)

module _ {V L : Type 0} {K : Kind V L} {m : Memory V L} {labels : List (Slot V)} {numbers : List ℕ} {call : Call V L} {reply : Reply V} where
  pub on_quote : {b : Book V L} {card k : ℕ} {ask : Ask L} {r : Result (Option (Route V)) Refusal} {labels' : List (Slot V)} →
      call ≡ Quote card ask k → Quoted K m.network m.book labels card ask k r b labels' → reply ≡ answered r → Outcome K m (lent labels numbers) call reply (memory m.network b) (lent labels' numbers)
  on_quote same o is = as_called same is (by_quote o)

  pub on_recheck : {b : Book V L} {card k : ℕ} {r : Result (Option (Route V)) Refusal} {labels' : List (Slot V)} →
      call ≡ Recheck card k → Rechecked K m.network m.book labels card k r b labels' → reply ≡ answered r → Outcome K m (lent labels numbers) call reply (memory m.network b) (lent labels' numbers)
  on_recheck same o is = as_called same is (by_recheck o)

  pub on_reading : {card start : ℕ} {r : Result (Mark × Option (Route V)) Refusal} {numbers' : List ℕ} →
      call ≡ Read card start → Shown m.book card start numbers r numbers' → reply ≡ showing r → Outcome K m (lent labels numbers) call reply m (lent labels numbers')
  on_reading same o is = as_called same is (by_reading o)
