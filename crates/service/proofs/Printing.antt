-- What is printed of a feed, record by record.
use Rattle.std.proofs.Common.{◌≡◌, ℕ, ◌+◌, ◌-◌, List, ◌++◌, length, take, drop, Some, Ok, Err, Option, Result, IfOk, IsErrAnd, refl, ap, ◌∙◌, subst, arith}
use Rattle.std.proofs.KnownBytes.{Appends-trans}
use Rattle.std.specs.Io.KnownBytes.{Appends}
use Rattle.records.specs.declared.Record.{Record}
use Rattle.records.specs.Feed.{reading_of}
use Rattle.cards.specs.Runs.{Reply, Memory}
use Rattle.service.specs.declared.serving.Service.{Service}
use Rattle.service.specs.Serving.{TrunkValue, TrunkLimits, Served}
use Rattle.service.specs.Services.{Room, memory_in, lent_by, room_in, SameService}
use Rattle.service.specs.declared.storage.Sizes.{Sizes}
use Rattle.service.specs.Input.{TakesUpTo, Fills, day_room, opened_day, PrintsDay, PrintsInput}
use Rattle.service.specs.Feeds.{line_for, ServesNext, Unreadable, ServesFirst, unreadable, at_a_record, at_unreadable, PrintsFeed}

-- a service is the same after two steps
pub same_again : {s s' s'' : Service} → SameService s s' → SameService s' s'' → SameService s s''
same_again p q = record {
  catalogue = q.catalogue ∙ p.catalogue;
  book = q.book ∙ p.book;
  links = q.links ∙ p.links;
  places = (q.places.0 ∙ p.places.0, q.places.1 ∙ p.places.1);
  workspace = q.workspace ∙ p.workspace;
  labels = record { same = q.labels.same ∙ p.labels.same; room = q.labels.room ∙ p.labels.room };
  reply = q.reply ∙ p.reply;
  room = q.room ∙ p.room;
}

-- a record that was read and served is the next
pub next_served : {feed : List ℕ} {number start : ℕ} {opened before : Service} {r : Record} {reply : Reply TrunkValue} (after : Service) →
    reading_of (drop start feed) start ≡ Ok (Some r) → SameService opened before → Served (memory_in before) (lent_by before) r before.k reply (memory_in after) (lent_by after) →
    ServesNext feed (room_in opened) number start (memory_in before) (line_for (number + 1) reply after.reply.now) (memory_in after)
next_served {feed} {number} {start} {opened} {before} {r} {reply} after is same served =
    subst (λ (room : Room). ServesNext feed room number start (memory_in before) (line_for (number + 1) reply after.reply.now) (memory_in after)) same.room
    record { it = r; reply = reply; brought = lent_by before; left = lent_by after; reads = is; lends = record { labels = refl; numbers = refl }; serves = served; prints = refl }

module _ {E : Type 0} {feed : List ℕ} {room : Room} {m between : Memory TrunkValue TrunkLimits} {number start : ℕ} (was is : Option (List ℕ)) (lines line : List ℕ)
    (first : ServesFirst feed room m number start lines between) where
  -- the line of what cannot be read was printed behind the others, or the feed broke off at it
  pub printed_last : (printed : Option (List ℕ)) (answer : Result (Unit {0}) E) → Appends was printed lines → Unreadable feed number start line → IfOk answer (λ done. Appends printed is line) →
      PrintsFeed feed room m was is between answer
  printed_last printed (Ok done) wrote last p = (lines ++ line, unreadable first last, Appends-trans was printed is lines line wrote p)
  printed_last printed (Err error) wrote last p = at_unreadable first last

  -- the feed broke off at the line of a record that was served
  pub broke_off : {m' : Memory TrunkValue TrunkLimits} (error : E) (answer : Result (Unit {0}) E) → IsErrAnd answer (λ e. e ≡ error) → ServesNext feed room number start between line m' →
      PrintsFeed feed room m was is m' answer
  broke_off error (Ok done) fails next = absurd fails
  broke_off error (Err other) fails next = at_a_record first next

-- a feed whose lines are printed was read into a buffer, and served over memory just opened
pub prints_day : {E : Type 0} (s : Sizes) (was is before after : Option (List ℕ)) (buffer : List ℕ) (n : ℕ) (room : Room) (m : Memory TrunkValue TrunkLimits) (answer : Result (Unit {0}) E) →
    Fills was is buffer n → length buffer ≡ s.input → room ≡ day_room s → m ≡ opened_day s → IfOk answer (λ done. PrintsDay (take (n - 0) buffer) room m before after) →
    IfOk answer (λ done. PrintsInput s was is before after)
prints_day s was is before after buffer n room m (Err error) filled fits lends opened served = tt
prints_day s was is before after buffer n room m (Ok done) filled fits lends opened served =
    let same : take (n - 0) buffer ≡ take n buffer = ap (λ (i : ℕ). take i buffer) (omega arith) in (
      take n buffer,
      subst (λ (k : ℕ). TakesUpTo k was is (take n buffer)) fits filled.1,
      subst (λ (m : Memory TrunkValue TrunkLimits). PrintsDay (take n buffer) (day_room s) m before after) opened
          (subst (λ (room : Room). PrintsDay (take n buffer) room m before after) lends
          (subst (λ (feed : List ℕ). PrintsDay feed room m before after) same served)),
    )
