-- The outcomes of the calls on links, put together from what their parts say: the check of the sites, the change of the catalogue, and the
-- spread of its news.
use Rattle.std.proofs.Common.{◌≡◌, ℕ, Bool, List, ◌∷◌, set, Some, None, Ok, Err, Option, Result, is_ok, true, refl, sym, ap, ◌∙◌, subst}
use Rattle.measure.specs.Kind.{Kind}
use Rattle.report.specs.declared.Refusal.{Refusal}
use Rattle.report.specs.declared.Refusal.TheVariants.{LinkEmpty}
use Rattle.report.specs.Refusals.{topmost}
use Rattle.catalogue.specs.declared.Link.{Link}
use Rattle.catalogue.specs.Places.{at}
use Rattle.catalogue.specs.Calls.{store_causes, store_answer, stored, replace_causes, replace_answer, replaced, revalued, remove_causes, remove_answer, removed}
use Rattle.cards.specs.Books.{Network, Book, with_links}
use Rattle.cards.specs.Doubts.{Doubted, struck_by_change}
use Rattle.cards.specs.Calls.{differ, Offered, offer_refused, offered, Changed, change_refused, changed, Withdrawn, withdraw_refused, withdrawn}
use Rattle.doubt.specs.declared.News.TheVariants as News
use Rattle.book.specs.Answers.{Spread}
use Rattle.book.proofs.Endings.{sites_answer}
use Rattle.book.proofs.Refusing.{first_refused, first_passed, unless_tells, filled_refused, filled_passed, replace_some, remove_some}

-- the value of the link that a change of the catalogue answers
pub value_in : {V : Type 0} → Result (Link V) Refusal → V → V
value_in (Ok old) v = old.value
value_in (Err why) v = v

pub value_in_ok : {V : Type 0} (old : Link V) (v : V) → value_in (Ok old) v ≡ old.value
unfolding value_in
value_in_ok old v = refl

-- an outcome at what equals its answer and the stores that it leaves
moved : {V L : Type 0} (P : Result ℕ Refusal → Network V → Book V L → Type 0) {r r' : Result ℕ Refusal} {n n' : Network V} {b b' : Book V L} → r' ≡ r → n' ≡ n → b' ≡ b → P r n b → P r' n' b'
moved P {r} {r'} {n} {n'} {b} {b'} er en eb h = subst (λ x. P x n' b') (sym er) (subst (λ x. P r x b') (sym en) (subst (λ x. P r n x) (sym eb) h))

-- a catalogue of as many sites with these links
relinked : {V : Type 0} (n n' : Network V) {links : List (Option (Link V))} → n'.sites ≡ n.sites → n'.links ≡ links → n' ≡ with_links n links
relinked {V} n n' sites is = ap (λ (s : ℕ). with_links (record { sites = s; links = n'.links }) n'.links) sites ∙ ap (λ (ls : List (Option (Link V))). with_links n ls) is

-- the links that a change of the catalogue leaves, by what it answers
module _ {V L : Type 0} (K : Kind V L) (sites : ℕ) (links : List (Option (Link V))) (place : ℕ) where
  left_by_store : (link : Link V) {r : Result (Unit {0}) Refusal} {links' : List (Option (Link V))} → r ≡ store_answer K sites links place link → links' ≡ stored K sites links place link →
      links' ≡ elim r as (λ _. List (Option (Link V))) [ Ok _ ↦ set links place (Some link) | Err _ ↦ links ]
  left_by_store link answer is = is ∙ ap (λ (r : Result (Unit {0}) Refusal). elim r as (λ _. List (Option (Link V))) [ Ok _ ↦ set links place (Some link) | Err _ ↦ links ]) (sym answer)

  left_by_replace : (value : V) {r : Result (Link V) Refusal} {links' : List (Option (Link V))} → r ≡ replace_answer K links place value → links' ≡ replaced K links place value →
      links' ≡ elim r as (λ _. List (Option (Link V))) [ Ok old ↦ set links place (Some (revalued old value)) | Err _ ↦ links ]
  left_by_replace value answer is = is ∙ ap (λ (r : Result (Link V) Refusal). elim r as (λ _. List (Option (Link V))) [ Ok old ↦ set links place (Some (revalued old value)) | Err _ ↦ links ]) (sym answer)

left_by_remove : {V : Type 0} (links : List (Option (Link V))) (place : ℕ) {r : Result (Link V) Refusal} {links' : List (Option (Link V))} → r ≡ remove_answer links place → links' ≡ removed links place →
    links' ≡ elim r as (λ _. List (Option (Link V))) [ Ok _ ↦ set links place None | Err _ ↦ links ]
left_by_remove {V} links place answer is = is ∙ ap (λ (r : Result (Link V) Refusal). elim r as (λ _. List (Option (Link V))) [ Ok _ ↦ set links place None | Err _ ↦ links ]) (sym answer)

-- refused for its sites, or by the catalogue
module _ {V L : Type 0} (n : Network V) (b : Book V L) (cs : List (Bool × Refusal)) (P : Result ℕ Refusal → Network V → Book V L → Type 0)
    (refused : (why : Refusal) → topmost (differ n b ∷ cs) ≡ Some why → P (Err why) n b) where
  sites_refused : {why : Refusal} → Err why ≡ sites_answer n b → P (Err why) n b
  sites_refused {why} e = refused why (first_refused (differ n b) cs why e)

  links_refused : {why : Refusal} {n' : Network V} → Ok tt ≡ sites_answer n b → topmost cs ≡ Some why → n' ≡ n → P (Err why) n' b
  links_refused {why} e top same = moved P refl same refl (refused why (first_passed (differ n b) cs e ∙ top))

module _ {V L : Type 0} {K : Kind V L} {n : Network V} {b : Book V L} {place : ℕ} {link : Link V} where
  pub offer_sites : {why : Refusal} → Err why ≡ sites_answer n b → Offered K n b place link (Err why) n b
  offer_sites = sites_refused n b (store_causes K n.sites n.links place link) (Offered K n b place link) offer_refused

  pub offer_links : {why : Refusal} {n' : Network V} → Ok tt ≡ sites_answer n b → Err why ≡ store_answer K n.sites n.links place link →
      n'.links ≡ stored K n.sites n.links place link → n'.sites ≡ n.sites → Offered K n b place link (Err why) n' b
  offer_links {why} {n'} e answer links sites =
      links_refused n b (store_causes K n.sites n.links place link) (Offered K n b place link) offer_refused e
      (unless_tells (topmost (store_causes K n.sites n.links place link)) (Err why) answer) (relinked n n' sites (left_by_store K n.sites n.links place link answer links))

  pub offer_done : {count : ℕ} {n' : Network V} {b' : Book V L} → Ok tt ≡ sites_answer n b → Ok tt ≡ store_answer K n.sites n.links place link →
      n'.links ≡ stored K n.sites n.links place link → n'.sites ≡ n.sites → Spread K (News.Offered link.value) b count b' →
      Offered K n b place link (Ok count) n' b'
  offer_done {count} {n'} {b'} e answer links sites spread =
      let cs = store_causes K n.sites n.links place link in
      moved (Offered K n b place link) refl (relinked n n' sites (left_by_store K n.sites n.links place link answer links)) spread.rest
      (offered count b'.cards (first_passed (differ n b) cs e ∙ unless_tells (topmost cs) (Ok tt) answer) spread.doubted)

module _ {V L : Type 0} {K : Kind V L} {n : Network V} {b : Book V L} {place : ℕ} {value : V} where
  pub change_sites : {why : Refusal} → Err why ≡ sites_answer n b → Changed K n b place value (Err why) n b
  change_sites = sites_refused n b (replace_causes K n.links place value) (Changed K n b place value) change_refused

  pub change_links : {why : Refusal} {n' : Network V} → Ok tt ≡ sites_answer n b → Err why ≡ replace_answer K n.links place value →
      n'.links ≡ replaced K n.links place value → n'.sites ≡ n.sites → Changed K n b place value (Err why) n' b
  change_links {why} {n'} e answer links sites =
      links_refused n b (replace_causes K n.links place value) (Changed K n b place value) change_refused e
      (filled_refused (topmost (replace_causes K n.links place value)) LinkEmpty (at n.links place) why (λ t. replace_some K n.links place value t) answer) (relinked n n' sites (left_by_replace K n.sites n.links place value answer links))

  pub change_done : {count : ℕ} {n' : Network V} {b' : Book V L} → Ok tt ≡ sites_answer n b → is_ok (replace_answer K n.links place value) ≡ true →
      n'.links ≡ replaced K n.links place value → n'.sites ≡ n.sites → Spread K (News.Changed place (value_in (replace_answer K n.links place value) value) value) b count b' →
      Changed K n b place value (Ok count) n' b'
  change_done {count} {n'} {b'} e ok links sites = go (replace_answer K n.links place value) refl ok
    where
      go : (r : Result (Link V) Refusal) → r ≡ replace_answer K n.links place value → is_ok r ≡ true → Spread K (News.Changed place (value_in r value) value) b count b' →
          Changed K n b place value (Ok count) n' b'
      go (Ok old) answer ok spread =
          let cs = replace_causes K n.links place value in
          let passed = filled_passed (topmost cs) LinkEmpty (at n.links place) old answer in
          moved (Changed K n b place value) refl (relinked n n' sites (left_by_replace K n.sites n.links place value answer links)) spread.rest
          (changed old count b'.cards (first_passed (differ n b) cs e ∙ passed.0) passed.1 (subst (λ x. Doubted (struck_by_change K place x value) b b'.cards count) (value_in_ok old value) spread.doubted))
      go (Err why) answer ok spread = cc

module _ {V L : Type 0} {K : Kind V L} {n : Network V} {b : Book V L} {place : ℕ} where
  pub withdraw_sites : {why : Refusal} → Err why ≡ sites_answer n b → Withdrawn K n b place (Err why) n b
  withdraw_sites = sites_refused n b (remove_causes n.links place) (Withdrawn K n b place) withdraw_refused

  pub withdraw_links : {why : Refusal} {n' : Network V} → Ok tt ≡ sites_answer n b → Err why ≡ remove_answer n.links place →
      n'.links ≡ removed n.links place → n'.sites ≡ n.sites → Withdrawn K n b place (Err why) n' b
  withdraw_links {why} {n'} e answer links sites =
      links_refused n b (remove_causes n.links place) (Withdrawn K n b place) withdraw_refused e
      (filled_refused (topmost (remove_causes n.links place)) LinkEmpty (at n.links place) why (λ t. remove_some n.links place t) answer) (relinked n n' sites (left_by_remove n.links place answer links))

  pub withdraw_done : {count : ℕ} {n' : Network V} {b' : Book V L} → Ok tt ≡ sites_answer n b → is_ok (remove_answer n.links place) ≡ true →
      n'.links ≡ removed n.links place → n'.sites ≡ n.sites → Spread K (News.Withdrawn place) b count b' →
      Withdrawn K n b place (Ok count) n' b'
  withdraw_done {count} {n'} {b'} e ok links sites spread = go (remove_answer n.links place) refl ok
    where
      go : (r : Result (Link V) Refusal) → r ≡ remove_answer n.links place → is_ok r ≡ true → Withdrawn K n b place (Ok count) n' b'
      go (Ok old) answer ok =
          let cs = remove_causes n.links place in
          moved (Withdrawn K n b place) refl (relinked n n' sites (left_by_remove n.links place answer links)) spread.rest
          (withdrawn count b'.cards (first_passed (differ n b) cs e ∙ (filled_passed (topmost cs) LinkEmpty (at n.links place) old answer).0) spread.doubted)
      go (Err why) answer ok = cc

-- how an offer, a change and a withdrawal end
pub ruleset endings = (offer_sites, offer_links, offer_done, change_sites, change_links, change_done, value_in_ok, withdraw_sites, withdraw_links, withdraw_done)
