-- A feed's records in order.
use Rattle.std.proofs.Common.{◌≡◌, ℕ, zero, suc, ◌+◌, ◌-◌, ◌≤◌, List, [], ◌∷◌, length, drop, Some, None, Ok, Err, Option, Result, sym, refl, ap, subst, ◌∙◌, arith, length-drop}
use Rattle.std.proofs.lemmas.Grind.{common_steps}
use Rattle.std.specs.Iterator.{YieldsFirst}
use Rattle.std.specs.Result.{result_transpose}
use Rattle.report.specs.declared.Refusal.{Refusal}
use Rattle.records.specs.declared.Record.{Record}
use Rattle.records.specs.Feed.{reading_of, unread_of}
use Rattle.records.specs.Records.{come, next_place, come_first, records_from}
use Rattle.records.proofs.Readings.{reads_nothing, reads_ahead, reads_within}

-- where no record is read nothing is left
none_left : (bs : List ℕ) (place : ℕ) (reading : Result (Option Record) Refusal)
    → reading_of bs place ≡ reading → ((r : Record) → reading ≡ Ok (Some r) → ⊥) → unread_of bs ≡ []
unfolding reading_of unread_of
none_left [] place reading e none = refl
none_left (x ∷ body) place reading e none = grind (arith, common_steps)

-- only behind a record do others come
same_come : (reading : Result (Option Record) Refusal) {xs ys : List (Result Record Refusal)}
    → ((it : Record) → reading ≡ Ok (Some it) → xs ≡ ys) → come reading xs ≡ come reading ys
same_come (Ok (Some it)) same = ap (λ xs. Ok it ∷ xs) (same it refl)
same_come (Ok None) same = refl
same_come (Err why) same = refl

come_record : (reading : Result (Option Record) Refusal) {it : Record} {xs others : List (Result Record Refusal)}
    → come reading xs ≡ Ok it ∷ others → (reading ≡ Ok (Some it)) × (others ≡ xs)
come_record (Ok (Some r)) e = (cc, cc)
come_record (Ok None) e = absurd cc
come_record (Err why) e = absurd cc

come_refusal : (reading : Result (Option Record) Refusal) (xs : List (Result Record Refusal)) {why : Refusal} {others : List (Result Record Refusal)}
    → come reading xs ≡ Err why ∷ others → reading ≡ Err why
come_refusal (Ok (Some r)) xs e = absurd cc
come_refusal (Ok None) xs e = absurd cc
come_refusal (Err why) xs e = cc

come_none : (reading : Result (Option Record) Refusal) (xs : List (Result Record Refusal)) → come reading xs ≡ [] → reading ≡ Ok None
come_none (Ok (Some r)) xs e = absurd cc
come_none (Ok None) xs e = refl
come_none (Err why) xs e = absurd cc

few : (reading : Result (Option Record) Refusal) (xs : List (Result Record Refusal)) → length (come reading xs) ≤ suc (length xs)
few (Ok (Some r)) xs = omega arith
few (Ok None) xs = omega arith
few (Err why) xs = omega arith

module _ (feed : List ℕ) where
  -- past the end nothing comes
  ended : (start : ℕ) (others : List (Result Record Refusal)) → length feed ≤ start → come (reading_of (drop start feed) start) others ≡ []
  ended start others h =
      let e = (reads_nothing (drop start feed) start (omega (arith, length-drop start feed))).0 in cc

  -- what is left behind a record is shorter
  nearer : (start n : ℕ) (it : Record) → length feed ≤ start + suc n → reading_of (drop start feed) start ≡ Ok (Some it) → length feed ≤ next_place feed start + n
  nearer start n it h e =
      omega (arith, reads_ahead feed start (Ok (Some it)) (unread_of (drop start feed)) (sym e) refl, reads_within feed start (unread_of (drop start feed)) refl)

  -- as many readings as there are bytes are enough
  enough : (m n start : ℕ) → length feed ≤ start + m → length feed ≤ start + n → come_first m feed start ≡ come_first n feed start
  unfolding come_first
  enough zero zero start h k = refl
  enough zero (suc n) start h k = sym (ended start (come_first n feed (next_place feed start)) (omega arith))
  enough (suc m) zero start h k = ended start (come_first m feed (next_place feed start)) (omega arith)
  enough (suc m) (suc n) start h k =
      same_come (reading_of (drop start feed) start) (λ it e. enough m n (next_place feed start) (nearer start m it h e) (nearer start n it k e))

  from_first : (n start : ℕ) → n ≡ length feed - start → come_first n feed start ≡ come (reading_of (drop start feed) start) (records_from feed (next_place feed start))
  unfolding come_first records_from
  from_first zero start e = sym (ended start (come_first (length feed - next_place feed start) feed (next_place feed start)) (omega arith))
  from_first (suc n) start e =
      same_come (reading_of (drop start feed) start)
      (λ it o. enough n (length feed - next_place feed start) (next_place feed start) (nearer start n it (omega arith) o) (omega arith))

  -- what comes of the reading at a place, and then what comes from the next place on
  pub records_next : (start : ℕ) → records_from feed start ≡ come (reading_of (drop start feed) start) (records_from feed (next_place feed start))
  unfolding records_from
  records_next start = from_first (length feed - start) start refl

  past : (start : ℕ) → length feed ≤ start → records_from feed start ≡ []
  past start h = records_next start ∙ ended start (records_from feed (next_place feed start)) h

  -- the reading at a place, and the place after it, give what comes first and what comes then
  comes : (start next : ℕ) (reading : Result (Option Record) Refusal) (rest : List ℕ)
      → reading ≡ reading_of (drop start feed) start → rest ≡ unread_of (drop start feed) → next ≡ length feed - length rest
      → YieldsFirst (records_from feed) start (result_transpose reading) next
  comes start next (Ok (Some it)) rest e u n = cc (records_next start)
  comes start next (Ok None) rest e u n =
      let l : length rest ≡ 0 = ap length (u ∙ none_left (drop start feed) start (Ok None) (sym e) (λ r f. cc)) in
      (cc (records_next start), past next (omega arith))
  comes start next (Err why) rest e u n =
      let l : length rest ≡ 0 = ap length (u ∙ none_left (drop start feed) start (Err why) (sym e) (λ r f. cc)) in
      let p = past next (omega arith) in
      cc (records_next start)

  pub comes_first : (start next : ℕ) {reading : Result (Option Record) Refusal} {rest : List ℕ} {item : Option (Result Record Refusal)}
      → reading ≡ reading_of (drop start feed) start → rest ≡ unread_of (drop start feed) → item ≡ result_transpose reading → next ≡ length feed - length rest
      → YieldsFirst (records_from feed) start item next
  comes_first start next {reading} {rest} e u t n =
      subst (λ x. YieldsFirst (records_from feed) start x next) (sym t) (comes start next reading rest e u n)

  -- what came first says what was read at the place, and where the others come from
  pub is_record : (start : ℕ) {it : Record} {others : List (Result Record Refusal)} → records_from feed start ≡ Ok it ∷ others
      → (reading_of (drop start feed) start ≡ Ok (Some it)) × (others ≡ records_from feed (next_place feed start))
  is_record start e = come_record (reading_of (drop start feed) start) (sym (records_next start) ∙ e)

  pub is_refusal : (start : ℕ) {why : Refusal} {others : List (Result Record Refusal)} → records_from feed start ≡ Err why ∷ others → reading_of (drop start feed) start ≡ Err why
  is_refusal start e = come_refusal (reading_of (drop start feed) start) (records_from feed (next_place feed start)) (sym (records_next start) ∙ e)

  pub is_end : (start : ℕ) → records_from feed start ≡ [] → reading_of (drop start feed) start ≡ Ok None
  is_end start e = come_none (reading_of (drop start feed) start) (records_from feed (next_place feed start)) (sym (records_next start) ∙ e)

  few_first : (n start : ℕ) → length (come_first n feed start) ≤ n
  unfolding come_first
  few_first zero start = omega arith
  few_first (suc n) start =
      omega (arith, few (reading_of (drop start feed) start) (come_first n feed (next_place feed start)), few_first n (next_place feed start))

  -- no more come than there are bytes
  pub no_more : (start : ℕ) → length (records_from feed start) ≤ length feed
  unfolding records_from
  no_more start = omega (arith, few_first (length feed - start) start)
