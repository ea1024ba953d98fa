-- Reading undoes writing, and writing undoes reading.
use Rattle.std.proofs.Common.{◌≡◌, ℕ, suc, ◌+◌, ◌-◌, ◌^◌, ◌<◌, false, eqb, List, [], ◌∷◌, ◌++◌, length, get_or, take, drop, Some, None, Ok, Err, Option, Result, sym, refl, ap, ◌∙◌, ⊎_elim, append_assoc, arith, length-take, drop_at, w8, Fits}
use Rattle.std.proofs.lemmas.List.{length-append}
use Rattle.std.proofs.lemmas.Grind.{common_steps}
use Rattle.std.proofs.lemmas.Nat.{from_be_bytes-to_be_bytes_2, from_be_bytes-to_be_bytes_4}
use Rattle.std.proofs.lemmas.Bool.{cases_eq, ne_eqb}
use Rattle.report.specs.declared.Refusal.{Refusal}
use Rattle.records.specs.declared.Measures.{Measures}
use Rattle.records.specs.declared.Record.{Record}
use Rattle.records.specs.declared.Record.TheVariants.{Offer, Change, Withdraw, Quote, Recheck, Discard, Read}
use Rattle.report.specs.Buffers.{Put}
use Rattle.records.specs.Feed.{body_length, number16, number32, measures_at, record_of, reading_of, unread_of, Reads}
use Rattle.records.specs.Write.{bytes16, bytes32, measures_bytes, encode, Fit, FitMeasures}
use Rattle.records.specs.RoundTrip.{ReadsBack, WritesBack, ReadsPart}
use Rattle.records.proofs.Readings.{reads_record, reads_placed, reads_within, reads_ahead}

-- a number from its bytes
back16 : (n : ℕ) → n < 2 ^ 16 → n ≡ number16 (bytes16 n) 0
back16 n h = sym (from_be_bytes-to_be_bytes_2 n h)

measures_back : (m : Measures) → FitMeasures m → m ≡ measures_at (measures_bytes m) 0
measures_back m f = grind (arith, common_steps)

-- a record's bytes read back as that record, and what follows them is left
reads_back : (r : Record) (rest : List ℕ) (place : ℕ) → Fit r → (reading_of (encode r ++ rest) place ≡ Ok (Some r)) × (unread_of (encode r ++ rest) ≡ rest)
unfolding reading_of unread_of record_of
reads_back (Offer link start end m) rest place f = grind (arith, common_steps, back16, measures_back)
reads_back (Change link m) rest place f = grind (arith, common_steps, back16, measures_back)
reads_back (Withdraw link) rest place f = grind (arith, common_steps, back16)
reads_back (Quote card source destination m) rest place f = grind (arith, common_steps, back16, measures_back)
reads_back (Recheck card) rest place f = grind (arith, common_steps, back16)
reads_back (Discard card) rest place f = grind (arith, common_steps, back16)
reads_back (Read card) rest place f = grind (arith, common_steps, back16)

-- a list by its numbers

abbrev pub Bytes : List ℕ → Type 0
Bytes bs = (i : ℕ) → get_or bs i 0 < 256

split16 : (bs : List ℕ) (i : ℕ) → Bytes bs → i + 1 < length bs → drop i bs ≡ bytes16 (number16 bs i) ++ drop (i + 2) bs
split16 bs i by h = grind (arith, common_steps)

split32 : (bs : List ℕ) (i : ℕ) → Bytes bs → i + 3 < length bs → drop i bs ≡ bytes32 (number32 bs i) ++ drop (i + 4) bs
split32 bs i by h = grind (arith, common_steps)

split_measures : (bs : List ℕ) (i : ℕ) → Bytes bs → i + 11 < length bs → drop i bs ≡ measures_bytes (measures_at bs i) ++ drop (i + 12) bs
split_measures bs i by h =
    let d = split32 bs i by (omega arith) in
    let p = split32 bs (i + 4) by (omega arith) in
    let c = split32 bs (i + 8) by (omega arith) in
    let e8 : i + 4 + 4 ≡ i + 8 = omega arith in
    let e12 : i + 8 + 4 ≡ i + 12 = omega arith in
    cc

-- the bytes of a kind with one number, of a change, and of a kind with three numbers and three measures
split_short : (bs : List ℕ) (k : ℕ) → Bytes bs → get_or bs 0 0 ≡ k → 2 < length bs → bs ≡ (k ∷ bytes16 (number16 bs 1)) ++ drop 3 bs
split_short bs k by e h = grind (arith, common_steps)

split_change : (bs : List ℕ) (k : ℕ) → Bytes bs → get_or bs 0 0 ≡ k → 14 < length bs
    → bs ≡ (k ∷ (bytes16 (number16 bs 1) ++ measures_bytes (measures_at bs 3))) ++ drop 15 bs
split_change bs k by e h = grind (arith, common_steps, split16 bs 1 by, split_measures bs 3 by)

split_long : (bs : List ℕ) (k : ℕ) → Bytes bs → get_or bs 0 0 ≡ k → 18 < length bs
    → bs ≡ (k ∷ (bytes16 (number16 bs 1) ++ (bytes16 (number16 bs 3) ++ (bytes16 (number16 bs 5) ++ measures_bytes (measures_at bs 7))))) ++ drop 19 bs
split_long bs k by e h = grind (arith, common_steps, split16 bs 1 by, split16 bs 3 by, split16 bs 5 by, split_measures bs 7 by)

-- a record of any kind, if a whole body of the kind is written as it was read
forth : (bs : List ℕ) (place : ℕ) (r : Record) (k n : ℕ)
    → reading_of bs place ≡ Ok (Some r) → get_or bs 0 0 ≡ k → body_length k ≡ Some n
    → (n < length bs → bs ≡ encode (record_of k bs) ++ drop (suc n) bs)
    → bs ≡ encode r ++ unread_of bs
unfolding reading_of unread_of
forth [] place r k n o e b w = absurd cc
forth (x ∷ body) place r k n o e b w = grind (arith, common_steps)

-- no record is read where the kind is unknown
unknown : (bs : List ℕ) (place : ℕ) (r : Record) → reading_of bs place ≡ Ok (Some r) → body_length (get_or bs 0 0) ≡ None → ⊥
unfolding reading_of
unknown [] place r o b = cc
unknown (x ∷ body) place r o b = grind (arith, common_steps)

-- the kinds one by one
either : {A : Type 0} (k i : ℕ) → (k ≡ i → A) → (eqb k i ≡ false → A) → A
either k i same other = ⊎_elim same (λ n. other (ne_eqb k i n)) (cases_eq k i)

-- a record that was read has the bytes that it was read from
writes_back : (bs : List ℕ) (place : ℕ) (r : Record) → Bytes bs → reading_of bs place ≡ Ok (Some r) → bs ≡ encode r ++ unread_of bs
unfolding record_of
writes_back bs place r by o =
    let k = get_or bs 0 0 in
    either k 1 (λ i. forth bs place r 1 18 o i refl (split_long bs 1 by i)) (λ n1.
    either k 2 (λ i. forth bs place r 2 14 o i refl (split_change bs 2 by i)) (λ n2.
    either k 3 (λ i. forth bs place r 3 2 o i refl (split_short bs 3 by i)) (λ n3.
    either k 4 (λ i. forth bs place r 4 18 o i refl (split_long bs 4 by i)) (λ n4.
    either k 5 (λ i. forth bs place r 5 2 o i refl (split_short bs 5 by i)) (λ n5.
    either k 6 (λ i. forth bs place r 6 2 o i refl (split_short bs 6 by i)) (λ n6.
    either k 7 (λ i. forth bs place r 7 2 o i refl (split_short bs 7 by i)) (λ n7.
    absurd (unknown bs place r o (simp (n1, n2, n3, n4, n5, n6, n7))))))))))

-- what stands in the buffer after a write reads back
pub put_reads_back : (r : Record) (start : ℕ) (was is : List ℕ) (answer : Result ℕ Refusal)
    → Fit r → Put (encode r) start was is answer → ReadsBack r start is answer
put_reads_back r start was is (Err why) f p = tt
put_reads_back r start was is (Ok next) f p =
    let l : length (take start was) ≡ start = simp length-take (omega arith) in
    let d : drop start is ≡ encode r ++ drop next was =
    ap (drop start) p.2 ∙ drop_at (take start was) _ start l in
    let back = reads_back r (drop next was) start f in
    let n : length (take start was ++ encode r) ≡ next = simp length-append (omega arith) in
    let t : drop next is ≡ drop next was =
    ap (drop next) (p.2 ∙ sym (append_assoc (take start was) (encode r) (drop next was))) ∙ drop_at (take start was ++ encode r) (drop next was) next n in
    (ap (λ xs. reading_of xs start) d ∙ back.0, ap unread_of d ∙ back.1 ∙ sym t)

-- what was read is written as the same bytes
pub read_writes_back : (reading : Result (Option Record) Refusal) (bytes rest : List ℕ) (place : ℕ) → Bytes bytes → reading ≡ reading_of bytes place → rest ≡ unread_of bytes → WritesBack reading bytes rest
read_writes_back (Ok (Some r)) bytes rest place by e f = writes_back bytes place r by (sym e) ∙ ap (λ xs. encode r ++ xs) (sym f)
read_writes_back (Ok None) bytes rest place by e f = tt
read_writes_back (Err why) bytes rest place by e f = tt

-- a reading of a part, whose numbers are bytes, is one of every feed that has this part
pub reads_part : {part : List ℕ} {place : ℕ} {reading : Result (Option Record) Refusal} {rest : List ℕ}
    → ((i : ℕ) → Fits w8 (get_or part i 0)) → Reads part place reading rest → ReadsPart part place reading rest
reads_part {part} {place} {reading} {rest} fits r =
    record {
      reads = r.0;
      leaves = r.1;
      writes_back = read_writes_back reading part rest place (λ i. let f = fits i in omega arith) r.0 r.1;
      placed = λ input e. reads_placed input place rest (r.1 ∙ ap unread_of e);
      within = λ input e. reads_within input place rest (r.1 ∙ ap unread_of e);
      ahead = λ input e. reads_ahead input place reading rest (r.0 ∙ ap (λ xs. reading_of xs place) e) (r.1 ∙ ap unread_of e);
    }

-- where the part begins with a kind and its whole body, its record is read
pub reads_whole : {part : List ℕ} {place k n : ℕ} {r : Record}
    → ((i : ℕ) → Fits w8 (get_or part i 0)) → get_or part 0 0 ≡ k → body_length k ≡ Some n → n < length part → r ≡ record_of k part
    → ReadsPart part place (Ok (Some r)) (take (length part - suc n) (drop (suc n) part))
reads_whole {part} {place} {k} {n} fits e b h q = reads_part fits (reads_record part place k n e b h q)
