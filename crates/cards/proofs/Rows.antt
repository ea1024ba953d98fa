-- The rows of the cards, when one of them is written, and what is read back.
use Rattle.std.proofs.Common.{◌≡◌, ℕ, ◌+◌, ◌-◌, ◌*◌, ◌<◌, ◌≤◌, ◌⊎◌, List, length, take, drop, sym, refl, ap, ◌∙◌, inl, inr, ⊎_elim, mul-le-mul_right, add-mul, one-mul, arith, length-append}
use lib.ListN.{length-replicate}
use lib.Seq.{paste}
use Rattle.std.proofs.lemmas.Slice.{put_mid-paste, take-put_mid_below, drop-put_mid, between-put_mid, between_is}
use Rattle.std.proofs.lemmas.Bool.{cases_lt}
use Rattle.catalogue.specs.Asks.{row_with}
use Rattle.cards.specs.Books.{row_at}

-- a row has its length where the legs have room in it
pub row_length : (legs : List ℕ) (n : ℕ) → length legs ≤ n → length (row_with legs n) ≡ n
row_length legs n h = simp (length-append, length-replicate) (omega arith)

-- the row of a card ends within the rows
pub row_within : (card width cards places : ℕ) → card < cards → places ≡ cards * width → card * width + width ≤ places
row_within card width cards places h e =
    omega (arith, mul-le-mul_right {m = card + 1} {n = cards} width (omega arith), add-mul card 1 width, one-mul width)

-- what was written is read back
pub pasted : (s a : ℕ) (rows row : List ℕ) → a + s ≤ length rows → length row ≡ s → take s (drop a (paste rows a row s)) ≡ row
pasted s a rows row fits e =
    let put = put_mid-paste a s rows row row s refl refl (sym e) in
    let d : a + s - a ≡ s = omega arith in
    ap (λ (n : ℕ). take n (drop a (paste rows a row s))) (sym d)
    ∙ ap (λ (xs : List ℕ). take (a + s - a) (drop a xs)) (sym put)
    ∙ between-put_mid a s rows row (a + s) (omega arith) (omega arith)

-- a part that lies apart from what was written is as it was
apart : (s a b : ℕ) (rows row : List ℕ) → a + s ≤ length rows → length row ≡ s → (b + s ≤ a) ⊎ (a + s ≤ b) →
    take s (drop b (paste rows a row s)) ≡ take s (drop b rows)
apart s a b rows row fits e (inl le) =
    let put = put_mid-paste a s rows row row s refl refl (sym e) in
    let front = take-put_mid_below a s rows row (b + s) le (omega arith) in
    let d : b + s - b ≡ s = omega arith in
    let new : take s (drop b (paste rows a row s)) ≡ drop b (take (b + s) (paste rows a row s)) =
    ap (λ (n : ℕ). take n (drop b (paste rows a row s))) (sym d) ∙ between_is (paste rows a row s) b (b + s) in
    let old : take s (drop b rows) ≡ drop b (take (b + s) rows) =
    ap (λ (n : ℕ). take n (drop b rows)) (sym d) ∙ between_is rows b (b + s) in
    new ∙ ap (λ (xs : List ℕ). drop b (take (b + s) xs)) (sym put) ∙ ap (drop b) front ∙ sym old
apart s a b rows row fits e (inr le) =
    let put = put_mid-paste a s rows row row s refl refl (sym e) in
    ap (λ (xs : List ℕ). take s (drop b xs)) (sym put) ∙ ap (take s) (drop-put_mid a s rows row b le (omega arith) e)

ways : (s card k : ℕ) → (k ≡ card → ⊥) → (k * s + s ≤ card * s) ⊎ (card * s + s ≤ k * s)
ways s card k ne =
    ⊎_elim (λ lt. inl (row_within k s card (card * s) lt refl))
    (λ le. inr (row_within card s k (k * s) (omega arith) refl)) (cases_lt k card)

-- when a card's row is written, the other rows are as they were, and its own is what was written
pub other_rows : (s card k : ℕ) (rows row : List ℕ) → card * s + s ≤ length rows → length row ≡ s → (k ≡ card → ⊥) →
    row_at s (paste rows (card * s) row s) k ≡ row_at s rows k
other_rows s card k rows row fits e ne = apart s (card * s) (k * s) rows row fits e (ways s card k ne)

pub own_row : (s card : ℕ) (rows row : List ℕ) → card * s + s ≤ length rows → length row ≡ s →
    row_at s (paste rows (card * s) row s) card ≡ row
own_row s card rows row fits e = pasted s (card * s) rows row fits e
