-- News goes from card to card.
use Rattle.std.proofs.Common.{◌≡◌, ℕ, zero, suc, ◌+◌, ◌<◌, ◌≤◌, Bool, true, false, cond, List, length, set, None, Option, sym, ap, ◌∙◌, subst, ⊎_elim, add-one, arith, length-set, get_or-set_other, get_or-set_same}
use Rattle.std.proofs.lemmas.Bool.{cases_eq, cases_lt}
use Rattle.std.proofs.lemmas.List.{get_or_past}
use Rattle.catalogue.specs.Places.{at}
use Rattle.cards.specs.declared.Card.{Card}
use Rattle.cards.specs.Books.{Book}
use Rattle.cards.specs.Doubts.{Rule, lapsed, fell, tally, strikes, Doubted}

tally_below : (test : ℕ → Bool) (n : ℕ) → tally test n ≤ n
tally_below test zero = omega arith
tally_below test (suc n) = go (test n) (tally_below test n)
  where
    go : (b : Bool) → tally test n ≤ n → tally test n + cond b 1 0 ≤ suc n
    go true h = omega arith
    go false h = omega arith

module _ {V L : Type 0} (rule : Rule V L) (b : Book V L) where
  -- the first i cards are done
  pub record Partly (cards : List (Option (Card V L))) (i count : ℕ) : Type 0 where
    pub places : length cards ≡ length b.cards
    pub done : (c : ℕ) → c < i → at cards c ≡ lapsed (strikes rule b c) (at b.cards c)
    pub rest : (c : ℕ) → i ≤ c → at cards c ≡ at b.cards c
    pub total : count ≡ tally (λ c. fell (strikes rule b c) (at b.cards c)) i

  pub partly_more : (cards : List (Option (Card V L))) (i count : ℕ) (fallen : Bool) (count' : ℕ) → i < length cards →
      fallen ≡ fell (strikes rule b i) (at cards i) → count' ≡ count + cond fallen 1 0 →
      Partly cards i count → Partly (set cards i (lapsed (strikes rule b i) (at cards i))) (i + 1) count'
  partly_more cards i count fallen count' lt fallen_is more p =
      let was : at cards i ≡ at b.cards i = p.rest i (omega arith) in
      let after = lapsed (strikes rule b i) (at cards i) in
      let test : ℕ → Bool = λ c. fell (strikes rule b c) (at b.cards c) in
      record {
        places = length-set cards i after ∙ p.places;
        done = λ c less. ⊎_elim
            (λ e. subst (λ x. at (set cards i after) x ≡ lapsed (strikes rule b x) (at b.cards x)) (sym e)
            (get_or-set_same cards i after None lt ∙ ap (lapsed (strikes rule b i)) was))
            (λ ne. get_or-set_other cards i c after None ne ∙ p.done c (omega arith))
            (cases_eq c i);
        rest = λ c le. get_or-set_other cards i c after None (omega arith) ∙ p.rest c (omega arith);
        total = more ∙ ap (λ n. n + cond fallen 1 0) p.total ∙ ap (λ b. tally test i + cond b 1 0) (fallen_is ∙ ap (fell (strikes rule b i)) was)
            ∙ ap (tally test) (sym (add-one i));
      }

  pub partly_all : (cards : List (Option (Card V L))) (i count : ℕ) → length b.cards ≤ i → i ≤ length b.cards → Partly cards i count → Doubted rule b cards count
  partly_all cards i count le ge p =
      let e : i ≡ length b.cards = omega arith in
      record {
        places = p.places;
        each = λ c. ⊎_elim (λ lt. p.done c (omega arith))
            (λ past. p.rest c past ∙ get_or_past b.cards c None (omega arith) ∙ sym (ap (lapsed (strikes rule b c)) (get_or_past b.cards c None (omega arith)))) (cases_lt c i);
        total = p.total ∙ ap (tally (λ c. fell (strikes rule b c) (at b.cards c))) e;
      }

  pub partly_count : (cards : List (Option (Card V L))) (i count : ℕ) → Partly cards i count → count ≤ i
  partly_count cards i count p = omega (arith, p.total, tally_below (λ c. fell (strikes rule b c) (at b.cards c)) i)
