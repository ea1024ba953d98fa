-- What is read into the rest of a buffer comes behind what was read before.
use Rattle.std.proofs.Common.{◌≡◌, ℕ, ◌+◌, ◌-◌, ◌≤◌, List, ◌++◌, length, take, ap, ◌∙◌, sym, arith}
use Rattle.std.proofs.lemmas.List.{take-append-le, length-take-le, length-append}
use Rattle.std.proofs.Math.Seq.{take-append-add}
use borrow.Rule.Slice.PartMut.{put_mid, post_of}

pub took_more : (buffer room : List ℕ) (got n : ℕ) → got ≤ length buffer → n ≤ length room →
    take (got + n) (put_mid got (length buffer - got) buffer room) ≡ take got buffer ++ take n room
took_more buffer room got n h k =
    let front = take got buffer in
    let post = post_of got (length buffer - got) buffer in
    ap (λ i. take (i + n) (front ++ (room ++ post))) (sym (length-take-le got buffer h)) ∙ take-append-add front (room ++ post) n
    ∙ ap (λ (x : List ℕ). front ++ x) (take-append-le n room post k)

pub took_fits : (buffer room : List ℕ) (got n : ℕ) → got ≤ length buffer → n ≤ length room →
    got + n ≤ length (put_mid got (length buffer - got) buffer room)
took_fits buffer room got n h k =
    let post = post_of got (length buffer - got) buffer in
    omega (arith, length-append (take got buffer) (room ++ post), length-append room post, length-take-le got buffer h)
