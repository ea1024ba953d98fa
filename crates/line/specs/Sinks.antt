-- What a sink takes: bytes that are counted, and bytes that are written.
use Rattle.std.specs.Prelude.{◌≡◌, ℕ, ◌+◌, ◌-◌, ◌≤◌, cond, nat_le, List, [], ◌++◌, length, take, drop, Ok, Some, None, Option}
use Rattle.std.proofs.lemmas.Bool.Decides.{nat_tests}
use Rattle.std.proofs.Common.{refl, sym, ap, ◌∙◌, append_assoc, arith, length-append, length-take, length-drop, take-append-drop, drop-drop, take_at, drop_at}
use Rattle.report.specs.Buffers.{Put}
use Rattle.line.specs.declared.sinks.Room.{Room}
use Rattle.line.specs.declared.sinks.Writer.{Writer}

-- the room that is left after so many bytes, if they have room
abbrev pub left : Option ℕ → ℕ → Option ℕ
left None count = None
left (Some room) count = cond (nat_le count room) (Some (room - count)) None

-- the bytes took their room
abbrev pub Counted : Room → List ℕ → Room → Type 0
Counted s bytes t = t.0 ≡ left s.0 (length bytes)

left_none : (room : Option ℕ) → room ≡ left room 0
left_none None = refl
left_none (Some room) = grind (arith, nat_tests)

left_both : (room : Option ℕ) (m n : ℕ) → left (left room m) n ≡ left room (m + n)
left_both None m n = refl
left_both (Some room) m n = grind (arith, nat_tests)

pub counted_none : (s : Room) → Counted s [] s
counted_none s = left_none s.0

pub counted_both : (s t u : Room) (a b : List ℕ) → Counted s a t → Counted t b u → Counted s (a ++ b) u
counted_both s t u a b p q = simp length-append (q ∙ ap (λ room. left room (length b)) p ∙ left_both s.0 (length a) (length b))

-- where there is room for the bytes, they were written at the writer's place, which moved on by them
abbrev pub Written : Writer → List ℕ → Writer → Type 0
Written s bytes t = (t.buffer.ghost_name ≡ s.buffer.ghost_name) × (s.at + length bytes ≤ length s.buffer.now → Put bytes s.at s.buffer.now t.buffer.now (Ok t.at))

pub written_none : (s : Writer) → Written s [] s
written_none s = (refl, λ room. (omega arith, omega arith, sym (take-append-drop s.at s.buffer.now)))

put_length : (a : List ℕ) (at m : ℕ) (w0 w1 : List ℕ) → Put a at w0 w1 (Ok m) → length w1 ≡ length w0
put_length a at m w0 w1 (s, h, p) = ap length p ∙ simp (length-append, length-take, length-drop) (omega arith)

-- bytes that are put after others are put with them
put_both : (a b : List ℕ) (at m r : ℕ) (w0 w1 w2 : List ℕ) → Put a at w0 w1 (Ok m) → Put b m w1 w2 (Ok r) → Put (a ++ b) at w0 w2 (Ok r)
put_both a b at m r w0 w1 w2 (s, h, p) (t, k, q) =
    let front = take at w0 ++ a in
    let long : length front ≡ m = simp (length-append, length-take) (omega arith) in
    let first : w1 ≡ front ++ drop m w0 = simp append_assoc p in
    let head : take m w1 ≡ front = rw first (take_at front (drop m w0) m long) in
    let after : drop m w1 ≡ drop m w0 = rw first (drop_at front (drop m w0) m long) in
    let tail : drop r w1 ≡ drop r w0 = rw t (sym (drop-drop (length b) m w1) ∙ ap (drop (length b)) after ∙ drop-drop (length b) m w0) in
    (simp length-append (omega arith), (let same = put_length a at m w0 w1 (s, h, p) in omega arith), q ∙ rw (head, tail) (simp append_assoc refl))

pub written_both : (s t u : Writer) (a b : List ℕ) → Written s a t → Written t b u → Written s (a ++ b) u
written_both s t u a b p q = (
  q.0 ∙ p.0,
  λ room.
      let long = simp length-append at room in
      let first = p.1 (omega arith) in
      let same = put_length a s.at t.at s.buffer.now t.buffer.now first in
      put_both a b s.at t.at u.at s.buffer.now t.buffer.now u.buffer.now first (q.1 (omega arith)),
)
