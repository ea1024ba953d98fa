use Rattle.std.proofs.Common.{◌≡◌, ℕ, ◌*◌, ◌<◌, List, length, true, false, sym, ◌∙◌, subst, arith}
use Rattle.measure.specs.Kind.{Kind}
use Rattle.labels.specs.declared.Slot.{Slot}
use Rattle.labels.specs.Labels.{is_queued, slot, table, Waits, Leader}
use Rattle.labels.specs.Tournament.{named, Noted}
use Rattle.labels.proofs.Standing.{named_inside, root_leads, root_none}
use Rattle.labels.proofs.Climbing.{read_queued}
use Rattle.routing.proofs.tournament.Tournament.first_queued.Goals as goal

-- the root's place is one of the slice
inside : {V L : Type 0} (K : Kind V L) (l : L) (xs : List (Slot V)) (k sites : ℕ) → 0 < sites → length xs ≡ sites * k → Noted K l (table K xs) (slot K xs) k sites → (place : ℕ) → place ≡ named (slot K xs) sites 1 → place < length xs
inside K l xs k sites any size noted place e =
    let h = named_inside K l (table K xs) (slot K xs) k sites noted.grounds.inside noted.bests 1 (omega arith) (omega arith) in
    omega arith

pub offset_bounds-slots-place : goal.offset_bounds-slots-place
offset_bounds-slots-place g c =
    let self = c.args.self.now in
    let low = inside g.M.Measure.kind self.limit c.args.slots.now self.k self.sites self.any c.requires.size c.requires.noted c.named-place.result c.named-place.ensures in
    omega (arith, low)

pub bounds-slots-place : goal.bounds-slots-place
bounds-slots-place g c =
    let self = c.args.self.now in
    inside g.M.Measure.kind self.limit c.args.slots.now self.k self.sites self.any c.requires.size c.requires.noted c.named-place.result c.named-place.ensures

pub returns-then-is_waiting : goal.returns-then-is_waiting
returns-then-is_waiting g c =
    let K = g.M.Measure.kind in
    let self = c.args.self.now in
    let xs = c.args.slots.now in
    let root = named (slot K xs) self.sites 1 in
    let low = inside K self.limit xs self.k self.sites self.any c.requires.size c.requires.noted c.named-place.result c.named-place.ensures in
    let w : Waits (table K xs) root = subst (λ (x : ℕ). is_queued (table K xs x).state ≡ true) c.named-place.ensures (read_queued K xs c.named-place.result c.index-slots-place.result low c.index-slots-place.is c.is_waiting.result c.is_waiting.ensures ∙ c.if-is_waiting.true) in
    let lead : Leader K self.limit (table K xs) (self.sites * self.k) root = root_leads g.met.M.Measure.lawful self.limit self.admitted (table K xs) c.requires.fits (slot K xs) self.k self.sites self.some c.requires.noted self.any w in
    subst (λ (x : ℕ). Leader K self.limit (table K xs) x c.named-place.result) (sym c.requires.size) (subst (λ (x : ℕ). Leader K self.limit (table K xs) (self.sites * self.k) x) (sym c.named-place.ensures) lead)

pub returns-else-is_waiting : goal.returns-else-is_waiting
returns-else-is_waiting g c =
    let K = g.M.Measure.kind in
    let self = c.args.self.now in
    let xs = c.args.slots.now in
    let root = named (slot K xs) self.sites 1 in
    let low = inside K self.limit xs self.k self.sites self.any c.requires.size c.requires.noted c.named-place.result c.named-place.ensures in
    let idle : is_queued (table K xs root).state ≡ false = subst (λ (x : ℕ). is_queued (table K xs x).state ≡ false) c.named-place.ensures (read_queued K xs c.named-place.result c.index-slots-place.result low c.index-slots-place.is c.is_waiting.result c.is_waiting.ensures ∙ c.if-is_waiting.false) in
    let none = root_none g.met.M.Measure.lawful self.limit self.admitted (table K xs) c.requires.fits (slot K xs) self.k self.sites self.some c.requires.noted idle in
    λ q lt w. none q (omega (arith, c.requires.size)) w
