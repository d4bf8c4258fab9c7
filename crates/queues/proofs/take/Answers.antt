-- `take` copies the oldest entry into the slot, steps the ring on and names the entry as the outcome. An empty queue is none that the caller has seen.
use native.Mathlib.Omega.{arith}
use Prim.Native.Nat.{◌-◌}
use mathlib.Core.Path.{ap}
use lib.ListN.{length-take, length-drop, length}
use Rattle.tables.specs.Lent.{stays, going}
use Rattle.queues.specs.Rings.{head_low, count_low, held_length}
use Rattle.queues.specs.Taking.{take_done}
use Rattle.queues.proofs.take.Goals as goal

pub returns-then-many-eq0 : goal.returns-then-many-eq0
returns-then-many-eq0 c =
    let a = c.args in
    let b = a.tables.now in
    stays (λ e es tidy g L w p h. absurd (omega (arith, held_length g b.shape L b.bytes.now a.slots.now w h a.q c.requires.1 a.ring p.0, ap length p.1, c.count-many.ensures)))

pub copy_first-next-requires : goal.copy_first-next-requires
copy_first-next-requires c =
    let d = c.args.tables.now.bytes.now in
    let i = c.args.q - 1 in (
      c.requires.0,
      omega (arith, c.head-first.ensures, head_low c.requires.0 d i),
      omega arith,
      omega (arith, c.count-many.ensures, count_low c.requires.0 d i),
      simp (length-take, length-drop) (omega (arith, c.requires.0.narrow)),
    )

pub overflow_cast-next : goal.overflow_cast-next
overflow_cast-next c = omega (arith, c.copy_first-next.ensures.upper_bound.0, c.requires.0.few)

pub overflow_cast-many : goal.overflow_cast-many
overflow_cast-many c = omega (arith, c.count-many.ensures, count_low c.requires.0 c.args.tables.now.bytes.now (c.args.q - 1), c.requires.0.few)

pub returns : goal.returns
returns c =
    let a = c.args in
    let b = a.tables.now in
    going c.step_on.ensures c.set_outcome.ensures.does (λ on put e es tidy g L w p h.
    take_done g b.shape L b.bytes.now a.slots.now w h a.t c.requires.2 e es _ _ _ _ _ _ a.q c.requires.1 a.ring p.0
    p.1 c.head-first.ensures c.count-many.ensures (omega (arith, c.if-many-eq0.false)) c.copy_first-next.ensures.out_after c.copy_first-next.ensures.upper_bound on (λ tidy M z w h. put tidy g M z w h))
