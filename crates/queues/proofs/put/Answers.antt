use Rattle.queues.specs.Rings.{head_low}
use lib.ListN.{length-take, length-drop}
use native.Mathlib.Omega.{arith}
use Prim.Native.Nat.{◌-◌}
use Rattle.std.proofs.Common.{rules}
use Rattle.tables.specs.Layout.{room}
use Rattle.tables.specs.Lent.{stays}
use Rattle.queues.specs.Rings.{rings_in}
use Rattle.queues.specs.Putting.{put_done, not_full}
use Rattle.queues.proofs.put.Goals as goal

pub returns-then-many-depth : goal.returns-then-many-depth
returns-then-many-depth c =
    let a = c.args in
    let t = a.tables.now in
    stays (λ tidy g L z w p h. absurd (omega (arith, not_full g t.shape L t.bytes.now z w h a.q c.requires.1 a.ring p.0 p.1, c.count-many.ensures)))

pub put-requires : goal.put-requires
put-requires c =
    let t = c.args.tables.now in
    (omega (arith, c.head-first.ensures, head_low c.requires.0 t.bytes.now (c.args.q - 1)), omega arith, c.requires.0.few, simp (length-take, length-drop) (omega (arith, room t.fits, c.requires.0.room)), c.requires.2)

pub overflow_mul-at : goal.overflow_mul-at
overflow_mul-at c = omega (arith, rings_in c.args.tables.now.fits c.args.q c.requires.1)

pub overflow_add-at : goal.overflow_add-at
overflow_add-at c = omega (arith, rings_in c.args.tables.now.fits c.args.q c.requires.1)

pub overflow_add-at-2 : goal.overflow_add-at-2
overflow_add-at-2 c = omega (arith, rings_in c.args.tables.now.fits c.args.q c.requires.1)

pub bounds-tables-at : goal.bounds-tables-at
bounds-tables-at c = omega (arith, rings_in c.args.tables.now.fits c.args.q c.requires.1)

pub returns : goal.returns
returns c =
    let a = c.args in
    let t = a.tables.now in
    record {
      reference = search rules;
      shape = search rules;
      does = λ tidy g L z w p h. put_done g t.shape L t.bytes.now z w h a.q c.requires.1 a.ring p.0 a.entry.now _ _ _ c.requires.2 c.head-first.ensures c.count-many.ensures (omega arith) c.put.ensures.body_after;
    }
