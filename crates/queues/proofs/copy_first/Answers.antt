-- `copy_first` lends the ring's part of the tables.
use native.Mathlib.Omega.{arith}
use lib.ListN.{length-take, length-drop}
use Rattle.tables.specs.Layout.{room}
use Rattle.queues.specs.Rings.{body_in}
use Rattle.queues.proofs.copy_first.Goals as goal

pub take_out-requires : goal.take_out-requires
take_out-requires c =
    let q = c.requires in
    (q.1, q.2, q.3, q.0.few, simp (length-take, length-drop) (omega (arith, room c.args.tables.now.fits, q.0.room)), q.4)

pub returns : goal.returns
unfolding body_in
returns c = record { out_after = c.take_out.ensures.out_after; upper_bound = c.take_out.ensures.upper_bound }
