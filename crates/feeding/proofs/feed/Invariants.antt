-- The loop keeps `Going`: the input is fed up to the next byte. The measure is what is left of it.
use Prim.Native.Nat.{◌-◌}
use lib.ListN.{length}
use Rattle.mcx11.specs.Contract.{memory}
use Rattle.feeding.specs.Feeds.{lent, Going}
use Rattle.feeding.proofs.feed.Given as goal

abbrev pub invariant-loop-r : goal.invariant-loop-r
invariant-loop-r l =
    let i = l.initial in
    Going l.input i.r (lent i.line (memory i.config i.tables i.slots i.timers i.answer) i.out) l.r (lent l.line (memory l.config l.tables l.slots l.timers l.answer) l.out)

abbrev pub decreases-loop-r : goal.decreases-loop-r
decreases-loop-r l = length l.input - l.r.next
