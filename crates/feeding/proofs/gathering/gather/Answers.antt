-- A turn gathers the next byte: it is the line's end, or is held, or shows no more of a line that is too long.
use Rattle.std.proofs.Common.{arith, eq-eqb, ne_eqb}
use Rattle.feeding.specs.Line.{gathering_start, gathering_more, gathering_full, gathered_line}
use Rattle.feeding.proofs.gathering.gather.Goals as goal
use Rattle.feeding.proofs.gathering.gather.Goals.{then-held-lt-HELD, else-held-lt-HELD}

pub loop-i-init : goal.loop-i-init
loop-i-init c = gathering_start _ _ _ _ c.requires.0 c.requires.2

pub returns-then-b-eq10 : goal.returns-then-b-eq10
returns-then-b-eq10 c = gathered_line _ _ _ _ _ _ _ c.loop-i.invariant c.loop-i-test.true (eq-eqb _ _ c.if-b-eq10.true)

pub loop-i-preserved : goal.loop-i-preserved
loop-i-preserved c =
    let l = c.loop-i in
    let no_end = ne_eqb _ _ c.if-b-eq10.false in
    elim c.if-held-lt-HELD.branch [
      | then-held-lt-HELD w ↦ rw (w.line-is, w.held-is) (gathering_more _ _ _ _ _ _ _ l.invariant c.loop-i-test.true no_end w.if-held-lt-HELD.true (omega arith))
      | else-held-lt-HELD w ↦ rw (w.line-is, w.held-is) (gathering_full _ _ _ _ _ _ _ l.invariant c.loop-i-test.true no_end w.if-held-lt-HELD.false)
    ]
