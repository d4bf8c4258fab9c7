-- A line is answered; of a part the bytes are held.
use native.Mathlib.Omega.{arith}
use Rattle.feeding.specs.Feeds.{turns_part, turns_line}
use Rattle.feeding.proofs.turn.Goals as goal

pub returns-in-Part : goal.returns-in-Part
returns-in-Part c = let g = c.in-Part.ensures in (c.requires.0, omega arith, g.few, omega arith, turns_part _ _ _ _ _ _ _ g)

pub returns-in-Line : goal.returns-in-Line
returns-in-Line c =
    let g = c.in-Line.ensures in
    let a = c.answer_line-a in
    (g.onward, g.up_to, omega arith, a.ensures.0, turns_line _ _ _ _ _ _ _ _ g _ _ _ a.ensures.1)
