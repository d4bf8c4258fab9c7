-- The parts lie within the blocks; a step over them, and they are back.
use Rattle.mcx11.specs.Inside.{step_asks, fed}
use Rattle.mcx11.proofs.by_limits.feed.Goals as goal

pub step-requires : goal.step-requires
step-requires c = let q = step_asks c.requires.0 in (q.0, c.requires.1, q.1)

pub returns : goal.returns
returns c =
    let k = c.step.auto in
    fed c.requires.0 c.args.frame.now c.args.answer.now _ _ _ _ _ k.tables k.slots k.timers c.step.ensures
