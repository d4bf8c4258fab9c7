-- The rest of the test for 11, then the step over the parts.
use Rattle.configuration.specs.Limits.{limits_of}
use Rattle.mcx11.specs.Inside.{inside_bad, room_here, inside_fed}
use Rattle.mcx11.proofs.by_limits.inside.Goals as goal

pub test-requires : goal.test-requires
test-requires c = (c.requires.0, c.requires.1, c.requires.2.tables)

pub feed-requires : goal.feed-requires
feed-requires c =
    let a = c.args in
    let t = c.in-Some.ensures in
    room_here (limits_of a.limits) a.frame.now a.kept.now a.tables.now a.slots.now a.timers.now a.answer.now _ t.0 t.1 c.requires.0 c.requires.2

pub returns-in_default : goal.returns-in_default
returns-in_default c = let a = c.args in inside_bad (limits_of a.limits) a.frame.now a.kept.now a.tables.now a.slots.now a.timers.now a.answer.now c.in_default.ensures

pub returns : goal.returns
returns c =
    let a = c.args in
    let t = c.in-Some.ensures in
    inside_fed (limits_of a.limits) a.frame.now a.kept.now a.tables.now a.slots.now a.timers.now a.answer.now _ t.0 t.1 _ _ _ _ _ c.feed.ensures
