-- The frame of the configuration, then the messages: each way out says what they are.
use Rattle.configuration.specs.Limits.{limits_of}
use Rattle.mcx11.specs.Tested.{tested_frame, tested_fits, tested_messages}
use Rattle.mcx11.proofs.lent.test.Goals as goal

pub returns-in_default : goal.returns-in_default
returns-in_default c = let a = c.args in tested_frame (limits_of a.limits) a.kept.now a.tables.now c.in_default.ensures

pub by_messages-requires : goal.by_messages-requires
by_messages-requires c =
    let a = c.args in
    let g = c.in-Some.ensures in
    tested_fits (limits_of a.limits) a.kept.now a.tables.now c.requires.0 g.0 _ g.1 c.requires.2

pub returns : goal.returns
returns c =
    let a = c.args in
    let g = c.in-Some.ensures in
    tested_messages (limits_of a.limits) a.kept.now a.tables.now c.requires.0 g.0 _ g.1 _ c.by_messages.ensures
