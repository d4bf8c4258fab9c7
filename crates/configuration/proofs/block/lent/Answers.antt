-- Where the values are good the queues lie within the frame, and their room says the rest.
use Rattle.std.proofs.Common.{sym, ◌∙◌, ap, arith}
use Rattle.configuration.specs.Limits.{limits_of}
use Rattle.configuration.specs.Room.{room_in}
use Rattle.configuration.specs.Lent.{lent_front, lent_values, lent_room, lent_good}
use Rattle.configuration.proofs.block.lent.Goals as goal

pub good_values-requires : goal.good_values-requires
good_values-requires c = omega (arith, lent_front (limits_of c.args.limits) c.args.frame.now c.requires.1)

pub returns-then-not-good_values : goal.returns-then-not-good_values
returns-then-not-good_values c = lent_values (limits_of c.args.limits) c.args.frame.now c.requires.1 (sym c.if-not-good_values.ensures)

pub shapes-requires : goal.shapes-requires
shapes-requires c = lent_front (limits_of c.args.limits) c.args.frame.now c.requires.1

pub returns-then-room-limits : goal.returns-then-room-limits
returns-then-room-limits c =
    lent_room (limits_of c.args.limits) c.args.frame.now c.requires.1 c.requires.0 (sym c.if-not-good_values.ensures) (omega (arith, c.if-room-limits.true, c.room-room.ensures ∙ ap room_in c.shapes.ensures.part))

pub laid-requires : goal.laid-requires
laid-requires c = (omega (arith, lent_front (limits_of c.args.limits) c.args.frame.now c.requires.1), omega (arith, c.if-room-limits.false, c.requires.0.bytes))

pub returns : goal.returns
returns c =
    lent_good (limits_of c.args.limits) c.args.frame.now c.requires.1 c.requires.0 (sym c.if-not-good_values.ensures) _ (c.room-room.ensures ∙ ap room_in c.shapes.ensures.part)
    (omega (arith, c.if-room-limits.false)) _ c.laid.ensures
