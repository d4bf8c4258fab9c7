-- How much there is of each, and then the bytes of the queues, which lie within an accepted frame.
use Rattle.std.proofs.Common.{sym, ◌∙◌, ap}
use Rattle.configuration.specs.Limits.{limits_of}
use Rattle.configuration.specs.Accepted.{accepted, accepted_length}
use Rattle.configuration.specs.Room.{bytes_in}
use Rattle.configuration.specs.Within.{above, by_bytes}
use Rattle.configuration.proofs.frame.is_within.Goals as goal

pub few_enough-requires : goal.few_enough-requires
few_enough-requires c = accepted_length c.args.frame.now (accepted _ c.requires)

pub shapes-requires : goal.shapes-requires
shapes-requires c = (accepted c.args.frame.now c.requires).whole.front

pub returns-then-few_enough : goal.returns-then-few_enough
returns-then-few_enough c = let a = c.args in by_bytes (limits_of a.limits) a.frame.now (sym c.if-few_enough.ensures) _ (c.taken.ensures ∙ ap bytes_in c.shapes.ensures.part)

pub returns-else-few_enough : goal.returns-else-few_enough
returns-else-few_enough c = let a = c.args in c.if-few_enough.false ∙ above (limits_of a.limits) a.frame.now (sym c.if-few_enough.ensures)
