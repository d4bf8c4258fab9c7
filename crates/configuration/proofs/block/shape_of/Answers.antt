-- An accepted frame has all its queues, and its queues take at most 4,096 bytes.
use Rattle.std.proofs.Common.{◌∙◌, ap}
use Rattle.configuration.specs.Room.{bytes_in}
use Rattle.configuration.specs.Accepted.{accepted, accepted_length, accepted_room, accepted_laid}
use Rattle.configuration.proofs.block.shape_of.Goals as goal

pub shapes-requires : goal.shapes-requires
shapes-requires c = (accepted c.args.frame.now c.requires).whole.front

pub laid-requires : goal.laid-requires
laid-requires c =
    let f = c.args.frame.now in
    let a = accepted f c.requires in
    (accepted_length f a, accepted_room f a _ (c.taken.ensures ∙ ap bytes_in c.shapes.ensures.part))

pub returns : goal.returns
returns c = let f = c.args.frame.now in accepted_laid f (accepted f c.requires) _ (c.taken.ensures ∙ ap bytes_in c.shapes.ensures.part) _ c.laid.ensures
