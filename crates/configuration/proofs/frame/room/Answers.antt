-- Each queue's bytes are what the function computes of them.
use Rattle.std.proofs.Common.{rules}
use Rattle.configuration.specs.Room.{bytes_or_none, room_in}
use Rattle.configuration.proofs.frame.room.Goals as goal

pub returns : goal.returns
unfolding room_in
returns c = c.total.ensures bytes_or_none (λ size n h. search rules)
