-- The executive over these limits.
use Rattle.std.proofs.Common.{sym, subst}
use Rattle.configuration.specs.Limits.{Made, controller_made}
use Rattle.mcx11.proofs.Inside.{frames_by}
use Rattle.mcx11.proofs.entries.mcx11_frame_blocks.Goals as goal

pub frame-requires : goal.frame-requires
frame-requires c = subst Made (sym c.controller.ensures) controller_made

pub returns : goal.returns
returns c = frames_by c.returned.ensures c.controller.ensures c.frame.ensures
