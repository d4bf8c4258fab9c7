-- The executive over these limits.
use Rattle.std.proofs.Common.{sym, subst}
use Rattle.configuration.specs.Limits.{Made, brake_module_made}
use Rattle.mcx11.proofs.Inside.{frames_by}
use Rattle.mcx11.proofs.entries.mcx11_module_frame_blocks.Goals as goal

pub frame-requires : goal.frame-requires
frame-requires c = subst Made (sym c.brake_module.ensures) brake_module_made

pub returns : goal.returns
returns c = frames_by c.returned.ensures c.brake_module.ensures c.frame.ensures
