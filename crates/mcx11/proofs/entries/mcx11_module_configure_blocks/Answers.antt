-- The executive over these limits.
use Rattle.std.proofs.Common.{sym, subst}
use Rattle.configuration.specs.Limits.{Made, brake_module_made}
use Rattle.mcx11.specs.Begun.{configures_by}
use Rattle.mcx11.proofs.entries.mcx11_module_configure_blocks.Goals as goal

pub configure-requires : goal.configure-requires
configure-requires c = subst Made (sym c.brake_module.ensures) brake_module_made

pub returns : goal.returns
returns c = configures_by c.returned.ensures c.brake_module.ensures c.configure.ensures
