-- Limits: what the program's are, and what the tables are made for.
use Rattle.std.specs.Prelude.{◌≤◌}
use Rattle.std.proofs.Common.{arith}
use Rattle.ledger.specs.Config as config
use Rattle.ledger.specs.Config.{controller, brake_module}
use Rattle.configuration.specs.declared.limits.Limits.{Limits}

abbrev pub limits_of : Limits → config.Limits
limits_of m = record { tasks = m.tasks; queues = m.queues; timers = m.timers; messages = m.messages; bytes = m.bytes }

-- no more than a plane has bits for, and than the controller has
pub record Made (m : config.Limits) : Type 0 where
  pub tasks : m.tasks ≤ 126
  pub queues : m.queues ≤ 32
  pub timers : m.timers ≤ 64
  pub messages : m.messages ≤ 64
  pub bytes : m.bytes ≤ 4096

pub controller_made : Made controller
controller_made = record { tasks = omega arith; queues = omega arith; timers = omega arith; messages = omega arith; bytes = omega arith }

pub brake_module_made : Made brake_module
brake_module_made = record { tasks = omega arith; queues = omega arith; timers = omega arith; messages = omega arith; bytes = omega arith }
