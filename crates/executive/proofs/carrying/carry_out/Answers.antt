-- `carry_out`: an accepted frame has five bytes, and its code is in the table.
use mathlib.Core.Path.{sym, ◌∙◌}
use native.Mathlib.Omega.{arith}
use Rattle.ledger.specs.Config.{config_in}
use Rattle.ledger.proofs.Theorems.Checks.{never}
use Rattle.executive.specs.Carried.{long_passed, within_passed}
use Rattle.executive.proofs.carrying.carry_out.Goals as goal

pub bounds-frame-0 : goal.bounds-frame-0
bounds-frame-0 c = let h = long_passed (config_in c.args.lent.now.config.now) c.args.me c.args.frame.now c.requires.1.input in omega arith

pub returns-in_default : goal.returns-in_default
returns-in_default c = never (sym c.in_default.ensures.1 ∙ within_passed (config_in c.args.lent.now.config.now) c.args.me c.args.frame.now c.requires.1.input)

pub carried-requires : goal.carried-requires
carried-requires c = (long_passed (config_in c.args.lent.now.config.now) c.args.me c.args.frame.now c.requires.1.input, c.in-Ok.ensures, c.requires.0, c.requires.1)
