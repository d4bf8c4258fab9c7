-- `refusal`: each code's checks; a frame without a code of the table is refused before.
use native.Mathlib.Omega.{arith}
use Rattle.std.proofs.lemmas.Bool.Decides.{nat_tests}
use Rattle.command.specs.Refused.{too_short, no_code}
use Rattle.command.proofs.refusal.Goals as goal

pub returns-then-frame-lt5-clause-refuses : goal.returns-then-frame-lt5-clause-refuses
returns-then-frame-lt5-clause-refuses c = too_short c.args.frame.now c.if-frame-lt5.true

pub returns-in_default-clause-refuses : goal.returns-in_default-clause-refuses
returns-in_default-clause-refuses c = no_code c.args.frame.now c.if-frame-lt5.false (grind (arith, nat_tests))
