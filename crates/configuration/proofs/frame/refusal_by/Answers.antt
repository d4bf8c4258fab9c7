-- What document 01 refuses keeps its number; of the rest the limits decide.
use Rattle.std.proofs.Common.{sym, ◌∙◌, arith}
use Rattle.refusals.specs.Numbers.{number_some}
use Rattle.ledger.proofs.Theorems.Within.{other_number, gives_27, accepted_by}
use Rattle.configuration.specs.Limits.{limits_of}
use Rattle.configuration.proofs.frame.refusal_by.Goals as goal

pub returns-in-Err : goal.returns-in-Err
returns-in-Err c = let a = c.args in let e = c.in-Err.ensures in e ∙ sym (other_number (limits_of a.limits) a.frame.now (λ z. omega (arith, number_some c.in-Err.refusal, e, z)))

pub returns-then-not-is_within : goal.returns-then-not-is_within
returns-then-not-is_within c = let a = c.args in sym (gives_27 (limits_of a.limits) a.frame.now (sym c.in_default.ensures) (sym c.if-not-is_within.ensures))

pub returns : goal.returns
returns c = let a = c.args in sym (accepted_by (limits_of a.limits) a.frame.now (sym c.in_default.ensures) (sym c.if-not-is_within.ensures))
