-- `checked`: the row of the code, the ledger's first list, the meant fields, and its second list.
use mathlib.Core.Path.{sym, ap, subst, ◌∙◌}
use Prim.Native.Nat.{ℕ}
use Rattle.ledger.specs.Lists.{within}
use native.Mathlib.Omega.{arith}
use Rattle.ledger.specs.Config.{config_in}
use Rattle.ledger.proofs.Theorems.Accepted.{good}
use Rattle.command.specs.Codes.{IsCode}
use Rattle.command.specs.Configured.{of, fits}
use Rattle.command.specs.Numbers.{refused}
use Rattle.command.specs.Refused.{no_code, row_is, by_input, by_state, task_is, semaphore_is, owner_of, waits_of, means}
use Rattle.command.proofs.checked.Goals as goal

pub returns-in_default-clause-refuses : goal.returns-in_default-clause-refuses
returns-in_default-clause-refuses c = no_code c.args.frame.now c.requires.0 (ap (λ (n : ℕ). within 1 18 n) c.requires.1 ∙ c.in_default.ensures.1)

pub input-requires : goal.input-requires
input-requires c = (row_is c.args.frame.now _ c.row-u.result c.requires.0 (subst (λ (n : ℕ). IsCode n c.in-Ok.code) (sym c.requires.1) c.in-Ok.ensures) c.row-u.ensures, c.requires.2)

pub returns-in-Err-clause-refuses : goal.returns-in-Err-clause-refuses
returns-in-Err-clause-refuses c = by_input c.args.frame.now _ c.in-Err.ensures (refused _)

pub meant_semaphore-b-requires : goal.meant_semaphore-b-requires
meant_semaphore-b-requires c = let g = config_in c.args.config.now in let f = c.args.frame.now in let o = of c.requires.2 in let r = row_is f _ c.row-u.result c.requires.0 (subst (λ (n : ℕ). IsCode n c.in-Ok.code) (sym c.requires.1) c.in-Ok.ensures) c.row-u.ensures in let e = sym c.in_default-input.ensures in let k = good g c.args.me f (omega (arith, c.requires.4, o.tasks)) e in (fits c.requires.2, c.requires.4, owner_of o c.args.me f _ r k _ (task_is g c.args.me r c.meant_task-a.ensures))

pub state-requires : goal.state-requires
state-requires c = let g = config_in c.args.config.now in let f = c.args.frame.now in let o = of c.requires.2 in let r = row_is f _ c.row-u.result c.requires.0 (subst (λ (n : ℕ). IsCode n c.in-Ok.code) (sym c.requires.1) c.in-Ok.ensures) c.row-u.ensures in let e = sym c.in_default-input.ensures in let k = good g c.args.me f (omega (arith, c.requires.4, o.tasks)) e in let a = task_is g c.args.me r c.meant_task-a.ensures in (c.requires.2, c.args.tables.now.fits, c.requires.3, waits_of o c.args.me f _ r k _ a _ (semaphore_is g c.args.me r a (c.meant_semaphore-b.ensures g o)))

pub returns-in-Err-state-clause-refuses : goal.returns-in-Err-state-clause-refuses
returns-in-Err-state-clause-refuses c = let g = config_in c.args.config.now in let f = c.args.frame.now in let o = of c.requires.2 in let r = row_is f _ c.row-u.result c.requires.0 (subst (λ (n : ℕ). IsCode n c.in-Ok.code) (sym c.requires.1) c.in-Ok.ensures) c.row-u.ensures in let e = sym c.in_default-input.ensures in let k = good g c.args.me f (omega (arith, c.requires.4, o.tasks)) e in let a = task_is g c.args.me r c.meant_task-a.ensures in by_state f e _ (λ L z h. c.in-Err-state.ensures _ (means o c.args.me f _ r k _ a _ (semaphore_is g c.args.me r a (c.meant_semaphore-b.ensures g o))) L z h)

pub returns-clause-refuses : goal.returns-clause-refuses
returns-clause-refuses c = let g = config_in c.args.config.now in let f = c.args.frame.now in let o = of c.requires.2 in let r = row_is f _ c.row-u.result c.requires.0 (subst (λ (n : ℕ). IsCode n c.in-Ok.code) (sym c.requires.1) c.in-Ok.ensures) c.row-u.ensures in let e = sym c.in_default-input.ensures in let k = good g c.args.me f (omega (arith, c.requires.4, o.tasks)) e in let a = task_is g c.args.me r c.meant_task-a.ensures in by_state f e _ (λ L z h. c.in_default-state.ensures _ (means o c.args.me f _ r k _ a _ (semaphore_is g c.args.me r a (c.meant_semaphore-b.ensures g o))) L z h)
