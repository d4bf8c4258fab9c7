-- `settle_open` issues again until the running task has no open request, 2T times at most, as the ledger's fuel has it.
use mathlib.Core.Bool.{true}
use Rattle.tables.specs.Layout.{OneOf}
use Rattle.executive.specs.Lent.{Step}
use Rattle.executive.specs.Kept.{Runs, Kept}
use Rattle.executive.proofs.settling.settle_open.Given as goal

abbrev pub invariant-loop-n : goal.invariant-loop-n
invariant-loop-n l =
    let s = l.initial.lent.tables.now.shape in
    OneOf s.tasks l.running × Runs s l.lent.tables.now.bytes.now l.running true × Step l.initial.lent l.lent (λ c s d z d' z'. Kept c s d z d' z' l.n)
