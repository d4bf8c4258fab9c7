-- `has` is a search: no timer before place k is for that task and semaphore.
use mathlib.Core.Path.{refl}
use native.Mathlib.Omega.{arith}
use Rattle.timers.specs.Timers.{started_for}
use Rattle.timers.specs.Loops.{found, not_found, search_on}
use Rattle.timers.proofs.has.Goals as goal

pub returns-then-is_for : goal.returns-then-is_for
returns-then-is_for c =
    let l = c.loop-k in
    found (started_for c.args.task c.args.semaphore) (λ x y t. refl) c.args.n l.k c.args.b.now l.invariant c.is_for.result (omega arith) c.is_for.ensures c.if-is_for.true

pub loop-k-preserved : goal.loop-k-preserved
loop-k-preserved c =
    let l = c.loop-k in
    search_on (started_for c.args.task c.args.semaphore) (λ x y t. refl) c.args.n l.k c.args.b.now l.invariant c.is_for.result (omega arith) c.is_for.ensures c.if-is_for.false

pub returns : goal.returns
returns c =
    let l = c.loop-k in
    not_found (started_for c.args.task c.args.semaphore) (λ x y t. refl) c.args.n l.k c.args.b.now l.invariant (omega arith)
