-- `row_of` stores the two numbers behind the two bytes, so that none of the zeros is left.
use mathlib.Core.Path.{refl}
use mathlib.Core.List.{[], ◌∷◌}
use Rattle.timers.specs.Bytes.{row_made}
use Rattle.timers.proofs.row_of.Goals as goal

pub returns : goal.returns
returns c =
    let a = c.args in
    let x = c.put4 in
    let y = c.put4-2 in
    row_made a.t.task a.t.semaphore a.due a.t.period (a.t.task ∷ a.t.semaphore ∷ 0 ∷ 0 ∷ 0 ∷ 0 ∷ 0 ∷ 0 ∷ 0 ∷ 0 ∷ []) x.new.b y.new.b refl x.ensures y.ensures
