-- A task whose blocks, outcome and request are set one after the other.
use Rattle.std.specs.Prelude.{◌≡◌, Bool, true, List, ℕ, length}
use Rattle.std.proofs.Common.{sym, ap, ◌∙◌}
use Rattle.tables.specs.declared.shape.Shape.{Shape}
use Rattle.tables.specs.Layout.{OneOf}
use Rattle.tables.specs.Shows.{ShowsAs, moved}
use Rattle.tables.specs.Stored.{task_in}
use Rattle.tables.specs.SetTwice.{task_task, task_set}
use Rattle.ledger.specs.Config.{Config}
use Rattle.ledger.specs.Ledger.{Ledger, Task, Blocks, Outcome, plain, none, only_idle, task, set_task, set_semaphores, set_timers, set_blocks, set_outcome, set_request}
use Rattle.ledger.specs.Services.{withdraw_wait, drop_messages, terminate}
use Rattle.ledger.proofs.Theorems.Untaken.{View, view, of_drop}
use Rattle.ledger.proofs.Theorems.Terminated.{ended}
use Rattle.clock.specs.Does.{purged, removed_is}

-- a task's record with no open request
abbrev pub anew : Blocks → Outcome → (slot : List ℕ) → Task
anew b o z = record { blocks = b; outcome = o; slot = z; request = none }

merged : (t : ℕ) (b : Blocks) (o : List ℕ → Outcome) (L : Ledger) → OneOf (length L.tasks) t
    → set_request t none (set_outcome t (o (task (set_blocks t b L) t).slot) (set_blocks t b L)) ≡ set_task t (record { blocks = b; outcome = o (task L t).slot; slot = (task L t).slot; request = none }) L
unfolding set_request set_outcome set_blocks
merged t b o L i =
    let k : Task = task L t in
    let x : Task = record { blocks = b; outcome = k.outcome; slot = k.slot; request = k.request } in
    let L₁ : Ledger = set_task t x L in
    let y : Task = record { blocks = b; outcome = o k.slot; slot = k.slot; request = k.request } in
    let e : set_task t (record { blocks = (task L₁ t).blocks; outcome = o (task L₁ t).slot; slot = (task L₁ t).slot; request = (task L₁ t).request }) L₁ ≡ set_task t y L =
    ap (λ (u : Task). set_task t (record { blocks = u.blocks; outcome = o u.slot; slot = u.slot; request = u.request }) L₁) (task_set t x L i) ∙ task_task t y x L in
    ap (λ (M : Ledger). set_task t (record { blocks = (task M t).blocks; outcome = (task M t).outcome; slot = (task M t).slot; request = none }) M) e
    ∙ ap (λ (u : Task). set_task t (record { blocks = u.blocks; outcome = u.outcome; slot = u.slot; request = none }) (set_task t y L)) (task_set t y L i)
    ∙ task_task t (record { blocks = b; outcome = o k.slot; slot = k.slot; request = none }) y L

pub record_set : {tidy : Bool} (c : Config) (s : Shape) (L : Ledger) (d z w : List ℕ) → ShowsAs tidy c s L d z w → (t : ℕ) → OneOf s.tasks t → (b : Blocks) (o : List ℕ → Outcome) (d' : List ℕ)
    → ShowsAs tidy c s (set_request t none (set_outcome t (o (task (set_blocks t b L) t).slot) (set_blocks t b L))) d' z w
    → ShowsAs tidy c s (set_task t (record { blocks = b; outcome = o (task L t).slot; slot = (task L t).slot; request = none }) L) d' z w
record_set c s L d z w h t i b o d' g = moved (merged t b o L (task_in c s L d z w h t i)) g

-- the slot stays
kept_slot : (a : ℕ) (L : Ledger) → (task (drop_messages a (purged a true 0 (withdraw_wait a L))) a).slot ≡ (task L a).slot
unfolding view purged withdraw_wait set_semaphores set_timers task
kept_slot a L = ap (λ (v : View). (v.tasks a).slot) (of_drop a (purged a true 0 (withdraw_wait a L)))

-- an ended task's record, over the wait withdrawn, the timers taken out and the messages dropped
pub terminated : {tidy : Bool} (c : Config) (s : Shape) (L : Ledger) (d z w : List ℕ) (a : ℕ)
    → (let M : Ledger = drop_messages a (purged a true 0 (withdraw_wait a L)) in ShowsAs tidy c s (set_task a (ended (task M a)) M) d z w)
    → ShowsAs tidy c s (terminate a L) d z w
unfolding terminate withdraw_wait set_semaphores
terminated c s L d z w a h =
    moved
    (ap (λ (x : List ℕ). set_task a (anew only_idle plain x) (drop_messages a (purged a true 0 (withdraw_wait a L)))) (kept_slot a L)
    ∙ ap (λ (N : Ledger). set_task a (ended (task L a)) (drop_messages a N)) (sym (removed_is a 0 (withdraw_wait a L))))
    h
