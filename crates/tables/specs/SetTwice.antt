-- An item of the ledger set twice is set once.
use Rattle.std.specs.Prelude.{◌≡◌, refl, List, [], ◌∷◌, ℕ, zero, suc, length, set}
use Rattle.std.proofs.Common.{ap, ap₂, ◌∙◌, arith, not-suc-le-zero, get_or-set_same}
use Rattle.tables.specs.Layout.{OneOf}
use Rattle.ledger.specs.Lists.{at, put}
use Rattle.ledger.specs.Ledger as ledger
use Rattle.ledger.specs.Ledger.{Ledger, Task, Request, task, set_task, set_request}

set_set : {A : Type 0} (l : List A) (n : ℕ) (a b : A) → set (set l n b) n a ≡ set l n a
set_set [] n a b = refl
set_set (x ∷ xs) zero a b = refl
set_set (x ∷ xs) (suc n) a b = ap₂ ◌∷◌ refl (set_set xs n a b)

put_put : {A : Type 0} (l : List A) (n : ℕ) (a b : A) → put (put l n b) n a ≡ put l n a
unfolding put
put_put l zero a b = refl
put_put l (suc n) a b = set_set l n a b

pub at_put : {A : Type 0} (l : List A) (n : ℕ) (a z : A) → OneOf (length l) n → at (put l n a) n z ≡ a
unfolding put at
at_put l zero a z o = absurd (not-suc-le-zero o.0)
at_put l (suc n) a z o = get_or-set_same l n a z (omega arith)

pub task_task : (t : ℕ) (a b : Task) (L : Ledger) → set_task t a (set_task t b L) ≡ set_task t a L
unfolding set_task
task_task t a b L =
    λ i. record { N = L.N; ticks = L.ticks; tasks = put_put L.tasks t a b i; semaphores = L.semaphores; mailboxes = L.mailboxes; queues = L.queues; timers = L.timers }

pub task_set : (t : ℕ) (k : Task) (L : Ledger) → OneOf (length L.tasks) t → task (set_task t k L) t ≡ k
unfolding task set_task
task_set t k L o = at_put L.tasks t k ledger.null_task o

-- a task of which only the request is new
pub request_again : (t : ℕ) (k : Task) (r : Request) (L : Ledger) → OneOf (length L.tasks) t
    → k.blocks ≡ (task L t).blocks → k.outcome ≡ (task L t).outcome → k.slot ≡ (task L t).slot → set_request t r (set_task t k L) ≡ set_request t r L
unfolding set_request
request_again t k r L i b o z =
    ap (λ (x : Task). set_task t (record { blocks = x.blocks; outcome = x.outcome; slot = x.slot; request = r }) (set_task t k L)) (task_set t k L i)
    ∙ task_task t (record { blocks = k.blocks; outcome = k.outcome; slot = k.slot; request = r }) k L
    ∙ (λ i. set_task t (record { blocks = b i; outcome = o i; slot = z i; request = r }) L)
