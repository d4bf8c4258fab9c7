-- Queues: dequeue and enqueue issued for task t, now or again in settling.
use Rattle.std.specs.Prelude.{ℕ, suc, ◌+◌, ◌*◌, ◌-◌, Bool, true, false, List, [], ◌∷◌, ◌++◌, leb, eqb, length, take, drop}
use Rattle.ledger.specs.Lists.{at}
use Rattle.ledger.specs.Config.{Config, QueueShape}
use Rattle.ledger.specs.Ledger.{entry, dequeue, enqueue, Ledger, task, queue, held, set_queue, set_outcome, set_slot, set_request}
use Rattle.ledger.specs.Services.Semaphores.{wait_for, wake_waiter}

unfoldable pub not_empty : Config → ℕ → ℕ
not_empty c q = c.S + c.T + 2 * q - 1

unfoldable pub not_full : Config → ℕ → ℕ
not_full c q = c.S + c.T + 2 * q

unfoldable pub shape : Config → ℕ → QueueShape
shape c q = at c.shapes q (record { width = 0; depth = 0 })

unfoldable pub empty : Ledger → ℕ → Bool
empty l q = eqb (length (held (queue l q))) 0

unfoldable pub full : Config → Ledger → ℕ → Bool
full c l q = leb (shape c q).depth (length (held (queue l q)))

-- the entry stands in the slot from its first byte; the slot's other bytes stay
unfoldable pub copy_into : List ℕ → List ℕ → List ℕ
copy_into slot e = e ++ drop (length e) slot

-- the oldest entry is taken into the task's slot; handed out is what the slot then holds, as many bytes as an entry has
unfoldable pub take_entry : Config → (t q : ℕ) → List ℕ → Ledger → Ledger
take_entry c t q e l =
    let k = queue l q in
    let slot = copy_into (task l t).slot e in
    let out = take (shape c q).width slot in
    set_outcome t (entry e) (set_slot t slot (set_queue q (record { put = k.put; taken = suc k.taken; handed_out = k.handed_out ++ (out ∷ []) }) l))

unfoldable pub put_entry : ℕ → List ℕ → Ledger → Ledger
put_entry q e l = let k = queue l q in set_queue q (record { put = k.put ++ (e ∷ []); taken = k.taken; handed_out = k.handed_out }) l

-- empty: the task waits on not-empty, request open; else the oldest entry is taken, outcome entry, and the not-full waiter woken
unfoldable pub dequeued : Config → ℕ → ℕ → List (List ℕ) → Ledger → Ledger
dequeued c t q [] l = set_request t (dequeue q) (wait_for t (not_empty c q) l)
dequeued c t q (e ∷ es) l = wake_waiter (not_full c q) (take_entry c t q e l)

-- full: the task waits on not-full, request open; else put, and the not-empty waiter woken
unfoldable pub enqueued : Config → ℕ → ℕ → List ℕ → Bool → Ledger → Ledger
enqueued c t q e true l = set_request t (enqueue q e) (wait_for t (not_full c q) l)
enqueued c t q e false l = wake_waiter (not_empty c q) (put_entry q e l)
