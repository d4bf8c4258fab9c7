-- The items of the fresh ledger: fresh tasks, PENDING semaphores, empty mailboxes and queues.
use Prim.Native.Nat.{ℕ, zero, suc, ◌+◌, ◌*◌, ◌≤◌}
use Rattle.std.specs.Prelude.{◌≡◌, Bool, cond, List, [], ◌∷◌, map, eqb, length, get_or, replicate}
use Rattle.std.proofs.Math.Path.{refl}
use Rattle.std.proofs.Math.Bool.{true, false}
use Rattle.std.proofs.Common.{arith}
use Rattle.ledger.specs.Lists.{at}
use Rattle.ledger.specs.Config.{Config}
use Rattle.ledger.specs.Ledger.{PENDING, plain, begin, none, Task, no_block, only_idle, null_task, empty_queue, empty_slot, task, semaphore_of, mailbox, queue, fresh_task, fresh}
use Rattle.ledger.specs.Good.{Numbered}

module _ {A : Type 0} where
  get_d_replicate : (n i : ℕ) (x : A) → get_or (replicate n x) i x ≡ x
  get_d_replicate zero i x = refl
  get_d_replicate (suc n) zero x = refl
  get_d_replicate (suc n) (suc i) x = get_d_replicate n i x

  at_replicate : (n i : ℕ) (x : A) → at (replicate n x) i x ≡ x
  unfolding at
  at_replicate n zero x = refl
  at_replicate n (suc i) x = get_d_replicate n i x

pub fresh_semaphore : (c : Config) (b : ℕ) → semaphore_of (fresh c) b ≡ PENDING
unfolding semaphore_of fresh
fresh_semaphore c b = at_replicate (c.S + c.T + 2 * c.Q) b PENDING

pub fresh_queue : (c : Config) (q : ℕ) → queue (fresh c) q ≡ empty_queue
unfolding queue fresh
fresh_queue c q = at_replicate c.Q q empty_queue

pub fresh_mailbox : (c : Config) (t : ℕ) → mailbox (fresh c) t ≡ []
unfolding mailbox fresh
fresh_mailbox c t = at_replicate c.T t []

-- what holds of a fresh task, runnable or idle
module _ (P : Task → Type 0)
    (runnable : P (record { blocks = no_block; outcome = begin; slot = empty_slot; request = none }))
    (idle : P (record { blocks = only_idle; outcome = plain; slot = empty_slot; request = none })) where
  fresh_task_is : (s : ℕ) → P (fresh_task s)
  unfolding fresh_task
  fresh_task_is s = go (eqb s 0)
    where
      go : (b : Bool) → P (cond b (record { blocks = no_block; outcome = begin; slot = empty_slot; request = none }) (record { blocks = only_idle; outcome = plain; slot = empty_slot; request = none }))
      go true = runnable
      go false = idle

  get_d_fresh : (ss : List ℕ) (i : ℕ) → (length ss ≤ i → P null_task) → P (get_or (map fresh_task ss) i null_task)
  get_d_fresh [] i h = h (omega arith)
  get_d_fresh (s ∷ ss) zero h = fresh_task_is s
  get_d_fresh (s ∷ ss) (suc i) h = get_d_fresh ss i (λ k. h (omega arith))

  pub fresh_task_lem : (c : Config) (t : ℕ) → ((Numbered (length c.states) t → ⊥) → P null_task) → P (task (fresh c) t)
  unfolding task fresh at
  fresh_task_lem c zero h = h (λ n. omega arith)
  fresh_task_lem c (suc i) h = get_d_fresh c.states i (λ k. h (λ n. omega arith))
