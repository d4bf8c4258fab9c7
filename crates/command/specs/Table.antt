-- Laws of the ledger's table of codes: what a row waits on, and whose semaphore it means, its other columns have named.
use Rattle.std.specs.Prelude.{ℕ, ◌+◌, ◌*◌, ◌≤◌, ◌≡◌, true, false}
use Rattle.std.proofs.Common.{subst, arith}
use Rattle.std.proofs.lemmas.Bool.{not-false}
use Rattle.ledger.specs.Lists.{at}
use Rattle.ledger.specs.Config.{Config}
use Rattle.ledger.specs.Services.{Code, WAIT, SIGNAL, PEND, SEND, SENDW, RECEIVE, DEQUEUE, ENQUEUE, RESUME, SUSPEND, TERMINATE, EXECUTE, DELAY, TIMER, PURGE, TICK, EXIT, SEASON_TIMER}
use Rattle.ledger.specs.Refusals.{FieldX, no_x, a_message, a_tock_value, a_switch, FieldB, no_b, of_self, of_task, or_none, Follows, x_alone, x_and_entry, long_x, Waits, no_wait, on_b, task_on_b, on_not_empty, on_not_full, fields, code_at, meant_task, wrong_queue, is_message}
use Rattle.ledger.specs.Good.{Numbered, GoodA, GoodB, GoodNumber}
use Rattle.ledger.proofs.Theorems.Checks.{never, within_numbered}
use Rattle.tables.specs.declared.shape.Shape.{Shape}
use Rattle.tables.specs.Layout.{OneOf}
use Rattle.tables.specs.Shows.{Of}

-- the task whose semaphore 0 means, where that is task A's
abbrev pub Owner : Shape → FieldB → ℕ → Type 0
Owner s no_b a = Unit {0}
Owner s of_self a = Unit {0}
Owner s of_task a = a ≤ s.tasks
Owner s or_none a = Unit {0}

-- an entry goes to a queue that there is
abbrev pub EntryIn : Shape → Follows → ℕ → Type 0
EntryIn s x_alone q = Unit {0}
EntryIn s x_and_entry q = OneOf s.queues q
EntryIn s long_x q = Unit {0}

-- what would be waited on, and the task that would wait, are there
abbrev pub WaitsIn : Shape → Waits → (a b : ℕ) → Type 0
WaitsIn s no_wait a b = Unit {0}
WaitsIn s on_b a b = OneOf s.semaphores b
WaitsIn s task_on_b a b = OneOf s.tasks a × OneOf s.semaphores b
WaitsIn s on_not_empty a b = OneOf s.queues a
WaitsIn s on_not_full a b = OneOf s.queues a

-- a message's number has two bytes
pub message_short : (n : ℕ) → is_message (fields (code_at n)).X ≡ true → n ≡ 18 → ⊥
unfolding fields code_at at is_message
message_short n t e = never (subst (λ (k : ℕ). is_message (fields (code_at k)).X ≡ true) e t)

module _ {c : Config} {s : Shape} (o : Of c s) where
  task_in : (t : ℕ) → Numbered c.T t → OneOf s.tasks t
  task_in t n = (omega (arith, o.tasks), omega (arith, o.tasks))

  queue_in_lem : (q : ℕ) → Numbered c.Q q → OneOf s.queues q
  queue_in_lem q n = (omega (arith, o.queues), omega (arith, o.queues))

  pub semaphore_in : (b : ℕ) → Numbered (c.S + c.T) b → OneOf s.semaphores b
  semaphore_in b n = let l = o.laid in (omega (arith, n.from), omega (arith, n.upto, l.semaphores, o.named, o.tasks))

  pub entry_in : (k : Code) (self a : ℕ) → wrong_queue c (fields k).A a ≡ false → EntryIn s (fields k).follows (meant_task (fields k).A self a)
  unfolding fields wrong_queue meant_task
  entry_in WAIT self a w = tt
  entry_in SIGNAL self a w = tt
  entry_in PEND self a w = tt
  entry_in SEND self a w = tt
  entry_in SENDW self a w = tt
  entry_in RECEIVE self a w = tt
  entry_in DEQUEUE self a w = tt
  entry_in ENQUEUE self a w = queue_in_lem a (within_numbered c.Q a (not-false _ w))
  entry_in RESUME self a w = tt
  entry_in SUSPEND self a w = tt
  entry_in TERMINATE self a w = tt
  entry_in EXECUTE self a w = tt
  entry_in DELAY self a w = tt
  entry_in TIMER self a w = tt
  entry_in PURGE self a w = tt
  entry_in TICK self a w = tt
  entry_in EXIT self a w = tt
  entry_in SEASON_TIMER self a w = tt

  pub owner_in : (k : Code) (a : ℕ) → GoodA c (fields k).A a → Owner s (fields k).B a
  unfolding fields
  owner_in WAIT a g = tt
  owner_in SIGNAL a g = tt
  owner_in PEND a g = tt
  owner_in SEND a g = tt
  owner_in SENDW a g = tt
  owner_in RECEIVE a g = tt
  owner_in DEQUEUE a g = tt
  owner_in ENQUEUE a g = tt
  owner_in RESUME a g = tt
  owner_in SUSPEND a g = tt
  owner_in TERMINATE a g = tt
  owner_in EXECUTE a g = tt
  owner_in DELAY a g = (task_in a g).1
  owner_in TIMER a g = (task_in a g).1
  owner_in PURGE a g = (task_in a g).1
  owner_in TICK a g = tt
  owner_in EXIT a g = tt
  owner_in SEASON_TIMER a g = (task_in a g).1

  pub waits_in : (k : Code) (a b : ℕ) → GoodA c (fields k).A a → GoodB c (fields k).B b → WaitsIn s (fields k).waits a b
  unfolding fields
  waits_in WAIT a b g h = semaphore_in b h
  waits_in SIGNAL a b g h = tt
  waits_in PEND a b g h = semaphore_in b h
  waits_in SEND a b g h = tt
  waits_in SENDW a b g h = semaphore_in b h
  waits_in RECEIVE a b g h = tt
  waits_in DEQUEUE a b g h = queue_in_lem a g
  waits_in ENQUEUE a b g h = queue_in_lem a g
  waits_in RESUME a b g h = tt
  waits_in SUSPEND a b g h = tt
  waits_in TERMINATE a b g h = tt
  waits_in EXECUTE a b g h = tt
  waits_in DELAY a b g h = (task_in a g, semaphore_in b h)
  waits_in TIMER a b g h = tt
  waits_in PURGE a b g h = tt
  waits_in TICK a b g h = tt
  waits_in EXIT a b g h = tt
  waits_in SEASON_TIMER a b g h = tt

  -- a message's number is the low byte of X
  pub low_byte : (X : FieldX) (high low : ℕ) → GoodNumber c X (256 * high + low) → is_message X ≡ true → low ≡ 256 * high + low
  unfolding is_message
  low_byte no_x high low g e = never e
  low_byte a_message high low g e = omega (arith, g.upto, o.messages, o.laid.messages)
  low_byte a_tock_value high low g e = never e
  low_byte a_switch high low g e = never e
