-- The ledger: what it keeps, and its fresh state.
-- Tasks, semaphores, mailboxes and queues are lists whose first item has number 1; no item has number 0.
use Rattle.std.specs.Prelude.{ℕ, suc, ◌+◌, ◌*◌, Bool, true, false, cond, not, ◌&&◌, List, [], ◌∷◌, map, eqb, drop, replicate}
use Rattle.ledger.specs.Lists.{at, put}
use Rattle.ledger.specs.Config.{Config}

pub data Semaphore : Type 0 where
  PENDING DONE : Semaphore
  WAITING : ℕ → Semaphore

pub data Outcome : Type 0 where
  plain begin : Outcome
  message : ℕ → ℕ → ℕ → Outcome
  entry : List ℕ → Outcome
  refused : ℕ → Outcome
  semaphore : ℕ → Outcome
  woke : ℕ → Outcome

-- an open request: none, a receive from a task (0: from any), a dequeue, an enqueue with its bytes
pub data Request : Type 0 where
  none : Request
  receive : ℕ → Request
  dequeue : ℕ → Request
  enqueue : ℕ → List ℕ → Request

pub record Blocks : Type 0 where
  pub idle : Bool
  pub suspended : Bool
  pub event_wait : Bool
  pub message_wait : Bool

pub record Task : Type 0 where
  pub blocks : Blocks
  pub outcome : Outcome
  pub slot : List ℕ
  pub request : Request

pub record Message : Type 0 where
  pub number : ℕ
  pub sender : ℕ
  pub semaphore : ℕ

-- all entries ever put, the number taken, and what it handed out: the entries that its dequeues copied into slots, in order of copying
pub record Queue : Type 0 where
  pub put : List (List ℕ)
  pub taken : ℕ
  pub handed_out : List (List ℕ)

-- the period is 0 for a one-shot
pub record Timer : Type 0 where
  pub task : ℕ
  pub semaphore : ℕ
  pub due : ℕ
  pub period : ℕ

-- N is the tocks since the start, ticks those in the present tock
pub record Ledger : Type 0 where
  pub N : ℕ
  pub ticks : ℕ
  pub tasks : List Task
  pub semaphores : List Semaphore
  pub mailboxes : List (List Message)
  pub queues : List Queue
  pub timers : List Timer

-- ---- reading it

abbrev pub no_block : Blocks
no_block = record { idle = false; suspended = false; event_wait = false; message_wait = false }

abbrev pub only_idle : Blocks
only_idle = record { idle = true; suspended = false; event_wait = false; message_wait = false }

abbrev pub null_task : Task
null_task = record { blocks = no_block; outcome = plain; slot = []; request = none }

abbrev pub empty_queue : Queue
empty_queue = record { put = []; taken = 0; handed_out = [] }

unfoldable pub task : Ledger → ℕ → Task
task l t = at l.tasks t null_task

unfoldable pub semaphore_of : Ledger → ℕ → Semaphore
semaphore_of l b = at l.semaphores b PENDING

unfoldable pub mailbox : Ledger → ℕ → List Message
mailbox l t = at l.mailboxes t []

unfoldable pub queue : Ledger → ℕ → Queue
queue l q = at l.queues q empty_queue

-- what a queue holds, oldest first
unfoldable pub held : Queue → List (List ℕ)
held q = drop q.taken q.put

-- a task is runnable when it has no block
unfoldable pub runnable : Task → Bool
runnable t = not t.blocks.idle && not t.blocks.suspended && not t.blocks.event_wait && not t.blocks.message_wait

-- the runnable task with the lowest number runs, else the null task, 0
unfoldable pub lowest_runnable : ℕ → List Task → ℕ
lowest_runnable n [] = 0
lowest_runnable n (t ∷ ts) = let r = lowest_runnable (suc n) ts in cond (runnable t) n r

unfoldable pub running : Ledger → ℕ
running l = lowest_runnable 1 l.tasks

-- ---- changing one item of it

unfoldable pub set_task : ℕ → Task → Ledger → Ledger
set_task n t l = record { N = l.N; ticks = l.ticks; tasks = put l.tasks n t; semaphores = l.semaphores; mailboxes = l.mailboxes; queues = l.queues; timers = l.timers }

unfoldable pub set_semaphores : List Semaphore → Ledger → Ledger
set_semaphores v l = record { N = l.N; ticks = l.ticks; tasks = l.tasks; semaphores = v; mailboxes = l.mailboxes; queues = l.queues; timers = l.timers }

unfoldable pub set_semaphore : ℕ → Semaphore → Ledger → Ledger
set_semaphore b v l = set_semaphores (put l.semaphores b v) l

unfoldable pub set_mailbox : ℕ → List Message → Ledger → Ledger
set_mailbox n v l = record { N = l.N; ticks = l.ticks; tasks = l.tasks; semaphores = l.semaphores; mailboxes = put l.mailboxes n v; queues = l.queues; timers = l.timers }

unfoldable pub set_queue : ℕ → Queue → Ledger → Ledger
set_queue n v l = record { N = l.N; ticks = l.ticks; tasks = l.tasks; semaphores = l.semaphores; mailboxes = l.mailboxes; queues = put l.queues n v; timers = l.timers }

unfoldable pub set_timers : List Timer → Ledger → Ledger
set_timers v l = record { N = l.N; ticks = l.ticks; tasks = l.tasks; semaphores = l.semaphores; mailboxes = l.mailboxes; queues = l.queues; timers = v }

unfoldable pub set_clock : ℕ → ℕ → Ledger → Ledger
set_clock n k l = record { N = n; ticks = k; tasks = l.tasks; semaphores = l.semaphores; mailboxes = l.mailboxes; queues = l.queues; timers = l.timers }

unfoldable pub set_blocks : ℕ → Blocks → Ledger → Ledger
set_blocks n v l = let t = task l n in set_task n (record { blocks = v; outcome = t.outcome; slot = t.slot; request = t.request }) l

unfoldable pub set_outcome : ℕ → Outcome → Ledger → Ledger
set_outcome n v l = let t = task l n in set_task n (record { blocks = t.blocks; outcome = v; slot = t.slot; request = t.request }) l

unfoldable pub set_slot : ℕ → List ℕ → Ledger → Ledger
set_slot n v l = let t = task l n in set_task n (record { blocks = t.blocks; outcome = t.outcome; slot = v; request = t.request }) l

unfoldable pub set_request : ℕ → Request → Ledger → Ledger
set_request n v l = let t = task l n in set_task n (record { blocks = t.blocks; outcome = t.outcome; slot = t.slot; request = v }) l

unfoldable pub set_suspended : ℕ → Bool → Ledger → Ledger
set_suspended n v l = let b = (task l n).blocks in set_blocks n (record { idle = b.idle; suspended = v; event_wait = b.event_wait; message_wait = b.message_wait }) l

unfoldable pub set_event_wait : ℕ → Bool → Ledger → Ledger
set_event_wait n v l = let b = (task l n).blocks in set_blocks n (record { idle = b.idle; suspended = b.suspended; event_wait = v; message_wait = b.message_wait }) l

unfoldable pub set_message_wait : ℕ → Bool → Ledger → Ledger
set_message_wait n v l = let b = (task l n).blocks in set_blocks n (record { idle = b.idle; suspended = b.suspended; event_wait = b.event_wait; message_wait = v }) l

-- ---- the fresh ledger

abbrev pub empty_slot : List ℕ
empty_slot = replicate 16 0

-- initial state $00 is runnable, with outcome begin; $01 idle, with outcome plain
unfoldable pub fresh_task : ℕ → Task
fresh_task s =
    cond (eqb s 0)
    (record { blocks = no_block; outcome = begin; slot = empty_slot; request = none })
    (record { blocks = only_idle; outcome = plain; slot = empty_slot; request = none })

unfoldable pub fresh : Config → Ledger
fresh c = record {
  N = 0;
  ticks = 0;
  tasks = map fresh_task c.states;
  semaphores = replicate (c.S + c.T + 2 * c.Q) PENDING;
  mailboxes = replicate c.T [];
  queues = replicate c.Q empty_queue;
  timers = [];
}
