-- What the bytes mean: any byte decodes to one of the program's items, and each of these is one of the ledger's.
use Rattle.std.specs.Prelude.{cond, List, [], ◌∷◌, ◌++◌, ℕ, eqb, leb, ltb, length, get_or, take}
use Rattle.tables.specs.declared.blocks.Blocks.{Blocks}
use Rattle.tables.specs.declared.tasks.Outcome.{Outcome}
use Rattle.tables.specs.declared.tasks.Outcome.TheVariants.{Plain, Begin, Message, Entry, Refused, Semaphore, Woke}
use Rattle.tables.specs.declared.tasks.Request.{Request}
use Rattle.tables.specs.declared.tasks.Request.TheVariants.{None, Receive, Dequeue, Enqueue}
use Rattle.tables.specs.declared.tasks.Task.{Task}
use Rattle.tables.specs.declared.semaphores.Semaphore as state
use Rattle.tables.specs.declared.semaphores.Semaphore.TheVariants.{Pending, Done, Waiting}
use Rattle.ledger.specs.Config.{Config}
use Rattle.ledger.specs.Ledger as ledger
use Rattle.ledger.specs.Services.{shape}

-- ---- an outcome: its kind and three bytes of value. An entry's value is its width: its bytes are the first of the slot

abbrev pub outcome_of : ℕ → ℕ → ℕ → ℕ → Outcome
outcome_of k a b c =
    cond (eqb k 1) Begin (cond (eqb k 2) (Message a b c) (cond (eqb k 3) (Entry a) (cond (eqb k 4) (Refused a) (cond (eqb k 5) (Semaphore a) (cond (eqb k 6) (Woke a) Plain)))))

pub record Written : Type 0 where
  pub kind : ℕ
  pub first : ℕ
  pub second : ℕ
  pub third : ℕ

abbrev bytes : (kind first second third : ℕ) → Written
bytes k a b c = record { kind = k; first = a; second = b; third = c }

abbrev pub outcome_written : Outcome → Written
outcome_written Plain = bytes 0 0 0 0
outcome_written Begin = bytes 1 0 0 0
outcome_written (Message a b c) = bytes 2 a b c
outcome_written (Entry a) = bytes 3 a 0 0
outcome_written (Refused a) = bytes 4 a 0 0
outcome_written (Semaphore a) = bytes 5 a 0 0
outcome_written (Woke a) = bytes 6 a 0 0

abbrev pub outcome_bytes : Outcome → List ℕ
outcome_bytes o = let b = outcome_written o in b.kind ∷ b.first ∷ b.second ∷ b.third ∷ []

-- ---- a request: its kind, and the task or the queue. A queue that is none of the Q is no request

abbrev pub request_of : (Q k a : ℕ) → Request
request_of Q k a =
    cond (eqb k 1) (Receive a) (cond (eqb a 0) None (cond (leb a Q) (cond (eqb k 2) (Dequeue a) (cond (eqb k 3) (Enqueue a) None)) None))

abbrev pub request_kind : Request → ℕ
request_kind None = 0
request_kind (Receive a) = 1
request_kind (Dequeue q) = 2
request_kind (Enqueue q) = 3

abbrev pub request_argument : Request → ℕ
request_argument None = 0
request_argument (Receive a) = a
request_argument (Dequeue q) = q
request_argument (Enqueue q) = q

abbrev pub request_bytes : Request → List ℕ
request_bytes q = request_kind q ∷ request_argument q ∷ []

-- ---- a semaphore: 0 is PENDING, 1 to T the task that it is WAITING with, anything else DONE

abbrev pub state_of : (T x : ℕ) → state.Semaphore
state_of T x = cond (eqb x 0) Pending (cond (leb x T) (Waiting x) Done)

abbrev pub state_byte : state.Semaphore → ℕ
state_byte Pending = 0
state_byte Done = 255
state_byte (Waiting t) = t

-- its byte once task t waits no more
abbrev pub cleared_of : (t x : ℕ) → ℕ
cleared_of t x = cond (eqb x t) 0 x

-- ---- a ring: a place past it is the first. A count past the most that there can be is that most

abbrev pub head_of : (depth x : ℕ) → ℕ
head_of depth x = cond (ltb x depth) x 0

abbrev pub count_of : (most x : ℕ) → ℕ
count_of most x = cond (leb x most) x most

-- ---- the clock: ticks left that are none of 1 to K are all K

abbrev pub left_of : (K x : ℕ) → ℕ
left_of K x = cond (eqb x 0) K (cond (leb x K) x K)

-- ---- the program's items as the ledger's

unfoldable pub view_blocks : Blocks → ledger.Blocks
view_blocks b = record { idle = b.idle; suspended = b.suspended; event_wait = b.event; message_wait = b.message }

unfoldable pub view_outcome : Outcome → (slot : List ℕ) → ledger.Outcome
view_outcome Plain z = ledger.plain
view_outcome Begin z = ledger.begin
view_outcome (Message a b c) z = ledger.message a b c
view_outcome (Entry w) z = ledger.entry (take w z)
view_outcome (Refused a) z = ledger.refused a
view_outcome (Semaphore a) z = ledger.semaphore a
view_outcome (Woke a) z = ledger.woke a

unfoldable pub view_request : Config → Request → (waiting : List ℕ) → ledger.Request
view_request c None e = ledger.none
view_request c (Receive a) e = ledger.receive a
view_request c (Dequeue q) e = ledger.dequeue q
view_request c (Enqueue q) e = ledger.enqueue q (take (shape c q).width e)

unfoldable pub view_semaphore : state.Semaphore → ledger.Semaphore
view_semaphore Pending = ledger.PENDING
view_semaphore Done = ledger.DONE
view_semaphore (Waiting t) = ledger.WAITING t

unfoldable pub view_task : Config → Task → (waiting slot : List ℕ) → ledger.Task
view_task c k e z = record { blocks = view_blocks k.blocks; outcome = view_outcome k.outcome z; slot = z; request = view_request c k.request e }

-- ---- the bytes that the program writes for the ledger's items: one value for one item

-- an entry's bytes are the slot's, and those of an enqueue lie where they wait
unfoldable pub outcome_as : ledger.Outcome → List ℕ
outcome_as ledger.plain = 0 ∷ 0 ∷ 0 ∷ 0 ∷ []
outcome_as ledger.begin = 1 ∷ 0 ∷ 0 ∷ 0 ∷ []
outcome_as (ledger.message a b c) = 2 ∷ a ∷ b ∷ c ∷ []
outcome_as (ledger.entry e) = 3 ∷ length e ∷ 0 ∷ 0 ∷ []
outcome_as (ledger.refused a) = 4 ∷ a ∷ 0 ∷ 0 ∷ []
outcome_as (ledger.semaphore a) = 5 ∷ a ∷ 0 ∷ 0 ∷ []
outcome_as (ledger.woke a) = 6 ∷ a ∷ 0 ∷ 0 ∷ []

unfoldable pub request_as : ledger.Request → List ℕ
request_as ledger.none = 0 ∷ 0 ∷ []
request_as (ledger.receive a) = 1 ∷ a ∷ []
request_as (ledger.dequeue q) = 2 ∷ q ∷ []
request_as (ledger.enqueue q e) = 3 ∷ q ∷ []

unfoldable pub record_as : ledger.Task → List ℕ
record_as k = outcome_as k.outcome ++ request_as k.request

unfoldable pub state_as : ledger.Semaphore → ℕ
state_as ledger.PENDING = 0
state_as ledger.DONE = 255
state_as (ledger.WAITING t) = t

-- ---- what lies in row i of the tasks' regions

unfoldable pub record_of : (Q : ℕ) → Blocks → (row : List ℕ) → Task
record_of Q b r =
    record {
      blocks = b;
      outcome = outcome_of (get_or r 0 0) (get_or r 1 0) (get_or r 2 0) (get_or r 3 0);
      request = request_of Q (get_or r 4 0) (get_or r 5 0);
    }
