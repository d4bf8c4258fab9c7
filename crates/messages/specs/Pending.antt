-- The pending messages of all mailboxes: records of four bytes, receiver, number, sender, semaphore, in the order in which they lie.
-- A task's mailbox is what is pending for it, in that order. A receiver that is no task is read as task 1, so that every record lies in a mailbox.
use Rattle.std.specs.Prelude.{ℕ, suc, Bool, true, cond, not, ◌&&◌, List, [], ◌∷◌, map, ◌==◌, nat_eq, nat_lt, slice_index}
use Rattle.ledger.specs.Lists.{within, any, all, keep}
use Rattle.ledger.specs.Ledger.{Message}
use Rattle.ledger.specs.Services.{wanted}
use Rattle.rows.specs.Rows.{rows_of, row_at}
use Rattle.rows.specs.First.{first_of}
use Rattle.rows.specs.Tab.{tab}

pub record Pending : Type 0 where
  pub to : ℕ
  pub message : Message

abbrev pub letter : (number sender semaphore : ℕ) → Message
letter x s b = record { number = x; sender = s; semaphore = b }

abbrev pub pending : (to number sender semaphore : ℕ) → Pending
pending t x s b = record { to = t; message = letter x s b }

abbrev pub number_of : Pending → ℕ
number_of p = p.message.number

-- ---- what four bytes mean where there are so many tasks

abbrev pub receiver : (tasks b : ℕ) → ℕ
receiver tasks b = cond (within 1 tasks b) b 1

abbrev pub letter_of : List ℕ → Message
letter_of r = letter (slice_index r 1) (slice_index r 2) (slice_index r 3)

abbrev pub pending_of : ℕ → List ℕ → Pending
pending_of tasks r = record { to = receiver tasks (slice_index r 0); message = letter_of r }

-- record k, and the first n records
unfoldable pub pending_at : (tasks k : ℕ) → List ℕ → Pending
pending_at tasks k d = pending_of tasks (row_at 4 k d)

unfoldable pub pending_in : (tasks n : ℕ) → List ℕ → List Pending
pending_in tasks n d = map (pending_of tasks) (rows_of 4 n d)

-- the message of record k, and the numbers of the first n
unfoldable pub letter_at : ℕ → List ℕ → Message
letter_at k d = letter_of (row_at 4 k d)

unfoldable pub numbers_in : ℕ → List ℕ → List ℕ
numbers_in n d = map (λ r. slice_index r 1) (rows_of 4 n d)

-- a record's receiver is a task
abbrev pub to_task : (tasks : ℕ) → List ℕ → Bool
to_task tasks r = within 1 tasks (slice_index r 0)

-- the receiver of each of the first n records is one of the tasks
unfoldable pub addressed : (tasks n : ℕ) → List ℕ → Bool
addressed tasks n d = all (to_task tasks) (rows_of 4 n d)

-- ---- mailboxes

abbrev pub for : ℕ → Pending → Bool
for t p = p.to == t

unfoldable pub mailbox_of : ℕ → List Pending → List Message
mailbox_of t l = map (λ p. p.message) (keep (for t) l)

-- those of the tasks 1 to n
unfoldable pub mailboxes_of : ℕ → List Pending → List (List Message)
mailboxes_of n l = tab n (λ i. mailbox_of (suc i) l)

abbrev pub numbered : ℕ → Message → Bool
numbered x m = m.number == x

-- ---- places

-- for task t, from a higher sender than s
abbrev pub behind : ℕ → ℕ → Pending → Bool
behind t s p = for t p && nat_lt s p.message.sender

-- where a message from s to t goes in: behind equal senders
unfoldable pub place_for : ℕ → ℕ → List Pending → ℕ
place_for t s l = first_of (behind t s) l

-- for task t, and wanted by a receive from a (0: from any)
abbrev pub wanted_by : ℕ → ℕ → Pending → Bool
wanted_by t a p = for t p && wanted a p.message

-- where the first of these lies, or the number of all records if there is none
unfoldable pub place_of : ℕ → ℕ → List Pending → ℕ
place_of t a l = first_of (wanted_by t a) l

-- ---- a full table

abbrev pub occurs : ℕ → List ℕ → Bool
occurs x l = any (λ y. nat_eq y x) l

unfoldable pub distinct : List ℕ → Bool
distinct [] = true
distinct (x ∷ xs) = not (occurs x xs) && distinct xs

-- all numbers are 1 to n, and none occurs twice: n numbers that pass are those of all n messages
unfoldable pub complete_in : ℕ → List ℕ → Bool
complete_in n l = all (within 1 n) l && distinct l
