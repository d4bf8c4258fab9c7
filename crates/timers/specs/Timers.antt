-- Timers in bytes: what the rows mean, and what the ledger's changes are on timers by the tocks left.
use Rattle.std.specs.Prelude.{◌≡◌, List, [], ◌∷◌, ◌++◌, map, Bool, cond, not, ◌&&◌, ◌||◌, ℕ, zero, suc, ◌+◌, ◌-◌, ◌*◌, ◌<◌, ◌≤◌, min, max, length, get_or, drop, set, ltb, eqb}
use Rattle.ledger.specs.Lists.{keep, without, insert_by}
use Rattle.ledger.specs.Ledger.{Timer}
use Rattle.ledger.specs.Session.{TimerLeft}
pub use Rattle.ledger.specs.Seen.{started_for}
use Rattle.rows.specs.Four.{le4, bytes4}
use Rattle.rows.specs.Rows.{rows_of}
use Rattle.rows.specs.First.{first_of}

-- ---- bytes

-- the row that is made of a record, byte by byte
abbrev pub row_of : (task semaphore due period : ℕ) → List ℕ
row_of t s x p = t ∷ s ∷ (bytes4 x ++ bytes4 p)

abbrev pub timer : (task semaphore left period : ℕ) → TimerLeft
timer t s l p = record { task = t; semaphore = s; left = l; period = p }

abbrev pub entry : (task semaphore due period : ℕ) → Timer
entry t s x p = record { task = t; semaphore = s; due = x; period = p }

-- a row of ten bytes: task, semaphore, the time at which it is due (4), period (4)
unfoldable pub entry_of : List ℕ → Timer
entry_of r = entry (get_or r 0 0) (get_or r 1 0) (le4 r 2) (le4 r 6)

-- the n rows behind row 0
unfoldable pub records_in : ℕ → List ℕ → List Timer
records_in n d = map entry_of (rows_of 10 n (drop 10 d))

-- record k, byte by byte
abbrev pub record_at : List ℕ → ℕ → Timer
record_at d k = entry (get_or d (k * 10 + 10) 0) (get_or d (k * 10 + 11) 0) (le4 d (k * 10 + 12)) (le4 d (k * 10 + 16))

-- ---- what the rows mean

-- the least of x and the times of a list
unfoldable pub lowest : ℕ → List Timer → ℕ
lowest x [] = x
lowest x (t ∷ ts) = min t.due (lowest x ts)

-- the tocks from a time on until x, or until the floor if that is later
abbrev pub until_due : (time floor x : ℕ) → ℕ
until_due time floor x = max x floor - time

-- the same timer by the tocks left
abbrev pub left_at : ℕ → Timer → TimerLeft
left_at x t = timer t.task t.semaphore x t.period

-- a timer is due at the time that its row keeps, but no later than those behind it and not before the floor: so any rows mean an ordered list
unfoldable pub shown_by : (time floor : ℕ) → List Timer → List TimerLeft
shown_by time floor [] = []
shown_by time floor (t ∷ ts) = left_at (until_due time floor (lowest t.due ts)) t ∷ shown_by time floor ts

-- row 0 is the clock: two free bytes, the time (4), the floor (4)
unfoldable pub timers_in : ℕ → List ℕ → List TimerLeft
timers_in n d = shown_by (le4 d 2) (le4 d 6) (records_in n d)

-- ---- rows in order: none keeps a time before the floor, or before that of the one in front of it
unfoldable pub IsUpright : (floor : ℕ) → List Timer → Type 0
IsUpright floor [] = Unit {0}
IsUpright floor (t ∷ ts) = (floor ≤ t.due) × IsUpright t.due ts

abbrev pub Upright : ℕ → List ℕ → Type 0
Upright n d = IsUpright (le4 d 6) (records_in n d)

-- from n rows in d to m rows in d'
abbrev pub StaysUpright : (n : ℕ) (d : List ℕ) (m : ℕ) (d' : List ℕ) → Type 0
StaysUpright n d m d' = Upright n d → Upright m d'

-- ---- tests and changes of one timer

abbrev pub tocks_left : TimerLeft → ℕ
tocks_left t = t.left

abbrev pub later : (left : ℕ) → TimerLeft → Bool
later x t = ltb x t.left

-- a purge of task a leaves the others' timers and, unless it takes all, those on other semaphores
abbrev pub stays : (task : ℕ) (all : Bool) (semaphore : ℕ) → TimerLeft → Bool
stays a all b t = not (eqb t.task a && (all || eqb t.semaphore b))

-- a tock has passed
abbrev pub tocked : TimerLeft → TimerLeft
tocked t = timer t.task t.semaphore (t.left - 1) t.period

abbrev pub is_due : TimerLeft → Bool
is_due t = eqb t.left 0

-- ---- the due ones, wherever they lie in the list

abbrev pub due_in : List TimerLeft → ℕ
due_in l = length (keep is_due l)

abbrev pub no_timer : TimerLeft
no_timer = timer 0 0 0 0

unfoldable pub first_due : List TimerLeft → TimerLeft
first_due l = get_or l (first_of is_due l) no_timer

-- a cyclic one goes in again with its period left
unfoldable pub put_again : TimerLeft → List TimerLeft → List TimerLeft
put_again t l = cond (eqb t.period 0) l (insert_by tocks_left (timer t.task t.semaphore t.period t.period) l)

-- the first due one is taken out, and put in again if it is cyclic
unfoldable pub taken_due : List TimerLeft → List TimerLeft
taken_due l = put_again (first_due l) (without is_due l)

-- ---- the rows' changes

-- what n rows behind row 0 and the clock in it keep
abbrev pub Keeps : ℕ → List ℕ → (time floor : ℕ) → List Timer → Type 0
Keeps n d time floor l = (le4 d 2 ≡ time) × (le4 d 6 ≡ floor) × (records_in n d ≡ l)

abbrev pub no_entry : Timer
no_entry = entry 0 0 0 0

-- n rows with the clock of d, and with these records
abbrev pub Leaves : ℕ → (d d' : List ℕ) → List Timer → Type 0
Leaves n d d' l = Keeps n d' (le4 d 2) (le4 d 6) l

-- the same record, due at another time
abbrev pub due_at : ℕ → Timer → Timer
due_at x t = entry t.task t.semaphore x t.period

-- record k of however many is due at another time
abbrev pub SetDue : (k x : ℕ) (d d' : List ℕ) → Type 0
SetDue k x d d' = (n : ℕ) → k < n → n * 10 + 10 ≤ length d → Leaves n d d' (set (records_in n d) k (due_at x (record_at d k)))

-- due no earlier than the floor, on a clock that is set back
abbrev pub settled_by : (back floor : ℕ) → Timer → Timer
settled_by back floor t = due_at (until_due back floor t.due) t

-- the record before record k is due no later than that one
unfoldable pub handed_on : ℕ → List Timer → List Timer
handed_on zero l = l
handed_on (suc k) l = set l k (due_at (min (get_or l k no_entry).due (get_or l (suc k) no_entry).due) (get_or l k no_entry))

-- none of a list is due before x
abbrev pub AllFrom : ℕ → List Timer → Type 0
AllFrom x l = x ≤ lowest x l

-- the last of the first k, if there is one, is due by x
abbrev pub LastBy : ℕ → ℕ → List Timer → Type 0
LastBy x zero l = Unit {0}
LastBy x (suc k) l = (get_or l k no_entry).due ≤ x

-- of n records those before place at are due by x, as far as the last of them says; those behind it are not, and not before first either
abbrev pub Placed : (n x : ℕ) (d : List ℕ) (at first : ℕ) → Type 0
Placed n x d at first = (at ≤ n) × LastBy x at (records_in n d) × AllFrom (suc x) (drop at (records_in n d)) × AllFrom first (drop at (records_in n d))

-- the floor is lower, before every record, and n timers are as they were
abbrev pub Lowered : (n floor : ℕ) (d d' : List ℕ) → Type 0
Lowered n floor d d' = (le4 d' 2 ≡ le4 d 2) × (le4 d' 6 ≡ floor) × AllFrom (suc floor) (records_in n d') × (timers_in n d' ≡ timers_in n d)
