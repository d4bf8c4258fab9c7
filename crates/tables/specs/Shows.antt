-- Which ledgers the memory shows, and what it is for a function over the memory to do what the ledger does.
use Rattle.std.specs.Prelude.{◌≡◌, refl, Bool, true, false, cond, List, map, ℕ, suc, ◌+◌, ◌-◌, ◌*◌, ◌%◌, ◌<◌, ◌≤◌, length, get_or, take, drop}
use Rattle.std.proofs.Common.{sym, ◌∙◌, subst}
use Rattle.std.proofs.Math.Path.{ap}
use Rattle.std.proofs.lemmas.Bool.{eqb-false}
use Rattle.rows.specs.Splice.{cut}
use Rattle.rows.specs.Rows.{row_at}
use Rattle.rows.specs.Tab.{tab}
use Rattle.rings.specs.Ring.{holds}
use Rattle.messages.specs.Pending.{Pending, addressed, pending_in, mailboxes_of}
use Rattle.timers.specs.Timers.{timers_in, Upright}
use Rattle.tables.specs.declared.shape.Shape.{Shape}
use Rattle.tables.specs.declared.blocks.Block.{Block}
use Rattle.tables.specs.declared.blocks.Blocks.{Blocks}
use Rattle.tables.specs.declared.tasks.Outcome.{Outcome}
use Rattle.tables.specs.declared.tasks.Request.{Request}
use Rattle.tables.specs.declared.tasks.Task.{Task}
use Rattle.tables.specs.Layout.{OneOf, Laid, Fits, Regions, regions, record_at_lem}
use Rattle.tables.specs.Planes.{has, blocks_at}
use Rattle.tables.specs.Decode.{outcome_of, request_of, state_of, head_of, count_of, left_of, view_semaphore, view_task, record_as, state_as, record_of}
use Rattle.ledger.specs.Lists.{sum}
use Rattle.ledger.specs.Config as config
use Rattle.ledger.specs.Config.{Config}
use Rattle.ledger.specs.Ledger as ledger
use Rattle.ledger.specs.Ledger.{Ledger, Message, queue, held}
use Rattle.ledger.specs.Services.{shape}
use Rattle.ledger.specs.Session.{TimerLeft, timer_left}

-- ---- the items that the regions, the slots and the timers' block are

unfoldable pub task_at : Config → Regions → (slots : List ℕ) → ℕ → ledger.Task
task_at c p z i = view_task c (record_of c.Q (blocks_at p.blocks i) (row_at 6 i p.records)) (row_at 16 i p.waiting) (row_at 16 i z)

unfoldable pub tasks_in : Config → Regions → (slots : List ℕ) → List ledger.Task
tasks_in c p z = tab c.T (task_at c p z)

-- S named ones, one a task, two a queue
unfoldable pub semaphore_count : Config → ℕ
semaphore_count c = c.S + c.T + 2 * c.Q

unfoldable pub semaphore_at : Config → Regions → ℕ → ledger.Semaphore
semaphore_at c p i = view_semaphore (state_of c.T (get_or p.semaphores i 0))

unfoldable pub semaphores_in : Config → Regions → List ledger.Semaphore
semaphores_in c p = tab (semaphore_count c) (semaphore_at c p)

-- where the entries of the queue in row i begin: behind those of the queues before it
unfoldable pub bytes_of : config.QueueShape → ℕ
bytes_of k = k.width * k.depth

unfoldable pub begins : Config → ℕ → ℕ
begins c i = sum (map bytes_of (take i c.shapes))

unfoldable pub held_at : Config → Regions → ℕ → List (List ℕ)
held_at c p i =
    let k = shape c (suc i) in
    holds k.width k.depth (head_of k.depth (get_or p.rings (i * 2) 0)) (count_of k.depth (get_or p.rings (i * 2 + 1) 0))
    (cut p.bodies (begins c i) (begins c i + k.depth * k.width))

unfoldable pub queues_in : Config → Regions → List (List (List ℕ))
queues_in c p = tab c.Q (held_at c p)

-- the second byte of the clock's region counts the messages, the G records at most
unfoldable pub pending_of : Config → Regions → List Pending
pending_of c p = pending_in c.T (count_of c.G (get_or p.clock 1 0)) p.messages

unfoldable pub mailboxes_in : Config → Regions → List (List Message)
mailboxes_in c p = mailboxes_of c.T (pending_of c p)

-- the first byte of the timers' block counts the timers, the R records at most
unfoldable pub timers_of : Config → (timers : List ℕ) → List TimerLeft
timers_of c w = timers_in (count_of c.R (get_or w 0 0)) (drop 1 w)

-- the first byte of the clock's region is the ticks left in the tock
unfoldable pub ticks_in : Config → Regions → ℕ
ticks_in c p = c.K - left_of c.K (get_or p.clock 0 0)

-- ---- one value for one item: what the program writes, where other bytes would mean the same

-- no task behind the last has a block, and each record has the bytes of what it means
abbrev pub TidyTasks : Config → Regions → (z : List ℕ) → Type 0
TidyTasks c p z = ((k : Block) (i : ℕ) → c.T ≤ i → i < 128 → has k p.blocks i ≡ false) × ((i : ℕ) → i < c.T → row_at 6 i p.records ≡ record_as (task_at c p z i))

abbrev pub TidySemaphores : Config → Regions → Type 0
TidySemaphores c p = (i : ℕ) → i < semaphore_count c → get_or p.semaphores i 0 ≡ state_as (semaphore_at c p i)

-- no more than there can be, and the receiver of each is one of the tasks
abbrev pub TidyMessages : Config → Regions → Type 0
TidyMessages c p = (get_or p.clock 1 0 ≤ c.G) × (addressed c.T (get_or p.clock 1 0) p.messages ≡ true)

-- a ring begins at the number taken, modulo its depth
abbrev pub TidyRings : Config → Ledger → Regions → Type 0
TidyRings c L p =
    ((i : ℕ) → i < c.Q → get_or p.rings (i * 2) 0 ≡ (queue L (suc i)).taken % (shape c (suc i)).depth) × ((i : ℕ) → i < c.Q → get_or p.rings (i * 2 + 1) 0 ≤ (shape c (suc i)).depth)

-- no more than there can be, in order of the times at which they are due
abbrev pub TidyTimers : Config → (w : List ℕ) → Type 0
TidyTimers c w = (get_or w 0 0 ≤ c.R) × Upright (get_or w 0 0) (drop 1 w)

-- What stays free: the bytes of no enqueue that waits, of no entry that a ring holds, of no message and of no timer (the rows behind the number);
-- which record a message lies in, which is link order; and the ten bytes of the timers' clock, so at which time it begins
pub record Tidy (c : Config) (L : Ledger) (p : Regions) (z w : List ℕ) : Type 0 where
  pub ticks : OneOf c.K (get_or p.clock 0 0)
  pub messages : TidyMessages c p
  pub tasks : TidyTasks c p z
  pub semaphores : TidySemaphores c p
  pub rings : TidyRings c L p
  pub timers : TidyTimers c w

-- ---- the ledger L is shown: every item that demand 3 compares. Its history and N are what the memory can't show.
pub record Shown (tidy : Bool) (c : Config) (L : Ledger) (p : Regions) (z w : List ℕ) : Type 0 where
  pub ticks : L.ticks ≡ ticks_in c p
  pub tasks : L.tasks ≡ tasks_in c p z
  pub semaphores : L.semaphores ≡ semaphores_in c p
  pub mailboxes : L.mailboxes ≡ mailboxes_in c p
  pub queues : map held L.queues ≡ queues_in c p
  pub taken : (q : ℕ) → (queue L q).taken ≤ length (queue L q).put
  pub timers : map (timer_left L) L.timers ≡ timers_of c w
  pub tidily : tidy ≡ true → Tidy c L p z w

-- the shape is the configuration's, and the configuration one that document 01 accepts
pub record Of (c : Config) (s : Shape) : Type 0 where
  pub laid : Laid s
  pub tasks : s.tasks ≡ c.T
  pub named : s.named ≡ c.S
  pub queues : s.queues ≡ c.Q
  pub timers : s.timers ≡ c.R
  pub messages : s.messages ≡ c.G
  pub ticks : s.ticks ≡ c.K
  pub shapes : length c.shapes ≡ c.Q
  pub widths : (q : ℕ) → 1 ≤ q → q ≤ c.Q → (1 ≤ (shape c q).width) × ((shape c q).width ≤ 16)
  pub depths : (q : ℕ) → 1 ≤ q → q ≤ c.Q → (1 ≤ (shape c q).depth) × ((shape c q).depth ≤ 255)
  pub bodies : s.end ≡ s.bodyat + sum (map bytes_of c.shapes)

-- the tables d, the slots z and the timers' block w show the ledger L
pub record ShowsAs (tidy : Bool) (c : Config) (s : Shape) (L : Ledger) (d z w : List ℕ) : Type 0 where
  pub of : Of c s
  pub room : s.end ≤ length d
  pub slots : 16 * s.tasks ≤ length z
  pub counted : 11 + 10 * s.timers ≤ length w
  pub shown : Shown tidy c L (regions s d) z w

-- whatever the bytes that are no item hold
abbrev pub Shows : Config → Shape → Ledger → (d z w : List ℕ) → Type 0
Shows c s L d z w = ShowsAs false c s L d z w

pub no_tidy : {A : Type 0} → false ≡ true → A
no_tidy e = absurd (eqb-false 0 1 refl (ap (λ (b : Bool). cond b 1 0) e))

-- what is shown tidily is shown
pub loosely : {tidy : Bool} {c : Config} {s : Shape} {L : Ledger} {d z w : List ℕ} → ShowsAs tidy c s L d z w → Shows c s L d z w
loosely h =
    let k = h.shown in
    record {
      of = h.of;
      room = h.room;
      slots = h.slots;
      counted = h.counted;
      shown = record {
        ticks = k.ticks;
        tasks = k.tasks;
        semaphores = k.semaphores;
        mailboxes = k.mailboxes;
        queues = k.queues;
        taken = k.taken;
        timers = k.timers;
        tidily = λ e. no_tidy e;
      };
    }

-- ---- what a function does

-- the tables went from d to d' as the ledger goes by f, whatever the slots and the timers are
abbrev pub Does : Shape → (d d' : List ℕ) → (Config → Ledger → Ledger) → Type 0
Does s d d' f = (tidy : Bool) (c : Config) (L : Ledger) (z w : List ℕ) → ShowsAs tidy c s L d z w → ShowsAs tidy c s (f c L) d' z w

-- where P holds of the ledger
abbrev pub DoesIf : Shape → (d d' : List ℕ) → (Config → Ledger → Type 0) → (Config → Ledger → Ledger) → Type 0
DoesIf s d d' P f = (tidy : Bool) (c : Config) (L : Ledger) (z w : List ℕ) → P c L → ShowsAs tidy c s L d z w → ShowsAs tidy c s (f c L) d' z w

-- the tables with the slots, from d, z to d', z'
abbrev pub DoesWithSlotsIf : Shape → (d z d' z' : List ℕ) → (Config → Ledger → Type 0) → (Config → Ledger → Ledger) → Type 0
DoesWithSlotsIf s d z d' z' P f = (tidy : Bool) (c : Config) (L : Ledger) (w : List ℕ) → P c L → ShowsAs tidy c s L d z w → ShowsAs tidy c s (f c L) d' z' w

-- the tables with the timers, from d, w to d', w'
abbrev pub DoesWithTimers : Shape → (d w d' w' : List ℕ) → (Config → Ledger → Ledger) → Type 0
DoesWithTimers s d w d' w' f = (tidy : Bool) (c : Config) (L : Ledger) (z : List ℕ) → ShowsAs tidy c s L d z w → ShowsAs tidy c s (f c L) d' z w'

abbrev pub DoesWithTimersIf : Shape → (d w d' w' : List ℕ) → (Config → Ledger → Type 0) → (Config → Ledger → Ledger) → Type 0
DoesWithTimersIf s d w d' w' P f = (tidy : Bool) (c : Config) (L : Ledger) (z : List ℕ) → P c L → ShowsAs tidy c s L d z w → ShowsAs tidy c s (f c L) d' z w'

-- the value r is the ledger's
abbrev pub Tells : {A : Type 0} → Shape → List ℕ → (Config → Ledger → A) → A → Type 0
Tells s d f r = (c : Config) (L : Ledger) (z w : List ℕ) → Shows c s L d z w → r ≡ f c L

abbrev pub TellsIf : {A : Type 0} → Shape → List ℕ → (Config → Ledger → Type 0) → (Config → Ledger → A) → A → Type 0
TellsIf s d P f r = (c : Config) (L : Ledger) (z w : List ℕ) → P c L → Shows c s L d z w → r ≡ f c L

-- what is shown is another name of the same ledger
pub moved : {tidy : Bool} {c : Config} {s : Shape} {L L' : Ledger} {d z w : List ℕ} → L ≡ L' → ShowsAs tidy c s L d z w → ShowsAs tidy c s L' d z w
moved {tidy} {c} {s} {d = d} {z = z} {w = w} e h = subst (λ (X : Ledger). ShowsAs tidy c s X d z w) e h

-- e has as many bytes as an entry of queue q
abbrev pub AsWide : (q : ℕ) (e : List ℕ) → Config → Ledger → Type 0
AsWide q e c L = length e ≡ (shape c q).width

-- the task record that the tables hold
unfoldable pub record_in : Shape → List ℕ → ℕ → Task
record_in s d t = record_of s.queues (blocks_at (regions s d).blocks (t - 1)) (row_at 6 (t - 1) (regions s d).records)

-- the entry that waits to be put, and what lies behind it
unfoldable pub waiting_in : Shape → List ℕ → ℕ → List ℕ
waiting_in s d t = row_at 16 (t - 1) (regions s d).waiting

-- a record, read in its six bytes
module _ {s : Shape} {n : ℕ} (f : Fits s n) (d : List ℕ) (t : ℕ) (i : OneOf s.tasks t) where
  abbrev row : List ℕ
  row = cut d (s.recordat + (t - 1) * 6) (s.recordat + (t - 1) * 6 + 6)

  pub record_made : (b : Blocks) (o : Outcome) (q : Request) → b ≡ (record_in s d t).blocks → o ≡ outcome_of (get_or row 0 0) (get_or row 1 0) (get_or row 2 0) (get_or row 3 0)
      → q ≡ request_of s.queues (get_or row 4 0) (get_or row 5 0) → record { blocks = b; outcome = o; request = q } ≡ record_in s d t
  unfolding record_in record_of
  record_made b o q eb eo eq =
      let x : record { blocks = b; outcome = o; request = q } ≡ record_of s.queues (blocks_at (regions s d).blocks (t - 1)) row =
      λ i. record { blocks = eb i; outcome = eo i; request = eq i } in
      x ∙ ap (record_of s.queues (blocks_at (regions s d).blocks (t - 1))) (sym (record_at_lem f d t i))
