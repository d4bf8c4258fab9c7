-- One value for one item: where a memory shows a ledger tidily, each byte that is no free one is a function of that ledger; the times in the timers'
-- rows are one of the ledger and of their clock's time, which is free. So two lists of calls for the same frames, from one configuration, leave
-- the same bytes but for the free ones, and the same times but for the clock's.
use Prim.Native.Nat.{ℕ, zero, suc, ◌+◌, ◌-◌, ◌*◌, ◌%◌, ◌<◌, ◌≤◌}
use Rattle.std.specs.Prelude.{◌≡◌, Bool, true, false, eqb, ltb, take, drop}
use Rattle.std.proofs.Math.Path.{refl, sym, ap}
use Rattle.std.proofs.Common.{◌∙◌, add-zero, mod-lt}
use mathlib.Core.List.{List, [], ◌∷◌, map}
use native.Mathlib.Omega.{arith}
use borrow.Author.Tests.{le-leb, ne_eqb, lt-ltb, ltb-true, ltb-false}
use Rattle.std.proofs.Math.ListN.{length, get_or, get_or-map, get_or-eq_default}
use Rattle.std.proofs.lemmas.List.{length-map}
use Rattle.rows.specs.Splice.{cut}
use Rattle.rows.specs.Rows.{row_at, rows_of}
use Rattle.rows.specs.Four.{le4}
use Rattle.rows.specs.Tab.{tab_get, tab_length}
use Rattle.rings.specs.Ring.{wrap_of, gather}
use Rattle.rings.specs.Laws.{holds_length}
use Rattle.ledger.specs.Config.{Config, Limits, config_in, config_refusal}
use Rattle.ledger.specs.Ledger as ledger
use Rattle.ledger.specs.Ledger.{Ledger, mailbox, queue, held}
use Rattle.ledger.specs.Lists.{Bytes, within, all, keep}
use Rattle.ledger.proofs.Theorems.Checks.{and_left, and_right}
use Rattle.ledger.specs.Services.{shape}
use Rattle.ledger.specs.Session.{TimerLeft, timer_left, run}
use Rattle.ledger.proofs.Theorems.Parts.{Every, every_at}
use Rattle.ledger.proofs.Theorems.Sound.{sound}
use Rattle.messages.specs.Pending as messages
use Rattle.messages.specs.Pending.{letter_of, pending_in, to_task, addressed, for, mailbox_of}
use Rattle.messages.specs.Lying.{lying}
use Rattle.timers.specs.Timers.{timer, left_at, record_at, timers_in, no_timer, no_entry}
use Rattle.timers.specs.Records.{row_upright}
use Rattle.timers.specs.Loops.{length_timers}
use Rattle.tables.specs.declared.shape.Shape.{Shape}
use Rattle.tables.specs.declared.blocks.Block.{Block}
use Rattle.tables.specs.declared.blocks.Block.TheVariants.{Idle, Suspended, Event, Message}
use Rattle.tables.specs.declared.tasks.Request.{Request}
use Rattle.tables.specs.declared.tasks.Request.TheVariants.{None, Receive, Dequeue, Enqueue}
use Rattle.tables.specs.Layout.{OneOf, count_at, Regions, regions}
use Rattle.tables.specs.Planes.{has, blocks_at}
use Rattle.tables.specs.Decode.{head_of, left_of, count_of, view_blocks, view_request, view_task, record_as, record_of, state_as}
use Rattle.tables.specs.Shows.{task_at, tasks_in, semaphore_count, semaphore_at, semaphores_in, begins, held_at, pending_of, timers_of, ticks_in, ShowsAs, no_tidy}
use Rattle.tables.specs.Items.{queue_is, mailbox_is}
use Rattle.mailboxes.specs.Mail.{counter}
use Rattle.mailboxes.specs.Whole.{counted_shown}
use Rattle.configuration.specs.Layout.{shape_of}
use Rattle.mcx11.specs.Contract.{Memory, tables_part, slots_part, timers_part, Tidily}
use Rattle.theorems.specs.Same.{Same}

-- whether a task of the ledger has a block
abbrev has_block : Block → ledger.Task → Bool
has_block Idle t = t.blocks.idle
has_block Suspended t = t.blocks.suspended
has_block Event t = t.blocks.event_wait
has_block Message t = t.blocks.message_wait

-- the task in row i; behind the last there is the null task, which has no block
abbrev task_of : Ledger → ℕ → ledger.Task
task_of L i = get_or L.tasks i ledger.null_task

-- place k of the ring in row i, counted from where the ring begins
abbrev place_at : Config → Regions → (i k : ℕ) → List ℕ
place_at c p i k =
    let s = shape c (suc i) in
    row_at s.width (wrap_of s.depth (get_or p.rings (i * 2) 0 + k)) (cut p.bodies (begins c i) (begins c i + s.depth * s.width))

-- the messages in the records whose first byte is t, number, sender and semaphore each
abbrev letters_for : ℕ → Regions → List ledger.Message
letters_for t p = map letter_of (keep (λ r. eqb (get_or r 0 0) t) (rows_of 4 (get_or p.clock 1 0) p.messages))

-- timer k of the ledger, and the record of its row in the timers' block; the time of the clock there
abbrev timer_of : Ledger → ℕ → ledger.Timer
timer_of L k = get_or L.timers k no_entry

abbrev timer_at : (w : List ℕ) → ℕ → ledger.Timer
timer_at w k = record_at (drop 1 w) k

abbrev time_in : (w : List ℕ) → ℕ
time_in w = le4 (drop 1 w) 2

-- the bytes of the tables' regions p, of the slots z and of the timers' block w, by the ledger. A plane's bytes bit by bit
pub record OneValue (c : Config) (L : Ledger) (p : Regions) (z w : List ℕ) : Type 0 where
  -- the ticks left in the tock, and the number of messages
  pub ticks : get_or p.clock 0 0 ≡ c.K - L.ticks
  pub messages : get_or p.clock 1 0 ≡ lying L.mailboxes
  -- the records that are for task t, in the order in which they lie, are its mailbox
  pub mail : (t : ℕ) → OneOf c.T t → letters_for t p ≡ mailbox L t
  pub blocks : (k : Block) (i : ℕ) → i < 128 → has k p.blocks i ≡ has_block k (task_of L i)
  pub records : (i : ℕ) → i < c.T → row_at 6 i p.records ≡ record_as (task_of L i)
  -- the entry of an enqueue that waits
  pub waiting : (i : ℕ) → i < c.T → (q : ℕ) (e : List ℕ) → (task_of L i).request ≡ ledger.enqueue q e → take (shape c q).width (row_at 16 i p.waiting) ≡ e
  pub semaphores : (i : ℕ) → i < semaphore_count c → get_or p.semaphores i 0 ≡ state_as (get_or L.semaphores i ledger.PENDING)
  -- where a ring begins, how many entries it holds, and these
  pub heads : (i : ℕ) → i < c.Q → get_or p.rings (i * 2) 0 ≡ (queue L (suc i)).taken % (shape c (suc i)).depth
  pub counts : (i : ℕ) → i < c.Q → get_or p.rings (i * 2 + 1) 0 ≡ length (held (queue L (suc i)))
  pub entries : (i : ℕ) → i < c.Q → (k : ℕ) → k < length (held (queue L (suc i))) → place_at c p i k ≡ get_or (held (queue L (suc i))) k []
  pub slots : (i : ℕ) → i < c.T → row_at 16 i z ≡ (task_of L i).slot
  -- the number of timers
  pub timers : get_or w 0 0 ≡ length L.timers
  -- each in its row, in order. It is due at the clock's time and the tocks left, where some are left
  pub rows : (k : ℕ) → k < length L.timers → ((timer_at w k).task ≡ (timer_of L k).task) × ((timer_at w k).semaphore ≡ (timer_of L k).semaphore) × ((timer_at w k).period ≡ (timer_of L k).period)
  pub due : (k : ℕ) → k < length L.timers → L.N < (timer_of L k).due → (timer_at w k).due ≡ time_in w + ((timer_of L k).due - L.N)

gather_at : {A : Type 0} (f : ℕ → A) (i n k : ℕ) (v : A) → k < n → get_or (gather f i n) k v ≡ f (i + k)
gather_at f i zero k v h = absurd (omega arith)
gather_at f i (suc n) zero v h = ap f (sym (add-zero i))
gather_at f i (suc n) (suc k) v h = let e : suc i + k ≡ i + suc k = omega arith in gather_at f (suc i) n k v (omega arith) ∙ ap f e

-- where every receiver is one of the tasks, none is read as another
raw_mail : (T t : ℕ) (rows : List (List ℕ)) → all (to_task T) rows ≡ true
    → map letter_of (keep (λ r. eqb (get_or r 0 0) t) rows) ≡ map (λ x. x.message) (keep (for t) (map (messages.pending_of T) rows))
unfolding keep all
raw_mail T t [] h = refl
raw_mail T t (r ∷ rs) h =
    go (within 1 T (get_or r 0 0)) refl (and_left (within 1 T (get_or r 0 0)) _ h) (eqb (get_or r 0 0) t) refl
    (raw_mail T t rs (and_right (within 1 T (get_or r 0 0)) (all (to_task T) rs) h))
  where
    go : (b : Bool) → within 1 T (get_or r 0 0) ≡ b → b ≡ true → (q : Bool) → eqb (get_or r 0 0) t ≡ q
        → map letter_of (keep (λ r. eqb (get_or r 0 0) t) rs) ≡ map (λ x. x.message) (keep (for t) (map (messages.pending_of T) rs))
        → map letter_of (keep (λ r. eqb (get_or r 0 0) t) (r ∷ rs)) ≡ map (λ x. x.message) (keep (for t) (map (messages.pending_of T) (r ∷ rs)))
    go true e z true q ih = rw (e, q) (ap (λ (l : List ledger.Message). letter_of r ∷ l) ih)
    go true e z false q ih = rw (e, q) ih
    go false e z q i ih = no_tidy z

null_none : (k : Block) → has_block k ledger.null_task ≡ false
null_none Idle = refl
null_none Suspended = refl
null_none Event = refl
null_none Message = refl

-- the queue and the entry of an enqueue
abbrev queue_in : ledger.Request → ℕ
queue_in ledger.none = 0
queue_in (ledger.receive a) = 0
queue_in (ledger.dequeue q) = 0
queue_in (ledger.enqueue q e) = q + 1

abbrev entry_in : ledger.Request → List ℕ
entry_in ledger.none = []
entry_in (ledger.receive a) = []
entry_in (ledger.dequeue q) = []
entry_in (ledger.enqueue q e) = e

-- a request that means an enqueue is one, with the bytes that wait
enqueue_is : (c : Config) (r : Request) (v : List ℕ) (q : ℕ) (e : List ℕ) → view_request c r v ≡ ledger.enqueue q e → take (shape c q).width v ≡ e
unfolding view_request
enqueue_is c None v q e h = absurd (let n : 0 ≡ q + 1 = ap queue_in h in omega arith)
enqueue_is c (Receive a) v q e h = absurd (let n : 0 ≡ q + 1 = ap queue_in h in omega arith)
enqueue_is c (Dequeue a) v q e h = absurd (let n : 0 ≡ q + 1 = ap queue_in h in omega arith)
enqueue_is c (Enqueue a) v q e h =
    let n : a + 1 ≡ q + 1 = ap queue_in h in
    let m : q ≡ a = omega arith in
    ap (λ (k : ℕ). take (shape c k).width v) m ∙ ap entry_in h

module _ (c : Config) (s : Shape) (L : Ledger) (d z w : List ℕ) (h : ShowsAs true c s L d z w) where
  abbrev p : Regions
  p = regions s d

  ticks_are : get_or p.clock 0 0 ≡ c.K - L.ticks
  unfolding ticks_in
  ticks_are =
      let x : ℕ = get_or p.clock 0 0 in
      let o = (h.shown.tidily refl).ticks in
      let e : left_of c.K x ≡ x = rw (ne_eqb x 0 (λ q. omega (arith, o)), le-leb x c.K o.1) in
      omega (arith, h.shown.ticks, o)

  messages_are : get_or p.clock 1 0 ≡ lying L.mailboxes
  messages_are =
      let x : ℕ = get_or d count_at 0 in
      let e : get_or p.clock 1 0 ≡ x = counter c s L d z w h in
      let few : x ≤ s.messages = omega (arith, (h.shown.tidily refl).messages.0, h.of.messages) in
      let n : count_of s.messages x ≡ x = rw (le-leb x s.messages few) in
      e ∙ sym n ∙ counted_shown c s L d z w h

  mail_are : (t : ℕ) → OneOf c.T t → letters_for t p ≡ mailbox L t
  unfolding addressed pending_of pending_in mailbox_of
  mail_are t one =
      let x : ℕ = get_or p.clock 1 0 in
      let o = (h.shown.tidily refl).messages in
      let n : count_of c.G x ≡ x = rw (le-leb x c.G o.0) in
      raw_mail c.T t (rows_of 4 x p.messages) o.1
      ∙ ap (λ (k : ℕ). map (λ y. y.message) (keep (for t) (map (messages.pending_of c.T) (rows_of 4 k p.messages)))) (sym n)
      ∙ sym (mailbox_is c L p z w h.shown t one)

  task_are : (i : ℕ) → i < c.T → task_of L i ≡ task_at c p z i
  unfolding tasks_in
  task_are i l = ap (λ (x : List ledger.Task). get_or x i ledger.null_task) h.shown.tasks ∙ tab_get c.T i (task_at c p z) ledger.null_task l

  tasks_length : length L.tasks ≡ c.T
  unfolding tasks_in
  tasks_length = ap length h.shown.tasks ∙ tab_length c.T (task_at c p z)

  has_are : (k : Block) (i : ℕ) → has k p.blocks i ≡ has_block k (task_at c p z i)
  unfolding task_at view_task view_blocks record_of blocks_at
  has_are Idle i = refl
  has_are Suspended i = refl
  has_are Event i = refl
  has_are Message i = refl

  blocks_are : (k : Block) (i : ℕ) → i < 128 → has k p.blocks i ≡ has_block k (task_of L i)
  blocks_are k i l = go (ltb i c.T) refl
    where
      go : (b : Bool) → ltb i c.T ≡ b → has k p.blocks i ≡ has_block k (task_of L i)
      go true e = has_are k i ∙ ap (has_block k) (sym (task_are i (ltb-true i c.T e)))
      go false e =
          let g : c.T ≤ i = ltb-false i c.T e in
          (h.shown.tidily refl).tasks.0 k i g l ∙ sym (null_none k) ∙ ap (has_block k) (sym (get_or-eq_default L.tasks ledger.null_task {n = i} (omega (arith, tasks_length))))

  slot_are : (i : ℕ) → row_at 16 i z ≡ (task_at c p z i).slot
  unfolding task_at view_task
  slot_are i = refl

  waiting_are : (i : ℕ) → i < c.T → (q : ℕ) (e : List ℕ) → (task_of L i).request ≡ ledger.enqueue q e → take (shape c q).width (row_at 16 i p.waiting) ≡ e
  unfolding task_at view_task
  waiting_are i l q e r = enqueue_is c _ (row_at 16 i p.waiting) q e (sym (ap (λ (t : ledger.Task). t.request) (task_are i l)) ∙ r)

  semaphore_are : (i : ℕ) → i < semaphore_count c → get_or L.semaphores i ledger.PENDING ≡ semaphore_at c p i
  unfolding semaphores_in
  semaphore_are i l = ap (λ (x : List ledger.Semaphore). get_or x i ledger.PENDING) h.shown.semaphores ∙ tab_get (semaphore_count c) i (semaphore_at c p) ledger.PENDING l

  module _ (i : ℕ) (l : i < c.Q) where
    abbrev deep : ℕ
    deep = (shape c (suc i)).depth

    held_are : held (queue L (suc i)) ≡ held_at c p i
    held_are = let e : suc i - 1 ≡ i = omega arith in queue_is c L p z w h.shown (suc i) (omega arith, omega arith) ∙ ap (held_at c p) e

    head_is : head_of deep (get_or p.rings (i * 2) 0) ≡ get_or p.rings (i * 2) 0
    head_is =
        let e = (h.shown.tidily refl).rings.0 i l in
        rw (lt-ltb (get_or p.rings (i * 2) 0) deep (omega (arith, e, mod-lt (queue L (suc i)).taken (h.of.depths (suc i) (omega arith) (omega arith)).0)))

    count_is : count_of deep (get_or p.rings (i * 2 + 1) 0) ≡ get_or p.rings (i * 2 + 1) 0
    count_is = rw (le-leb (get_or p.rings (i * 2 + 1) 0) deep ((h.shown.tidily refl).rings.1 i l))

    count_are : get_or p.rings (i * 2 + 1) 0 ≡ length (held (queue L (suc i)))
    unfolding held_at
    count_are = sym (ap length held_are ∙ holds_length (shape c (suc i)).width deep _ _ _ ∙ count_is)

    entry_are : (k : ℕ) → k < length (held (queue L (suc i))) → place_at c p i k ≡ get_or (held (queue L (suc i))) k []
    unfolding held_at
    entry_are k n =
        let b : List ℕ = cut p.bodies (begins c i) (begins c i + deep * (shape c (suc i)).width) in
        let f : ℕ → List ℕ = λ j. row_at (shape c (suc i)).width (wrap_of deep j) b in
        sym (ap (λ (x : List (List ℕ)). get_or x k []) held_are
        ∙ gather_at f (head_of deep (get_or p.rings (i * 2) 0)) (count_of deep (get_or p.rings (i * 2 + 1) 0)) k [] (omega (arith, count_is, count_are))
        ∙ ap (λ (x : ℕ). f (x + k)) head_is)

  number_is : count_of c.R (get_or w 0 0) ≡ get_or w 0 0
  number_is = rw (le-leb (get_or w 0 0) c.R (h.shown.tidily refl).timers.0)

  timers_are : get_or w 0 0 ≡ length L.timers
  unfolding timers_of
  timers_are =
      sym (sym (length-map L.timers (timer_left L)) ∙ ap length h.shown.timers ∙ length_timers (count_of c.R (get_or w 0 0)) _ ∙ number_is)

  timer_are : (k : ℕ) → k < length L.timers → timer_left L (timer_of L k) ≡ left_at ((timer_at w k).due - time_in w) (timer_at w k)
  unfolding timers_of timer_left
  timer_are k l =
      let z : 0 - L.N ≡ 0 = omega arith in
      sym (get_or-map (timer_left L) L.timers k no_entry)
      ∙ ap (λ (x : ℕ). get_or (map (timer_left L) L.timers) k (timer 0 0 x 0)) z
      ∙ ap (λ (x : List TimerLeft). get_or x k no_timer) h.shown.timers
      ∙ ap (λ (n : ℕ). get_or (timers_in n (drop 1 w)) k no_timer) number_is
      ∙ row_upright (get_or w 0 0) k (drop 1 w) (h.shown.tidily refl).timers.1 (omega (arith, timers_are))

  row_are : (k : ℕ) → k < length L.timers → ((timer_at w k).task ≡ (timer_of L k).task) × ((timer_at w k).semaphore ≡ (timer_of L k).semaphore) × ((timer_at w k).period ≡ (timer_of L k).period)
  unfolding timer_left
  row_are k l =
      let e = timer_are k l in
      (sym (ap (λ (t : TimerLeft). t.task) e), sym (ap (λ (t : TimerLeft). t.semaphore) e), sym (ap (λ (t : TimerLeft). t.period) e))

  due_are : (k : ℕ) → k < length L.timers → L.N < (timer_of L k).due → (timer_at w k).due ≡ time_in w + ((timer_of L k).due - L.N)
  unfolding timer_left
  due_are k l later =
      let e : (timer_of L k).due - L.N ≡ (timer_at w k).due - time_in w = ap (λ (t : TimerLeft). t.left) (timer_are k l) in
      omega arith

  pub values : OneValue c L p z w
  values =
      record {
        ticks = ticks_are;
        messages = messages_are;
        mail = mail_are;
        blocks = blocks_are;
        records = λ i l. (h.shown.tidily refl).tasks.1 i l ∙ ap record_as (sym (task_are i l));
        waiting = waiting_are;
        semaphores = λ i l. (h.shown.tidily refl).semaphores i l ∙ ap state_as (sym (semaphore_are i l));
        heads = (h.shown.tidily refl).rings.0;
        counts = count_are;
        entries = entry_are;
        slots = λ i l. slot_are i ∙ ap (λ (t : ledger.Task). t.slot) (sym (task_are i l));
        timers = timers_are;
        rows = row_are;
        due = due_are;
      }

-- ---- of a memory, and of two

unfoldable pub Valued : Config → Ledger → Memory → Type 0
Valued c l m = OneValue c l (regions (shape_of c) (tables_part c m)) (slots_part c m) (timers_part c m)

pub one_value : (c : Config) (l : Ledger) (m : Memory) → Tidily c l m → Valued c l m
unfolding Tidily Valued
one_value c l m h = values c (shape_of c) l (tables_part c m) (slots_part c m) (timers_part c m) h

-- the same bytes, but for the free ones: two memories whose bytes are functions of one ledger
pub record SameBytes (c : Config) (L : Ledger) (p p' : Regions) (z z' w w' : List ℕ) : Type 0 where
  pub ticks : get_or p.clock 0 0 ≡ get_or p'.clock 0 0
  pub messages : get_or p.clock 1 0 ≡ get_or p'.clock 1 0
  pub mail : (t : ℕ) → OneOf c.T t → letters_for t p ≡ letters_for t p'
  pub blocks : (k : Block) (i : ℕ) → i < 128 → has k p.blocks i ≡ has k p'.blocks i
  pub records : (i : ℕ) → i < c.T → row_at 6 i p.records ≡ row_at 6 i p'.records
  pub waiting : (i : ℕ) → i < c.T → (q : ℕ) (e : List ℕ) → (task_of L i).request ≡ ledger.enqueue q e
      → take (shape c q).width (row_at 16 i p.waiting) ≡ take (shape c q).width (row_at 16 i p'.waiting)
  pub semaphores : (i : ℕ) → i < semaphore_count c → get_or p.semaphores i 0 ≡ get_or p'.semaphores i 0
  pub heads : (i : ℕ) → i < c.Q → get_or p.rings (i * 2) 0 ≡ get_or p'.rings (i * 2) 0
  pub counts : (i : ℕ) → i < c.Q → get_or p.rings (i * 2 + 1) 0 ≡ get_or p'.rings (i * 2 + 1) 0
  pub entries : (i : ℕ) → i < c.Q → (k : ℕ) → k < get_or p.rings (i * 2 + 1) 0 → place_at c p i k ≡ place_at c p' i k
  pub slots : (i : ℕ) → i < c.T → row_at 16 i z ≡ row_at 16 i z'
  pub timers : get_or w 0 0 ≡ get_or w' 0 0
  pub rows : (k : ℕ) → k < get_or w 0 0 → ((timer_at w k).task ≡ (timer_at w' k).task) × ((timer_at w k).semaphore ≡ (timer_at w' k).semaphore) × ((timer_at w k).period ≡ (timer_at w' k).period)

same_values : {c : Config} {L : Ledger} {p p' : Regions} {z z' w w' : List ℕ} → OneValue c L p z w → OneValue c L p' z' w' → SameBytes c L p p' z z' w w'
same_values {c} {L} a b =
    record {
      ticks = a.ticks ∙ sym b.ticks;
      messages = a.messages ∙ sym b.messages;
      mail = λ t o. a.mail t o ∙ sym (b.mail t o);
      blocks = λ k i l. a.blocks k i l ∙ sym (b.blocks k i l);
      records = λ i l. a.records i l ∙ sym (b.records i l);
      waiting = λ i l q e r. a.waiting i l q e r ∙ sym (b.waiting i l q e r);
      semaphores = λ i l. a.semaphores i l ∙ sym (b.semaphores i l);
      heads = λ i l. a.heads i l ∙ sym (b.heads i l);
      counts = λ i l. a.counts i l ∙ sym (b.counts i l);
      entries = λ i l k n. let m : k < length (held (queue L (suc i))) = omega (arith, a.counts i l) in a.entries i l k m ∙ sym (b.entries i l k m);
      slots = λ i l. a.slots i l ∙ sym (b.slots i l);
      timers = a.timers ∙ sym b.timers;
      rows = λ k n.
          let m : k < length L.timers = omega (arith, a.timers) in
          let x = a.rows k m in
          let y = b.rows k m in
          (x.0 ∙ sym y.0, x.1 ∙ sym y.1, x.2 ∙ sym y.2);
    }

-- two executives that meet the contracts, whatever their limits are and whatever memory each is lent: after a configuration that both accept and the
-- same frames they leave the same bytes in the parts, but for the free ones. (Outside the parts each leaves what was there: Same.outside)
pub both_same : {k j : Limits} {g : List ℕ} {m₀ n₀ m n : Memory} {fs answered₁ answered₂ : List (List ℕ)} {returned₁ returned₂ : List ℕ}
    → Same k g m₀ fs answered₁ returned₁ m → Same j g n₀ fs answered₂ returned₂ n
    → let c = config_in g in
    let s = shape_of c in
    SameBytes c (run c fs).0 (regions s (tables_part c m)) (regions s (tables_part c n)) (slots_part c m) (slots_part c n) (timers_part c m) (timers_part c n)
unfolding Valued
both_same {g = g} {m = m} {n = n} {fs = fs} a b =
    let c = config_in g in
    same_values (one_value c (run c fs).0 m a.tidy) (one_value c (run c fs).0 n b.tidy)

-- ---- frames of bytes: each timer is due after N, so some tocks are left

pub due_valued : {k : Limits} {g : List ℕ} {m₀ m : Memory} {fs answered : List (List ℕ)} {returned : List ℕ} → config_refusal g ≡ 0 → Same k g m₀ fs answered returned m → Every Bytes fs
    → let c = config_in g in let l = (run c fs).0 in let w = timers_part c m in (i : ℕ) → i < length l.timers → (timer_at w i).due ≡ time_in w + ((timer_of l i).due - l.N)
unfolding Valued
due_valued {g = g} {m = m} {fs = fs} h same bytes i j =
    let c = config_in g in
    let l = (run c fs).0 in
    (one_value c l m same.tidy).due i j (every_at (sound g h bytes).timers.each i no_entry j).later
