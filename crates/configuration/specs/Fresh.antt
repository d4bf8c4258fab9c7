-- Which bytes show the fresh ledger.
use Rattle.std.specs.Prelude.{◌≡◌, Bool, true, false, cond, ◌&&◌, eqb, leb, drop, replicate}
use Rattle.std.proofs.Math.Path.{refl, sym, ap, subst}
use Rattle.std.proofs.Common.{◌∙◌, mod-eq_of_lt, ext_get_or}
use mathlib.Core.List.{List, [], ◌∷◌, map}
use Prim.Native.Nat.{ℕ, zero, suc, ◌+◌, ◌*◌, ◌%◌, ◌<◌, ◌≤◌}
use native.Mathlib.Omega.{arith}
use Rattle.std.proofs.Math.ListN.{length, get_or}
use Rattle.std.proofs.lemmas.List.{get_or-replicate}
use borrow.Author.Tests.{ne_eqb, le-leb, leb-true}
use Rattle.rows.specs.Rows.{row_at, get_d_row, length_row, drop_elems}
use Rattle.rows.specs.Tab.{tab, tab_ext, tab_of, map_tab}
use Rattle.messages.specs.Pending.{addressed, pending_in, mailboxes_of}
use Rattle.messages.specs.Mailboxes.{mailboxes_none}
use Rattle.timers.specs.Timers.{Upright}
use Rattle.timers.specs.Records.{none_in, none_upright}
use Rattle.ledger.specs.Lists.{all}
use Rattle.ledger.specs.Config.{Config}
use Rattle.ledger.specs.Ledger as ledger
use Rattle.ledger.specs.Ledger.{Queue, queue, held, empty_queue, fresh_task, fresh}
use Rattle.ledger.specs.Services.{shape}
use Rattle.ledger.proofs.Theorems.Checks.{and_right}
use Rattle.ledger.proofs.Theorems.Fresh.{fresh_queue}
use Rattle.rows.specs.Splice.{cut}
use Rattle.tables.specs.declared.shape.Shape.{Shape}
use Rattle.tables.specs.declared.blocks.Blocks.{Blocks}
use Rattle.tables.specs.Layout.{ticks_at, count_at, planes_at, records_at, Fits, fitting, Regions, regions, region, named, bound, region_at, region_length, planes_are}
use Rattle.tables.specs.declared.blocks.Block.{Block}
use Rattle.tables.specs.Planes.{has, blocks_at}
use Rattle.tables.specs.Decode.{state_of, view_blocks, view_outcome, view_request, view_semaphore, view_task, outcome_as, request_as, record_as, state_as, record_of}
use Rattle.tables.specs.Shows.{task_at, tasks_in, semaphore_count, semaphore_at, semaphores_in, held_at, queues_in, pending_of, mailboxes_in, timers_of, ticks_in, Tidy, Shown, Of, ShowsAs}

-- the kind of the outcome: begin for a runnable task, plain for an idle one
abbrev pub kind_of : ℕ → ℕ
kind_of state = cond (eqb state 0) 1 0

-- idle or not, and no other block
abbrev pub idle_of : ℕ → Bool
idle_of state = cond (eqb state 0) false true

abbrev pub fresh_blocks : ℕ → Blocks
fresh_blocks state = record { idle = idle_of state; suspended = false; event = false; message = false }

-- all ticks left, no message, the tasks by their initial states, no block behind the last, no request, every semaphore PENDING, every ring empty.
-- All other bytes are free
pub record FreshTables (s : Shape) (k : ℕ) (states d : List ℕ) : Type 0 where
  pub ticks : get_or d ticks_at 0 ≡ k
  pub messages : get_or d count_at 0 ≡ 0
  pub blocks : (i : ℕ) → i < s.tasks → blocks_at (cut d planes_at records_at) i ≡ fresh_blocks (get_or states i 0)
  pub behind : (q : Block) (i : ℕ) → s.tasks ≤ i → i < 128 → has q (cut d planes_at records_at) i ≡ false
  pub kinds : (i : ℕ) → i < s.tasks → get_or d (s.recordat + i * 6) 0 ≡ kind_of (get_or states i 0)
  pub requests : (i j : ℕ) → i < s.tasks → 1 ≤ j → j < 6 → get_or d (s.recordat + (i * 6 + j)) 0 ≡ 0
  pub semaphores : (i : ℕ) → i < s.semaphores → get_or d (s.semaphoreat + i) 0 ≡ 0
  pub rings : (i : ℕ) → i < 2 * s.queues → get_or d (s.ringat + i) 0 ≡ 0

-- ---- one task

fresh_record : (c : Config) (Q st : ℕ) (b : Blocks) (r e : List ℕ) → st ≤ 1 → b ≡ fresh_blocks st → get_or r 0 0 ≡ kind_of st → get_or r 4 0 ≡ 0 → get_or r 5 0 ≡ 0
    → fresh_task st ≡ view_task c (record_of Q b r) e (replicate 16 0)
unfolding fresh_task view_task record_of view_blocks view_outcome view_request
fresh_record c Q zero b r e h eb ek e4 e5 = rw (eb, ek, e4, e5)
fresh_record c Q (suc zero) b r e h eb ek e4 e5 = rw (eb, ek, e4, e5)
fresh_record c Q (suc (suc n)) b r e h eb ek e4 e5 = absurd (omega arith)

-- its six bytes
fresh_bytes : (st : ℕ) → st ≤ 1 → record_as (fresh_task st) ≡ kind_of st ∷ 0 ∷ 0 ∷ 0 ∷ 0 ∷ 0 ∷ []
unfolding record_as outcome_as request_as fresh_task
fresh_bytes zero h = refl
fresh_bytes (suc zero) h = refl
fresh_bytes (suc (suc n)) h = absurd (omega arith)

-- ---- lists of equals

module _ {A : Type 0} where
  tab_same : (n : ℕ) (v : A) (f : ℕ → A) → ((j : ℕ) → j < n → v ≡ f j) → replicate n v ≡ tab n f
  unfolding tab
  tab_same zero v f h = refl
  tab_same (suc n) v f h = λ i. h 0 (omega arith) i ∷ tab_same n v (λ j. f (suc j)) (λ j l. h (suc j) (omega arith)) i

  map_same : {B : Type 0} (g : A → B) (n : ℕ) (v : A) → map g (replicate n v) ≡ replicate n (g v)
  map_same {B} g zero v = refl
  map_same {B} g (suc n) v = ap (λ (l : List B). g v ∷ l) (map_same g n v)

state_low : (l : List ℕ) (i : ℕ) → all (λ s. leb s 1) l ≡ true → get_or l i 0 ≤ 1
unfolding all
state_low [] i h = omega arith
state_low (x ∷ xs) zero h = go (leb x 1) refl h
  where
    go : (b : Bool) → leb x 1 ≡ b → (b && all (λ s. leb s 1) xs) ≡ true → x ≤ 1
    go true e k = leb-true x 1 e
    go false e k = absurd (let y : ◌≡◌ {A = ℕ} 0 1 = cc in omega arith)
state_low (x ∷ xs) (suc i) h = state_low xs i (and_right (leb x 1) (all (λ s. leb s 1) xs) h)

module _ (c : Config) (s : Shape) (o : Of c s) (d z w : List ℕ)
    (tasks : length c.states ≡ c.T) (low : all (λ s. leb s 1) c.states ≡ true)
    (b : FreshTables s c.K c.states d)
    (slots : 16 * c.T ≤ length z) (zeros : (i : ℕ) → i < 16 * c.T → get_or z i 0 ≡ 0)
    (none : get_or w 0 0 ≡ 0) where
  abbrev p : Regions
  p = regions s d

  -- a byte of a region is one of the tables
  in_clock : (i : ℕ) → i < 2 → get_or p.clock i 0 ≡ get_or d i 0
  unfolding regions named bound
  in_clock i h = region_at s d 0 i (omega arith) ∙ ap (λ (x : ℕ). get_or d x 0) (let e : 0 + i ≡ i = omega arith in e)

  in_blocks : (i : ℕ) → i < c.T → blocks_at p.blocks i ≡ fresh_blocks (get_or c.states i 0)
  in_blocks i h =
      let f : Fits s s.end = fitting o.laid (omega arith) in
      ap (λ (x : List ℕ). blocks_at x i) (planes_are f d) ∙ b.blocks i (omega (arith, o.tasks))

  in_record : (i j : ℕ) → i < c.T → j < 6 → get_or (row_at 6 i p.records) j 0 ≡ get_or d (s.recordat + (i * 6 + j)) 0
  unfolding regions named bound
  in_record i j h k = let l = o.laid in get_d_row 6 i j (region s d 2) k ∙ region_at s d 2 (i * 6 + j) (omega arith)

  in_semaphores : (i : ℕ) → i < s.semaphores → get_or p.semaphores i 0 ≡ 0
  unfolding regions named bound
  in_semaphores i h = let l = o.laid in region_at s d 3 i (omega arith) ∙ b.semaphores i h

  in_rings : (i : ℕ) → i < 2 * s.queues → get_or p.rings i 0 ≡ 0
  unfolding regions named bound
  in_rings i h = let l = o.laid in region_at s d 5 i (omega arith) ∙ b.rings i h

  in_slot : (i : ℕ) → i < c.T → row_at 16 i z ≡ replicate 16 0
  in_slot i h =
      let n : length (row_at 16 i z) ≡ 16 = length_row 16 i z (omega arith) in
      ext_get_or 0 (row_at 16 i z) (replicate 16 0) n (λ j k.
      let m : j < 16 = omega arith in
      get_d_row 16 i j z m ∙ zeros (i * 16 + j) (omega arith) ∙ sym (get_or-replicate 16 j 0 0 m))

  task_fresh : (i : ℕ) → i < c.T → fresh_task (get_or c.states i 0) ≡ task_at c p z i
  unfolding task_at
  task_fresh i h =
      let l = o.laid in
      let e : s.recordat + (i * 6 + 0) ≡ s.recordat + i * 6 = omega arith in
      fresh_record c c.Q (get_or c.states i 0) (blocks_at p.blocks i) (row_at 6 i p.records) (row_at 16 i p.waiting) (state_low c.states i low) (in_blocks i h)
      (in_record i 0 h (omega arith) ∙ ap (λ (x : ℕ). get_or d x 0) e ∙ b.kinds i (omega arith))
      (in_record i 4 h (omega arith) ∙ b.requests i 4 (omega arith) (omega arith) (omega arith))
      (in_record i 5 h (omega arith) ∙ b.requests i 5 (omega arith) (omega arith) (omega arith))
      ∙ ap (view_task c (record_of c.Q (blocks_at p.blocks i) (row_at 6 i p.records)) (row_at 16 i p.waiting)) (sym (in_slot i h))

  tasks_fresh : map fresh_task c.states ≡ tasks_in c p z
  unfolding tasks_in
  tasks_fresh =
      ap (map fresh_task) (tab_of c.states c.T 0 tasks) ∙ map_tab fresh_task c.T (λ i. get_or c.states i 0)
      ∙ tab_ext c.T (λ i. fresh_task (get_or c.states i 0)) (task_at c p z) task_fresh

  semaphores_fresh : replicate (c.S + c.T + 2 * c.Q) ledger.PENDING ≡ semaphores_in c p
  unfolding semaphores_in semaphore_count semaphore_at view_semaphore
  semaphores_fresh =
      let l = o.laid in
      tab_same (c.S + c.T + 2 * c.Q) ledger.PENDING (λ i. view_semaphore (state_of c.T (get_or p.semaphores i 0))) (λ j h. rw (in_semaphores j (omega arith)))

  pending_fresh : pending_of c p ≡ []
  unfolding pending_of pending_in
  pending_fresh = rw (in_clock 1 (omega arith) ∙ b.messages, le-leb 0 c.G (omega arith))

  mailboxes_fresh : replicate c.T [] ≡ mailboxes_in c p
  unfolding mailboxes_in
  mailboxes_fresh = sym (mailboxes_none c.T) ∙ ap (mailboxes_of c.T) (sym pending_fresh)

  queues_fresh : map held (replicate c.Q empty_queue) ≡ queues_in c p
  unfolding queues_in held_at held
  queues_fresh =
      map_same held c.Q empty_queue
      ∙ tab_same c.Q [] (held_at c p) (λ j h. sym (rw (in_rings (j * 2 + 1) (omega (arith, o.queues)), le-leb 0 (shape c (suc j)).depth (omega arith))))

  ticks_fresh : 0 ≡ ticks_in c p
  unfolding ticks_in
  ticks_fresh =
      let l = o.laid in
      let e : get_or p.clock 0 0 ≡ c.K = in_clock 0 (omega arith) ∙ b.ticks in
      rw (e, ne_eqb c.K 0 (λ q. omega arith), le-leb c.K c.K (omega arith)) (omega arith)

  taken_fresh : (q : ℕ) → (queue (fresh c) q).taken ≤ length (queue (fresh c) q).put
  taken_fresh q = subst (λ (k : Queue). k.taken ≤ length k.put) (sym (fresh_queue c q)) (omega arith)

  timers_fresh : [] ≡ timers_of c w
  unfolding timers_of
  timers_fresh = sym (rw (none, le-leb 0 c.R (omega arith)) (none_in (drop 1 w)))

  -- ---- and tidily

  row_fresh : s.end ≤ length d → (i : ℕ) → i < c.T → row_at 6 i p.records ≡ record_as (task_at c p z i)
  unfolding regions named bound
  row_fresh room i h =
      let l = o.laid in
      let r : List ℕ = row_at 6 i p.records in
      let n : length r ≡ 6 = length_row 6 i p.records (omega (arith, region_length s l d room 2)) in
      let e : s.recordat + (i * 6 + 0) ≡ s.recordat + i * 6 = omega arith in
      let kind : get_or r 0 0 ≡ kind_of (get_or c.states i 0) = in_record i 0 h (omega arith) ∙ ap (λ (x : ℕ). get_or d x 0) e ∙ b.kinds i (omega arith) in
      let zero : (j : ℕ) → 1 ≤ j → j < 6 → get_or r j 0 ≡ 0 = λ j f g. in_record i j h g ∙ b.requests i j (omega arith) f g in
      drop_elems 6 0 r n
      ∙ (λ x. kind x ∷ zero 1 (omega arith) (omega arith) x ∷ zero 2 (omega arith) (omega arith) x ∷ zero 3 (omega arith) (omega arith) x ∷ zero 4 (omega arith) (omega arith) x ∷ zero 5 (omega arith) (omega arith) x ∷ [])
      ∙ sym (fresh_bytes (get_or c.states i 0) (state_low c.states i low)) ∙ ap record_as (task_fresh i h)

  fresh_tidy : s.end ≤ length d → Tidy c (fresh c) p z w
  unfolding semaphore_at semaphore_count state_as view_semaphore addressed all
  fresh_tidy room =
      let l = o.laid in
      let f : Fits s s.end = fitting l (omega arith) in
      let ticks : get_or p.clock 0 0 ≡ c.K = in_clock 0 (omega arith) ∙ b.ticks in
      record {
        ticks = (omega (arith, o.ticks), omega arith);
        messages = (omega (arith, in_clock 1 (omega arith), b.messages), ap (λ (n : ℕ). addressed c.T n p.messages) (in_clock 1 (omega arith) ∙ b.messages));
        tasks = ((λ q i g h. ap (λ (x : List ℕ). has q x i) (planes_are f d) ∙ b.behind q i (omega (arith, o.tasks)) h), row_fresh room);
        semaphores = λ i h. rw (in_semaphores i (omega (arith, o.tasks, o.named, o.queues, l.semaphores)));
        rings = (
          (λ i h.
              let e : (queue (fresh c) (suc i)).taken ≡ 0 = ap (λ (k : Queue). k.taken) (fresh_queue c (suc i)) in
              in_rings (i * 2) (omega (arith, o.queues)) ∙ sym (mod-eq_of_lt (o.depths (suc i) (omega arith) (omega arith)).0) ∙ ap (λ (n : ℕ). n % (shape c (suc i)).depth) (sym e)),
          λ i h. omega (arith, in_rings (i * 2 + 1) (omega (arith, o.queues))),
        );
        timers = (omega (arith, none), subst (λ (n : ℕ). Upright n (drop 1 w)) (sym none) (none_upright (drop 1 w)));
      }

  fresh_shown : {tidy : Bool} → s.end ≤ length d → Shown tidy c (fresh c) p z w
  unfolding fresh
  fresh_shown room =
      record {
        ticks = ticks_fresh;
        tasks = tasks_fresh;
        semaphores = semaphores_fresh;
        mailboxes = mailboxes_fresh;
        queues = queues_fresh;
        taken = taken_fresh;
        timers = timers_fresh;
        tidily = λ q. fresh_tidy room;
      }

  pub fresh_shows : {tidy : Bool} → s.end ≤ length d → 11 + 10 * c.R ≤ length w → ShowsAs tidy c s (fresh c) d z w
  fresh_shows room counted = record { of = o; room = room; slots = omega (arith, o.tasks); counted = omega (arith, o.timers); shown = fresh_shown room }
