-- One block of a task: on the program's items, on the ledger, and in the memory that shows it.
use Rattle.std.specs.Prelude.{◌≡◌, Bool, get_or}
use Rattle.std.proofs.Math.Path.{refl, sym, ap, subst}
use Rattle.std.proofs.Common.{◌∙◌, length-set}
use mathlib.Core.List.{List}
use Prim.Native.Nat.{ℕ, ◌+◌, ◌-◌, ◌*◌, ◌/◌, ◌%◌, ◌<◌}
use native.Mathlib.Omega.{arith}
use Rattle.std.proofs.Math.ListN.{length, set}
use Rattle.rows.specs.Splice.{cut}
use Rattle.rows.specs.Laws.{get_d_cut}
use Rattle.rows.specs.Rows.{row_at}
use Rattle.ledger.specs.Config.{Config}
use Rattle.ledger.specs.Ledger as ledger
use Rattle.ledger.specs.Ledger.{Ledger, task, set_task, set_blocks, set_suspended, set_event_wait, set_message_wait}
use Rattle.tables.specs.declared.shape.Shape.{Shape}
use Rattle.tables.specs.declared.blocks.Block.{Block}
use Rattle.tables.specs.declared.blocks.Block.TheVariants.{Idle, Suspended, Event, Message}
use Rattle.tables.specs.declared.blocks.Blocks.{Blocks}
use Rattle.tables.specs.Layout.{OneOf, Fits, fitting, planes_at, records_at, bound, Regions, named, regions, but, byte_written, region_length, planes_are, plane_at, few}
use Rattle.tables.specs.Planes.{plane_of, has, blocks_at, NewBit, NewBlock}
use Rattle.tables.specs.OneBit.{block_set}
use Rattle.tables.specs.Decode.{view_blocks, view_task, record_as, record_of}
use Rattle.tables.specs.Shows.{task_at, record_in, ShowsAs, Does}
use Rattle.tables.specs.Items.{with_tasks, task_shown}
use Rattle.tables.specs.Stored.{shows_as, shown_task, task_in}
use Rattle.tables.specs.SetTwice.{task_task, task_set}

abbrev pub with_block : Block → Bool → Blocks → Blocks
with_block Idle v b = record { idle = v; suspended = b.suspended; event = b.event; message = b.message }
with_block Suspended v b = record { idle = b.idle; suspended = v; event = b.event; message = b.message }
with_block Event v b = record { idle = b.idle; suspended = b.suspended; event = v; message = b.message }
with_block Message v b = record { idle = b.idle; suspended = b.suspended; event = b.event; message = v }

-- the ledger's change. (It has none for idle alone)
abbrev pub set_block : Block → (t : ℕ) → Bool → Ledger → Ledger
set_block Idle t v L = let b = (task L t).blocks in set_blocks t (record { idle = v; suspended = b.suspended; event_wait = b.event_wait; message_wait = b.message_wait }) L
set_block Suspended t v L = set_suspended t v L
set_block Event t v L = set_event_wait t v L
set_block Message t v L = set_message_wait t v L

block_is : (k : Block) (t : ℕ) (v : Bool) (L : Ledger) (b : Blocks) → (task L t).blocks ≡ view_blocks b → set_blocks t (view_blocks (with_block k v b)) L ≡ set_block k t v L
unfolding view_blocks set_suspended set_event_wait set_message_wait
block_is Idle t v L b e = ap (λ (x : ledger.Blocks). set_blocks t (record { idle = v; suspended = x.suspended; event_wait = x.event_wait; message_wait = x.message_wait }) L) (sym e)
block_is Suspended t v L b e = ap (λ (x : ledger.Blocks). set_blocks t (record { idle = x.idle; suspended = v; event_wait = x.event_wait; message_wait = x.message_wait }) L) (sym e)
block_is Event t v L b e = ap (λ (x : ledger.Blocks). set_blocks t (record { idle = x.idle; suspended = x.suspended; event_wait = v; message_wait = x.message_wait }) L) (sym e)
block_is Message t v L b e = ap (λ (x : ledger.Blocks). set_blocks t (record { idle = x.idle; suspended = x.suspended; event_wait = x.event_wait; message_wait = v }) L) (sym e)

-- ---- in the planes
module _ (i : ℕ) (v : Bool) (d d' : List ℕ) (low : i < 128) where
  new_blocks : (k : Block) → NewBlock k i v d d' → with_block k v (blocks_at d i) ≡ blocks_at d' i
  unfolding blocks_at
  new_blocks Idle n = λ x. record { idle = sym n.here x; suspended = sym (n.others Suspended i low (λ e f. omega arith)) x; event = sym (n.others Event i low (λ e f. omega arith)) x; message = sym (n.others Message i low (λ e f. omega arith)) x }
  new_blocks Suspended n = λ x. record { idle = sym (n.others Idle i low (λ e f. omega arith)) x; suspended = sym n.here x; event = sym (n.others Event i low (λ e f. omega arith)) x; message = sym (n.others Message i low (λ e f. omega arith)) x }
  new_blocks Event n = λ x. record { idle = sym (n.others Idle i low (λ e f. omega arith)) x; suspended = sym (n.others Suspended i low (λ e f. omega arith)) x; event = sym n.here x; message = sym (n.others Message i low (λ e f. omega arith)) x }
  new_blocks Message n = λ x. record { idle = sym (n.others Idle i low (λ e f. omega arith)) x; suspended = sym (n.others Suspended i low (λ e f. omega arith)) x; event = sym (n.others Event i low (λ e f. omega arith)) x; message = sym n.here x }

  old_blocks : (k : Block) → NewBlock k i v d d' → (j : ℕ) → j < 128 → (j ≡ i → ⊥) → blocks_at d j ≡ blocks_at d' j
  unfolding blocks_at
  old_blocks k n j l ne =
      λ x. record { idle = sym (n.others Idle j l (λ e f. ne f)) x; suspended = sym (n.others Suspended j l (λ e f. ne f)) x; event = sym (n.others Event j l (λ e f. ne f)) x; message = sym (n.others Message j l (λ e f. ne f)) x }

pub plane_low : (k : Block) → plane_of k < 4
plane_low Idle = omega arith
plane_low Suspended = omega arith
plane_low Event = omega arith
plane_low Message = omega arith

-- where its bit lies
pub block_in : {s : Shape} {n : ℕ} → Fits s n → (t : ℕ) → OneOf s.tasks t → (k : Block) → planes_at + 16 * plane_of k + (t - 1) / 8 < n
block_in (fitting l r) t i k = omega (arith, plane_low k)

-- in bytes b that are the planes of d
block_at : (b d : List ℕ) → ((i : ℕ) → i < 64 → get_or b i 0 ≡ get_or d (planes_at + i) 0) → (t : ℕ) → OneOf 126 t → (k : Block) → get_or b (16 * plane_of k + (t - 1) / 8) 0 ≡ get_or d (planes_at + 16 * plane_of k + (t - 1) / 8) 0
block_at b d p t o k =
    let e : planes_at + (16 * plane_of k + (t - 1) / 8) ≡ planes_at + 16 * plane_of k + (t - 1) / 8 = omega arith in
    p (16 * plane_of k + (t - 1) / 8) (omega (arith, plane_low k, o.1)) ∙ ap (λ (x : ℕ). get_or d x 0) e

pub block_read : {s : Shape} {n : ℕ} → Fits s n → (d : List ℕ) (t : ℕ) → OneOf s.tasks t → (k : Block) → get_or (regions s d).blocks (16 * plane_of k + (t - 1) / 8) 0 ≡ get_or d (planes_at + 16 * plane_of k + (t - 1) / 8) 0
block_read {s} f d t i k = block_at (regions s d).blocks d (plane_at f d) t (i.0, omega (arith, i.1, few f)) k

-- and without a shape
pub block_cut : (d : List ℕ) (t : ℕ) → OneOf 126 t → (k : Block) → get_or (cut d planes_at records_at) (16 * plane_of k + (t - 1) / 8) 0 ≡ get_or d (planes_at + 16 * plane_of k + (t - 1) / 8) 0
block_cut d t o k = block_at (cut d planes_at records_at) d (λ i h. get_d_cut d planes_at records_at i (omega arith)) t o k

-- the planes' idle block is the task's, by the shape
pub idle_is : {s : Shape} (d : List ℕ) (t : ℕ) → Fits s (length d) → has Idle (cut d planes_at records_at) (t - 1) ≡ (record_in s d t).blocks.idle
unfolding record_in record_of blocks_at
idle_is d t f = ap (λ (x : List ℕ). has Idle x (t - 1)) (sym (planes_are f d))

-- ---- in the memory
module _ {tidy : Bool} (c : Config) (s : Shape) (L : Ledger) (d z w : List ℕ) (h : ShowsAs tidy c s L d z w) (t : ℕ) (o : OneOf s.tasks t) where
  blocks_are : (task L t).blocks ≡ view_blocks (blocks_at (regions s d).blocks (t - 1))
  unfolding record_of view_task
  blocks_are = ap (λ (k : ledger.Task). k.blocks) (shown_task c s L d z w h t o)

  -- one byte of the planes
  pub block_stored : (k : Block) (v : Bool) (y : ℕ) → NewBit ((t - 1) % 8) v (get_or d (planes_at + 16 * plane_of k + (t - 1) / 8) 0) y
      → ShowsAs tidy c s (set_block k t v L) (set d (planes_at + 16 * plane_of k + (t - 1) / 8) y) z w
  unfolding set_blocks task_at view_task record_of record_as regions named but bound with_tasks
  block_stored k v y new =
      let l = h.of.laid in
      let p : Regions = regions s d in
      let i : ℕ = t - 1 in
      let a : ℕ = 16 * plane_of k + i / 8 in
      let b : List ℕ = set p.blocks a y in
      let m : planes_at + a ≡ planes_at + 16 * plane_of k + i / 8 = omega arith in
      let n : length p.blocks ≡ s.recordat - planes_at = region_length s l d h.room 1 in
      let f : Fits s (length d) = fitting l h.room in
      let x : NewBlock k i v p.blocks b = block_set p.blocks k i v y (omega arith) (omega (arith, plane_low k))
      (subst (λ (q : ℕ). NewBit (i % 8) v q y) (sym (block_read f d t o k)) new) in
      let B : Blocks = with_block k v (blocks_at p.blocks i) in
      let K : ledger.Task = task L t in
      let g : ShowsAs tidy c s (set_blocks t (view_blocks B) L) (set d (planes_at + a) y) z w =
      shows_as c s L d z w (set d (planes_at + a) y) z (with_tasks b p.records p.waiting p) h (length-set d (planes_at + a) y) refl
      (byte_written s l d h.room 1 a y (omega (arith, plane_low k)))
      (set_blocks t (view_blocks B) L)
      (task_shown c L p z w h.shown b p.records p.waiting z t (record { blocks = view_blocks B; outcome = K.outcome; slot = K.slot; request = K.request }) (omega arith, omega (arith, h.of.tasks))
      (ap (λ (q : ledger.Task). record { blocks = view_blocks B; outcome = q.outcome; slot = q.slot; request = q.request }) (shown_task c s L d z w h t o)
      ∙ ap (λ (q : Blocks). view_task c (record_of c.Q q (row_at 6 i p.records)) (row_at 16 i p.waiting) (row_at 16 i z)) (new_blocks i v p.blocks b (omega arith) k x))
      (λ j u ne. ap (λ (q : Blocks). view_task c (record_of c.Q q (row_at 6 j p.records)) (row_at 16 j p.waiting) (row_at 16 j z)) (old_blocks i v p.blocks b (omega arith) k x j (omega (arith, h.of.tasks)) ne))
      (λ q. let y = (h.shown.tidily q).tasks in ((λ u j m r. x.others u j r (λ g f. omega (arith, h.of.tasks)) ∙ y.0 u j m r), y.1))) in
      subst (λ (M : Ledger). ShowsAs tidy c s M (set d (planes_at + 16 * plane_of k + i / 8) y) z w) (block_is k t v L (blocks_at p.blocks i) blocks_are)
      (subst (λ (q : ℕ). ShowsAs tidy c s (set_blocks t (view_blocks B) L) (set d q y) z w) m g)

-- ---- all of them, one after the other
blocks_twice : (t : ℕ) (a b : ledger.Blocks) (L : Ledger) → OneOf (length L.tasks) t → set_blocks t a (set_blocks t b L) ≡ set_blocks t a L
unfolding set_blocks
blocks_twice t a b L o =
    let k : ledger.Task = task L t in
    let x : ledger.Task = record { blocks = b; outcome = k.outcome; slot = k.slot; request = k.request } in
    ap (λ (u : ledger.Task). set_task t (record { blocks = a; outcome = u.outcome; slot = u.slot; request = u.request }) (set_task t x L)) (task_set t x L o)
    ∙ task_task t (record { blocks = a; outcome = k.outcome; slot = k.slot; request = k.request }) x L

blocks_set : (t : ℕ) (b : ledger.Blocks) (L : Ledger) → OneOf (length L.tasks) t → (task (set_blocks t b L) t).blocks ≡ b
unfolding set_blocks
blocks_set t b L o =
    let k : ledger.Task = task L t in
    ap (λ (x : ledger.Task). x.blocks) (task_set t (record { blocks = b; outcome = k.outcome; slot = k.slot; request = k.request }) L o)

-- f changes the blocks that were set
then : (t : ℕ) (f : ledger.Blocks → ledger.Blocks) (b : ledger.Blocks) (L : Ledger) → OneOf (length L.tasks) t
    → set_blocks t (f (task (set_blocks t b L) t).blocks) (set_blocks t b L) ≡ set_blocks t (f b) L
then t f b L o = ap (λ (x : ledger.Blocks). set_blocks t (f x) (set_blocks t b L)) (blocks_set t b L o) ∙ blocks_twice t (f b) b L o

pub blocks_stored : (s : Shape) (d d₁ d₂ d₃ d₄ : List ℕ) (t : ℕ) → OneOf s.tasks t → (b : Blocks)
    → Does s d d₁ (λ c L. set_block Idle t b.idle L) → Does s d₁ d₂ (λ c L. set_block Suspended t b.suspended L)
    → Does s d₂ d₃ (λ c L. set_block Event t b.event L) → Does s d₃ d₄ (λ c L. set_block Message t b.message L)
    → Does s d d₄ (λ c L. set_blocks t (view_blocks b) L)
unfolding view_blocks set_suspended set_event_wait set_message_wait
blocks_stored s d d₁ d₂ d₃ d₄ t o b e₁ e₂ e₃ e₄ tidy c L z w h =
    let u : OneOf (length L.tasks) t = task_in c s L d z w h t o in
    let k : ledger.Blocks = (task L t).blocks in
    let f : ledger.Blocks → ledger.Blocks = λ x. record { idle = x.idle; suspended = b.suspended; event_wait = x.event_wait; message_wait = x.message_wait } in
    let g : ledger.Blocks → ledger.Blocks = λ x. record { idle = x.idle; suspended = x.suspended; event_wait = b.event; message_wait = x.message_wait } in
    let m : ledger.Blocks → ledger.Blocks = λ x. record { idle = x.idle; suspended = x.suspended; event_wait = x.event_wait; message_wait = b.message } in
    let i : ledger.Blocks = record { idle = b.idle; suspended = k.suspended; event_wait = k.event_wait; message_wait = k.message_wait } in
    subst (λ (M : Ledger). ShowsAs tidy c s M d₄ z w)
    (ap (λ (M : Ledger). set_message_wait t b.message (set_event_wait t b.event M)) (then t f i L u)
    ∙ ap (λ (M : Ledger). set_message_wait t b.message M) (then t g (f i) L u) ∙ then t m (g (f i)) L u)
    (e₄ tidy c _ z w (e₃ tidy c _ z w (e₂ tidy c _ z w (e₁ tidy c L z w h))))
