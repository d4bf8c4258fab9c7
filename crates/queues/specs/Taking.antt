-- An entry taken into a slot: the ring steps on, the slot's front is new, and the outcome names it.
use Rattle.std.specs.Prelude.{Bool, ◌≡◌, take}
use Rattle.std.proofs.Math.Path.{refl, sym, ap, subst}
use Rattle.std.proofs.Common.{◌∙◌, not-suc-le-zero, take_at}
use mathlib.Core.List.{List, [], ◌∷◌, ◌++◌}
use Prim.Native.Nat.{ℕ, zero, suc, ◌+◌, ◌-◌, ◌*◌, ◌<◌, ◌≤◌}
use native.Mathlib.Omega.{arith}
use Rattle.std.proofs.Math.Nat.{zero-add}
use borrow.Rule.Slice.PartMut.{put_mid}
use Rattle.std.proofs.Math.ListN.{length, get_or, drop, set, length-set}
use Rattle.rows.specs.Splice.{cut, splice}
use Rattle.rows.specs.Laws.{length_splice, lent_back}
use Rattle.rows.specs.Rows.{row_at, length_row, row_fits, row_inside, row_outside}
use Rattle.rings.specs.Ring.{wrap_of, holds}
use Rattle.rings.specs.Laws.{holds_first}
use Rattle.ledger.specs.Config.{Config}
use Rattle.ledger.specs.Ledger as ledger
use Rattle.ledger.specs.Ledger.{Ledger, Queue, Task, task, queue, held, set_task, set_queue, set_outcome, set_slot}
use Rattle.ledger.specs.Services.{shape, copy_into, take_entry}
use Rattle.tables.specs.declared.shape.Shape.{Shape}
use Rattle.tables.specs.declared.tasks.Outcome.TheVariants.{Entry}
use Rattle.tables.specs.Layout.{OneOf, bound, Regions, named, regions, but, byte_written}
use Rattle.tables.specs.Planes.{blocks_at}
use Rattle.tables.specs.declared.tasks.Task as tables
use Rattle.tables.specs.Decode.{view_outcome, view_request, view_task, request_as, record_as, record_of}
use Rattle.tables.specs.Encoded.{outcome_long}
use Rattle.tables.specs.Shows.{task_at, Shown, ShowsAs}
use Rattle.tables.specs.Items.{with_tasks, with_queues, task_shown}
use Rattle.tables.specs.Stored.{shows_as, record_is, shown_task, task_in}
use Rattle.tables.specs.SetTwice.{task_task, task_set}
use Rattle.queues.specs.declared.Ring.{Ring}
use Rattle.queues.specs.Rings.{ring_of, RingFits, head_in, count_in, body_in, body_is, ring_fits, head_low, count_low, body_length, held_is}
use Rattle.queues.specs.Holding.{take_shown}
use Rattle.queues.specs.Putting.{rings_length, bodies_length}

-- the oldest of `many` entries was copied to the front of out, and the next one lies at `next`
pub record Copied (r : Ring) (d : List ℕ) (first many : ℕ) (out out' : List ℕ) (next : ℕ) : Type 0 where
  pub out_after : out' ≡ splice out 0 (get_or (holds r.width r.depth first many (body_in r d)) 0 [])
  pub upper_bound : (next < r.depth) × (holds r.width r.depth next (many - 1) (body_in r d) ≡ drop 1 (holds r.width r.depth first many (body_in r d))) × (next ≡ wrap_of r.depth (first + 1))

-- the queue that the ledger's dequeue leaves
abbrev pub taken : Config → (t q : ℕ) → List ℕ → Ledger → Queue
taken c t q e L =
    record { put = (queue L q).put; taken = suc (queue L q).taken; handed_out = (queue L q).handed_out ++ (take (shape c q).width (copy_into (task L t).slot e) ∷ []) }

-- slot, outcome and queue set one after the other
taken_is : (c : Config) (t q : ℕ) (e : List ℕ) (L : Ledger) → OneOf (length L.tasks) t → (k : Task) → k.blocks ≡ (task L t).blocks → k.slot ≡ copy_into (task L t).slot e → k.request ≡ (task L t).request
    → (o : ledger.Outcome) → o ≡ ledger.entry e → set_outcome t o (set_task t k (set_queue q (taken c t q e L) L)) ≡ take_entry c t q e L
unfolding take_entry set_outcome set_slot set_queue task
taken_is c t q e L i k eb ez er o eo =
    let v : Queue = taken c t q e L in
    let L₁ : Ledger = set_queue q v L in
    let s : List ℕ = copy_into (task L t).slot e in
    let u : Task = record { blocks = (task L t).blocks; outcome = (task L t).outcome; slot = s; request = (task L t).request } in
    ap (λ (x : Task). set_task t (record { blocks = x.blocks; outcome = o; slot = x.slot; request = x.request }) (set_task t k L₁)) (task_set t k L₁ i)
    ∙ task_task t (record { blocks = k.blocks; outcome = o; slot = k.slot; request = k.request }) k L₁
    ∙ (λ j. set_task t (record { blocks = eb j; outcome = eo j; slot = ez j; request = er j }) L₁)
    ∙ sym (ap (λ (x : Task). set_task t (record { blocks = x.blocks; outcome = ledger.entry e; slot = x.slot; request = x.request }) (set_task t u L₁)) (task_set t u L₁ i)
    ∙ task_task t (record { blocks = (task L t).blocks; outcome = ledger.entry e; slot = s; request = (task L t).request }) u L₁)

front_of : (e slot : List ℕ) (n : ℕ) → length e ≡ n → take n (copy_into slot e) ≡ e
unfolding copy_into
front_of e slot n el = take_at e (drop (length e) slot) n el

tasks_of : (t : ℕ) (L : Ledger) (q : ℕ) (v : Queue) → OneOf (length L.tasks) t → OneOf (length (set_queue q v L).tasks) t
unfolding set_queue
tasks_of t L q v o = o

module _ {tidy : Bool} (c : Config) (s : Shape) (L : Ledger) (d z w : List ℕ) (h : ShowsAs tidy c s L d z w) (t : ℕ) (one : OneOf s.tasks t) where
  -- both bytes of the ring in row i are written
  step_written : (i : ℕ) → i < c.Q → (next n : ℕ)
      → regions s (set (set d (s.ringat + i * 2) next) (s.ringat + (i * 2 + 1)) n) ≡ with_queues (set (set (regions s d).rings (i * 2) next) (i * 2 + 1) n) (regions s d).bodies (regions s d)
  unfolding regions named but bound with_queues
  step_written i b next n =
      let l = h.of.laid in
      let d₁ : List ℕ = set d (s.ringat + i * 2) next in
      let m : length d₁ ≡ length d = length-set d (s.ringat + i * 2) next in
      let x : regions s d₁ ≡ with_queues (set (regions s d).rings (i * 2) next) (regions s d).bodies (regions s d) = byte_written s l d h.room 5 (i * 2) next (omega (arith, h.of.queues)) in
      byte_written s l d₁ (omega (arith, h.room)) 5 (i * 2 + 1) n (omega (arith, h.of.queues))
      ∙ ap (λ (p : Regions). with_queues (set p.rings (i * 2 + 1) n) p.bodies p) x

  abbrev slot : List ℕ
  slot = row_at 16 (t - 1) z

  module _ (e : List ℕ) (short : length e ≤ 16) where
    abbrev stored : List ℕ
    stored = splice z ((t - 1) * 16 + 0) e

    fits_in : (t - 1) * 16 + 16 ≤ s.tasks * 16
    fits_in = row_fits 16 (t - 1) s.tasks (omega arith)

    slot_new : row_at 16 (t - 1) stored ≡ copy_into (task L t).slot e
    unfolding copy_into view_task
    slot_new =
        let x : (task L t).slot ≡ slot = ap (λ (k : Task). k.slot) (shown_task c s L d z w h t one) in
        let y : 0 + length e ≡ length e = zero-add (length e) in
        row_inside 16 s.tasks (t - 1) 0 z e (omega (arith, h.slots)) (omega arith) (omega arith)
        ∙ ap (λ (n : ℕ). e ++ drop n slot) y ∙ ap (λ (l : List ℕ). e ++ drop (length e) l) (sym x)

    stored_length : length stored ≡ length z
    stored_length = length_splice z ((t - 1) * 16 + 0) e (omega (arith, fits_in, h.slots))

    -- the bytes of a record don't tell a slot from another
    as_long : (k : tables.Task) (v x y : List ℕ) → length x ≡ length y → record_as (view_task c k v x) ≡ record_as (view_task c k v y)
    unfolding record_as view_task
    as_long k v x y n = ap (λ (b : List ℕ). b ++ request_as (view_request c k.request v)) (outcome_long k.outcome x y n)

    -- the task with the slot's new front
    abbrev between : Task
    between = view_task c (record_is c s L d z w h t one) (row_at 16 (t - 1) (regions s d).waiting) (row_at 16 (t - 1) stored)

    slot_shown : (v : Queue) (q : ℕ) (r b : List ℕ) → Shown tidy c (set_queue q v L) (with_queues r b (regions s d)) z w
        → Shown tidy c (set_task t between (set_queue q v L)) (with_queues r b (regions s d)) stored w
    unfolding with_tasks with_queues task_at
    slot_shown v q r b g =
        let p : Regions = with_queues r b (regions s d) in
        task_shown c (set_queue q v L) p z w g p.blocks p.records p.waiting stored t between (omega arith, omega (arith, h.of.tasks)) refl
        (λ j l ne. ap (λ (x : List ℕ). view_task c (record_of c.Q (blocks_at p.blocks j) (row_at 6 j p.records)) (row_at 16 j p.waiting) x)
        (sym (row_outside 16 s.tasks (t - 1) 0 z e (omega (arith, h.slots)) (omega arith) (omega arith) j (omega (arith, h.of.tasks)) ne)))
        (λ q.
        let y = (g.tidily q).tasks in
        let i : ℕ = t - 1 in (
          y.0,
          λ j l. y.1 j l ∙ as_long (record_of c.Q (blocks_at p.blocks j) (row_at 6 j p.records)) (row_at 16 j p.waiting) (row_at 16 j z) (row_at 16 j stored)
              (length_row 16 j z (omega (arith, h.slots, row_fits 16 j s.tasks (omega (arith, h.of.tasks)))) ∙ sym (length_row 16 j stored (omega (arith, h.slots, stored_length, row_fits 16 j s.tasks (omega (arith, h.of.tasks)))))),
        ))

  -- what the store of an entry outcome does from bytes d₁ on
  abbrev Stores : (d₁ d₂ : List ℕ) (width : ℕ) → Type 0
  Stores d₁ d₂ width = (tidy : Bool) (M : Ledger) (z w : List ℕ) → ShowsAs tidy c s M d₁ z w → ShowsAs tidy c s (set_outcome t (view_outcome (Entry width) (task M t).slot) M) d₂ z w

  -- the ring's two bytes, the slot and then the outcome
  take_for : (i : ℕ) → i < c.Q → (e : List ℕ) (es : List (List ℕ)) → held (queue L (suc i)) ≡ e ∷ es → length e ≡ (shape c (suc i)).width → (next : ℕ) → next < (shape c (suc i)).depth → next ≡ wrap_of (shape c (suc i)).depth (head_in s (ring_of c s (suc i)) d i + 1)
      → holds (shape c (suc i)).width (shape c (suc i)).depth next (count_in s (ring_of c s (suc i)) d i - 1) (body_in (ring_of c s (suc i)) d) ≡ es
      → (d₂ : List ℕ) → Stores (set (set d (s.ringat + i * 2) next) (s.ringat + (i * 2 + 1)) (count_in s (ring_of c s (suc i)) d i - 1)) d₂ (shape c (suc i)).width
      → ShowsAs tidy c s (take_entry c t (suc i) e L) d₂ (splice z ((t - 1) * 16 + 0) e) w
  unfolding view_outcome view_task head_in count_in ring_of
  take_for i b e es eh el next nl on rest d₂ f =
      let short : length e ≤ 16 = omega (arith, (h.of.widths (suc i) (omega arith) (omega arith)).1) in
      let v : Queue = taken c t (suc i) e L in
      let L₁ : Ledger = set_queue (suc i) v L in
      let k : Task = between e short in
      let n : ℕ = count_in s (ring_of c s (suc i)) d i in
      let d₁ : List ℕ = set (set d (s.ringat + i * 2) next) (s.ringat + (i * 2 + 1)) (n - 1) in
      let r : List ℕ = set (set (regions s d).rings (i * 2) next) (i * 2 + 1) (n - 1) in
      let g : Shown tidy c L₁ (with_queues r (regions s d).bodies (regions s d)) z w =
      take_shown c s h.of L (regions s d) z w h.shown (rings_length c s L d z w h) (bodies_length c s L d z w h) i b next e es v.handed_out eh nl
      (ap (holds (shape c (suc i)).width (shape c (suc i)).depth next (n - 1)) (body_is c s h.of d i b) ∙ rest) on in
      let m : length d₁ ≡ length d = length-set (set d (s.ringat + i * 2) next) (s.ringat + (i * 2 + 1)) (n - 1) ∙ length-set d (s.ringat + i * 2) next in
      let lz : length (splice z ((t - 1) * 16 + 0) e) ≡ length z = length_splice z ((t - 1) * 16 + 0) e (omega (arith, fits_in e short, h.slots)) in
      let a : ShowsAs tidy c s (set_task t k L₁) d₁ (splice z ((t - 1) * 16 + 0) e) w =
      shows_as c s L d z w d₁ (splice z ((t - 1) * 16 + 0) e) (with_queues r (regions s d).bodies (regions s d)) h m lz (step_written i b next (n - 1)) (set_task t k L₁)
      (slot_shown e short v (suc i) r (regions s d).bodies g) in
      let tl : OneOf (length L.tasks) t = task_in c s L d z w h t one in
      let x : task L t ≡ view_task c (record_is c s L d z w h t one) (row_at 16 (t - 1) (regions s d).waiting) slot = shown_task c s L d z w h t one in
      let sl : k.slot ≡ copy_into (task L t).slot e = slot_new e short in
      let ts : (task (set_task t k L₁) t).slot ≡ copy_into (task L t).slot e = ap (λ (y : Task). y.slot) (task_set t k L₁ (tasks_of t L (suc i) v tl)) ∙ sl in
      let o : ledger.entry (take (shape c (suc i)).width (task (set_task t k L₁) t).slot) ≡ ledger.entry e =
      ap (λ (y : List ℕ). ledger.entry (take (shape c (suc i)).width y)) ts ∙ ap ledger.entry (front_of e (task L t).slot (shape c (suc i)).width el) in
      subst (λ (X : Ledger). ShowsAs tidy c s X d₂ (splice z ((t - 1) * 16 + 0) e) w)
      (taken_is c t (suc i) e L tl k (sym (ap (λ (y : Task). y.blocks) x)) sl (sym (ap (λ (y : Task). y.request) x)) _ o)
      (f tidy (set_task t k L₁) (splice z ((t - 1) * 16 + 0) e) w a)

  -- as the code leaves it
  module _ (e : List ℕ) (es : List (List ℕ)) (ys d₁ d₂ : List ℕ) (first many next : ℕ) where
    abbrev Left : (q i : ℕ) → Ring → Type 0
    Left q i r =
        held (queue L q) ≡ e ∷ es → first ≡ head_in s r d i → many ≡ count_in s r d i → 1 ≤ many
        → ys ≡ splice (cut z ((t - 1) * 16) ((t - 1) * 16 + 16)) 0 (get_or (holds r.width r.depth first many (body_in r d)) 0 [])
        → (next < r.depth) × (holds r.width r.depth next (many - 1) (body_in r d) ≡ drop 1 (holds r.width r.depth first many (body_in r d))) × (next ≡ wrap_of r.depth (first + 1))
        → d₁ ≡ set (set d (s.ringat + i * 2) next) (s.ringat + i * 2 + 1) (many - 1)
        → Stores d₁ d₂ r.width
        → ShowsAs tidy c s (take_entry c t q e L) d₂ (put_mid ((t - 1) * 16) ((t - 1) * 16 + 16 - (t - 1) * 16) z ys) w

    left_for : (i : ℕ) → i < c.Q → Left (suc i) i (ring_of c s (suc i))
    unfolding ring_of
    left_for i b eh ef em some ey en ed f =
        let r : Ring = ring_of c s (suc i) in
        let fit : RingFits s r = ring_fits c s h.of (suc i) (omega arith, omega arith) in
        let m : suc i - 1 ≡ i = omega arith in
        let all : holds r.width r.depth first many (body_in r d) ≡ e ∷ es =
        ap (λ (x : ℕ). holds r.width r.depth x many (body_in r d)) ef ∙ ap (λ (x : ℕ). holds r.width r.depth (head_in s r d i) x (body_in r d)) em
        ∙ ap (λ (j : ℕ). holds r.width r.depth (head_in s r d j) (count_in s r d j) (body_in r d)) (sym m)
        ∙ sym (held_is c s L d z w h (suc i) (omega arith, omega (arith, h.of.queues)) r refl) ∙ eh in
        let front : get_or (holds r.width r.depth first many (body_in r d)) 0 [] ≡ e = ap (λ (l : List (List ℕ)). get_or l 0 []) all in
        let fl : first < r.depth = omega (arith, ef, head_low fit d i) in
        let cl : many ≤ r.depth = omega (arith, em, count_low fit d i) in
        let lb : r.depth * r.width ≤ length (body_in r d) = body_long i fit in
        let el : length e ≡ r.width =
        ap length (sym front ∙ holds_first r.width r.depth first many (body_in r d) fl some cl) ∙ length_row r.width first (body_in r d) (omega (arith, row_fits r.width first r.depth fl)) in
        let short : length e ≤ 16 = omega (arith, fit.narrow) in
        let zs : put_mid ((t - 1) * 16) ((t - 1) * 16 + 16 - (t - 1) * 16) z ys ≡ splice z ((t - 1) * 16 + 0) e =
        lent_back z ((t - 1) * 16) ((t - 1) * 16 + 16) 0 e ys (omega arith) (omega (arith, fits_in e short, h.slots)) (omega arith) (ey ∙ ap (splice (cut z ((t - 1) * 16) ((t - 1) * 16 + 16)) 0) front) in
        let k : s.ringat + i * 2 + 1 ≡ s.ringat + (i * 2 + 1) = omega arith in
        let d₁' : List ℕ = set (set d (s.ringat + i * 2) next) (s.ringat + (i * 2 + 1)) (count_in s r d i - 1) in
        let ds : d₁ ≡ d₁' = ed ∙ ap (λ (x : ℕ). set (set d (s.ringat + i * 2) next) x (many - 1)) k ∙ ap (λ (x : ℕ). set (set d (s.ringat + i * 2) next) (s.ringat + (i * 2 + 1)) (x - 1)) em in
        let rest : holds r.width r.depth next (count_in s r d i - 1) (body_in r d) ≡ es =
        ap (λ (x : ℕ). holds r.width r.depth next (x - 1) (body_in r d)) (sym em) ∙ en.1 ∙ ap (drop 1) all in
        subst (λ (x : List ℕ). ShowsAs tidy c s (take_entry c t (suc i) e L) d₂ x w) (sym zs)
        (take_for i b e es eh el next en.0 (en.2 ∙ ap (λ (x : ℕ). wrap_of r.depth (x + 1)) ef) rest d₂ (subst (λ (x : List ℕ). Stores x d₂ r.width) ds f))
      where
        body_long : (i : ℕ) → RingFits s (ring_of c s (suc i)) → (ring_of c s (suc i)).depth * (ring_of c s (suc i)).width ≤ length (body_in (ring_of c s (suc i)) d)
        body_long i fit = body_length s d (ring_of c s (suc i)) fit h.room

    pub take_done : (q : ℕ) → OneOf s.queues q → (r : Ring) → r ≡ ring_of c s q → Left q (q - 1) r
    take_done zero o r er = absurd (not-suc-le-zero o.0)
    take_done (suc i) o r er =
        let m : suc i - 1 ≡ i = omega arith in
        subst (λ (j : ℕ). Left (suc i) j r) (sym m) (subst (λ (x : Ring). Left (suc i) i x) (sym er) (left_for i (omega (arith, h.of.queues))))
