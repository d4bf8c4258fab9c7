-- What each store of a task's bytes is on the ledgers that the memory shows.
use Rattle.std.specs.Prelude.{Bool, true, ◌≡◌, eqb, get_or}
use Rattle.std.proofs.Math.Path.{refl, ap, subst}
use Rattle.std.proofs.Common.{sym, ◌∙◌, get_or-take}
use mathlib.Core.List.{List, ◌++◌}
use Prim.Native.Nat.{ℕ, ◌+◌, ◌-◌, ◌*◌, ◌<◌, ◌≤◌}
use native.Mathlib.Omega.{arith}
use borrow.Author.Tests.{eqb-true, eqb-false}
use Rattle.std.proofs.Math.ListN.{length}
use borrow.Rule.Slice.PartMut.{put_mid, take_put}
use Rattle.rows.specs.Splice.{cut, splice}
use Rattle.rows.specs.Laws.{length_splice, lent_back}
use Rattle.rows.specs.Rows.{row_at, elems, drop_elems, length_row, row_fits, row_inside, row_outside}
use Rattle.rows.specs.Tab.{tab_length}
use Rattle.ledger.specs.Config.{Config}
use Rattle.ledger.specs.Ledger as ledger
use Rattle.ledger.specs.Ledger.{Ledger, task, set_task, set_outcome, set_request}
use Rattle.tables.specs.declared.shape.Shape.{Shape}
use Rattle.tables.specs.declared.blocks.Blocks.{Blocks}
use Rattle.tables.specs.declared.tasks.Outcome.{Outcome}
use Rattle.tables.specs.declared.tasks.Request.{Request}
use Rattle.tables.specs.declared.tasks.Task.{Task}
use Rattle.tables.specs.Layout.{OneOf, fitting, record_in_lem, bound, Regions, named, regions, but, written, region_length}
use Rattle.tables.specs.Planes.{blocks_at}
use Rattle.tables.specs.Decode.{outcome_of, request_of, outcome_bytes, request_bytes, view_outcome, view_request, view_task, outcome_as, request_as, record_as, record_of}
use Rattle.tables.specs.Encoded.{AsksFor, Narrow, case, outcome_back, request_back, outcome_as_lem, request_as_lem, outcome_over, request_over}
use Rattle.tables.specs.Shows.{waiting_in, task_at, tasks_in, TidyTasks, Shown, ShowsAs}
use Rattle.tables.specs.Items.{with_tasks, task_is, task_shown}

-- what is shown in the regions of other bytes
pub shows_as : {tidy : Bool} (c : Config) (s : Shape) (L : Ledger) (d z w d' z' : List ℕ) (p : Regions) → ShowsAs tidy c s L d z w → length d' ≡ length d → length z' ≡ length z
    → regions s d' ≡ p → (L' : Ledger) → Shown tidy c L' p z' w → ShowsAs tidy c s L' d' z' w
shows_as {tidy} c s L d z w d' z' p h ld lz e L' g =
    record {
      of = h.of;
      room = omega (arith, h.room);
      slots = omega (arith, h.slots);
      counted = h.counted;
      shown = subst (λ (x : Regions). Shown tidy c L' x z' w) (sym e) g;
    }

-- a byte before those that were lent stays
pub before_stays : (a k i : ℕ) (d ys : List ℕ) → i < a → a ≤ length d → get_or (put_mid a k d ys) i 0 ≡ get_or d i 0
before_stays a k i d ys h f =
    sym (get_or-take a (put_mid a k d ys) i 0 h) ∙ ap (λ (l : List ℕ). get_or l i 0) (take_put a k d ys f) ∙ get_or-take a d i 0 h

-- ---- a task's record with another outcome, with another request

six : (r : List ℕ) → length r ≡ 6 → r ≡ elems 6 0 r
six r h = drop_elems 6 0 r h

record_outcome : (Q : ℕ) (b : Blocks) (r : List ℕ) (o : Outcome) → length r ≡ 6
    → record_of Q b (splice r 0 (outcome_bytes o)) ≡ record { blocks = (record_of Q b r).blocks; outcome = o; request = (record_of Q b r).request }
unfolding record_of
record_outcome Q b r o h =
    ap (λ (x : List ℕ). record_of Q b (splice x 0 (outcome_bytes o))) (six r h)
    ∙ (λ i. record { blocks = b; outcome = outcome_back o i; request = request_of Q (get_or r 4 0) (get_or r 5 0) })

record_request : (Q : ℕ) (b : Blocks) (r : List ℕ) (q : Request) → AsksFor Q q → length r ≡ 6
    → record_of Q b (splice r 4 (request_bytes q)) ≡ record { blocks = (record_of Q b r).blocks; outcome = (record_of Q b r).outcome; request = q }
unfolding record_of
record_request Q b r q w h =
    ap (λ (x : List ℕ). record_of Q b (splice x 4 (request_bytes q))) (six r h)
    ∙ (λ i. record { blocks = b; outcome = outcome_of (get_or r 0 0) (get_or r 1 0) (get_or r 2 0) (get_or r 3 0); request = request_back Q q w i })

-- ---- tasks
module _ {tidy : Bool} (c : Config) (s : Shape) (L : Ledger) (d z w : List ℕ) (h : ShowsAs tidy c s L d z w) (t : ℕ) (one : OneOf s.tasks t) where
  abbrev here : Regions
  here = regions s d

  -- the record that is shown, and the ledger's task in its terms
  abbrev pub record_is : Task
  record_is = record_of c.Q (blocks_at here.blocks (t - 1)) (row_at 6 (t - 1) here.records)

  pub shown_task : task L t ≡ view_task c record_is (row_at 16 (t - 1) here.waiting) (row_at 16 (t - 1) z)
  unfolding task_at
  shown_task = task_is c L here z w h.shown t (omega arith, omega (arith, h.of.tasks))

  -- it is one of the ledger's
  pub task_in : OneOf (length L.tasks) t
  unfolding tasks_in
  task_in = (one.0, omega (arith, ap length h.shown.tasks, tab_length c.T (task_at c here z), h.of.tasks))

  -- how long the tasks' regions are
  records_length : length here.records ≡ s.tasks * 6
  unfolding regions named bound
  records_length = region_length s h.of.laid d h.room 2 ∙ (let l = h.of.laid in omega arith)

  pub waiting_length : length here.waiting ≡ s.tasks * 16
  unfolding regions named bound
  waiting_length = region_length s h.of.laid d h.room 4 ∙ (let l = h.of.laid in omega arith)

  -- other rows of the tasks' records, of the entries that wait and of the slots: new in row t - 1 only
  abbrev Only : ℕ → (old new : List ℕ) → Type 0
  Only n old new = (j : ℕ) → j < s.tasks → (j ≡ t - 1 → ⊥) → row_at n j new ≡ row_at n j old

  -- a record, and the bytes of what it means
  abbrev pub Neat : (r e z' : List ℕ) → Type 0
  Neat r e z' = row_at 6 (t - 1) r ≡ record_as (view_task c (record_of c.Q (blocks_at here.blocks (t - 1)) (row_at 6 (t - 1) r)) (row_at 16 (t - 1) e) (row_at 16 (t - 1) z'))

  pub neat : tidy ≡ true → Neat here.records here.waiting z
  unfolding task_at
  neat q = (h.shown.tidily q).tasks.1 (t - 1) (omega (arith, h.of.tasks))

  rows_tidy : (r e z' : List ℕ) → Only 6 here.records r → Only 16 here.waiting e → Only 16 z z' → Neat r e z' → tidy ≡ true → TidyTasks c (with_tasks here.blocks r e here) z'
  unfolding task_at with_tasks
  rows_tidy r e z' or oe oz new q =
      let o = (h.shown.tidily q).tasks in (
        o.0,
        λ j l. case (eqb j (t - 1))
            (λ g. subst (λ (i : ℕ). row_at 6 i r ≡ record_as (view_task c (record_of c.Q (blocks_at here.blocks i) (row_at 6 i r)) (row_at 16 i e) (row_at 16 i z'))) (sym (eqb-true j (t - 1) g)) new)
            (λ g.
            let ne = eqb-false j (t - 1) g in
            let b : j < s.tasks = omega (arith, h.of.tasks) in
            or j b ne ∙ o.1 j l ∙ (λ x. record_as (view_task c (record_of c.Q (blocks_at here.blocks j) (sym (or j b ne) x)) (sym (oe j b ne) x) (sym (oz j b ne) x)))),
      )

  pub rows_shown : (r e z' : List ℕ) → Only 6 here.records r → Only 16 here.waiting e → Only 16 z z' → (tidy ≡ true → Neat r e z')
      → Shown tidy c (set_task t (view_task c (record_of c.Q (blocks_at here.blocks (t - 1)) (row_at 6 (t - 1) r)) (row_at 16 (t - 1) e) (row_at 16 (t - 1) z')) L) (with_tasks here.blocks r e here) z' w
  unfolding task_at with_tasks
  rows_shown r e z' or oe oz new =
      task_shown c L here z w h.shown here.blocks r e z' t _ (omega arith, omega (arith, h.of.tasks)) refl
      (λ j g ne.
      let b : j < s.tasks = omega (arith, h.of.tasks) in
      λ x. view_task c (record_of c.Q (blocks_at here.blocks j) (sym (or j b ne) x)) (sym (oe j b ne) x) (sym (oz j b ne) x))
      (λ q. rows_tidy r e z' or oe oz (new q) q)

  -- bytes from byte a of the record on, which make it the record x
  pub record_stored : (a : ℕ) (v : List ℕ) (x : Task) → a + length v ≤ 6
      → record_of c.Q (blocks_at here.blocks (t - 1)) (splice (row_at 6 (t - 1) here.records) a v) ≡ x
      → (tidy ≡ true → splice (row_at 6 (t - 1) here.records) a v ≡ record_as (view_task c x (row_at 16 (t - 1) here.waiting) (row_at 16 (t - 1) z)))
      → ShowsAs tidy c s (set_task t (view_task c x (row_at 16 (t - 1) here.waiting) (row_at 16 (t - 1) z)) L) (splice d (s.recordat + ((t - 1) * 6 + a)) v) z w
  unfolding regions named but bound with_tasks
  record_stored a v x fits e new =
      let l = h.of.laid in
      let i : ℕ = t - 1 in
      let f : i * 6 + 6 ≤ s.tasks * 6 = row_fits 6 i s.tasks (omega arith) in
      let r : List ℕ = splice here.records (i * 6 + a) v in
      let n : length here.records ≡ s.tasks * 6 = records_length in
      let y : row_at 6 i r ≡ splice (row_at 6 i here.records) a v = row_inside 6 s.tasks i a here.records v (omega arith) (omega arith) fits in
      let k : record_of c.Q (blocks_at here.blocks i) (row_at 6 i r) ≡ x = ap (record_of c.Q (blocks_at here.blocks i)) y ∙ e in
      shows_as c s L d z w (splice d (s.recordat + (i * 6 + a)) v) z (with_tasks here.blocks r here.waiting here) h
      (length_splice d (s.recordat + (i * 6 + a)) v (omega (arith, h.room))) refl
      (written s l d h.room 2 (i * 6 + a) v (omega arith))
      (set_task t (view_task c x (row_at 16 i here.waiting) (row_at 16 i z)) L)
      (subst (λ (y : Task). Shown tidy c (set_task t (view_task c y (row_at 16 i here.waiting) (row_at 16 i z)) L) (with_tasks here.blocks r here.waiting here) z w) k
      (rows_shown r here.waiting z (row_outside 6 s.tasks i a here.records v (omega arith) (omega arith) fits) (λ j g ne. refl) (λ j g ne. refl)
      (λ q. y ∙ new q ∙ ap (λ (u : Task). record_as (view_task c u (row_at 16 i here.waiting) (row_at 16 i z))) (sym k))))

  record_length : length (row_at 6 (t - 1) here.records) ≡ 6
  record_length =
      let f : (t - 1) * 6 + 6 ≤ s.tasks * 6 = row_fits 6 (t - 1) s.tasks (omega arith) in
      length_row 6 (t - 1) here.records (omega (arith, records_length))

  slot_length : length (row_at 16 (t - 1) z) ≡ 16
  slot_length = length_row 16 (t - 1) z (omega (arith, row_fits 16 (t - 1) s.tasks (omega arith), h.slots))

  -- the outcome's four bytes
  pub outcome_stored : (o : Outcome) → Narrow o → ShowsAs tidy c s (set_outcome t (view_outcome o (task L t).slot) L) (splice d (s.recordat + ((t - 1) * 6 + 0)) (outcome_bytes o)) z w
  unfolding set_outcome view_task record_as
  outcome_stored o narrow =
      subst (λ (x : Ledger). ShowsAs tidy c s x (splice d (s.recordat + ((t - 1) * 6 + 0)) (outcome_bytes o)) z w)
      (ap (λ (x : ledger.Task). set_task t (record { blocks = x.blocks; outcome = view_outcome o x.slot; slot = x.slot; request = x.request }) L) (sym shown_task))
      (record_stored 0 (outcome_bytes o) _ (omega arith) (record_outcome c.Q (blocks_at here.blocks (t - 1)) (row_at 6 (t - 1) here.records) o record_length)
      (λ q.
      let k = record_is in
      ap (λ (r : List ℕ). splice r 0 (outcome_bytes o)) (neat q)
      ∙ outcome_over (view_outcome k.outcome (row_at 16 (t - 1) z)) (view_request c k.request (row_at 16 (t - 1) here.waiting)) o
      ∙ ap (λ (b : List ℕ). b ++ request_as (view_request c k.request (row_at 16 (t - 1) here.waiting))) (outcome_as_lem o (row_at 16 (t - 1) z) narrow slot_length)))

  -- the request's two bytes
  pub request_stored : (q : Request) → AsksFor s.queues q → ShowsAs tidy c s (set_request t (view_request c q (row_at 16 (t - 1) here.waiting)) L) (splice d (s.recordat + ((t - 1) * 6 + 4)) (request_bytes q)) z w
  unfolding set_request view_task record_as
  request_stored q a =
      subst (λ (x : Ledger). ShowsAs tidy c s x (splice d (s.recordat + ((t - 1) * 6 + 4)) (request_bytes q)) z w)
      (ap (λ (x : ledger.Task). set_task t (record { blocks = x.blocks; outcome = x.outcome; slot = x.slot; request = view_request c q (row_at 16 (t - 1) here.waiting) }) L) (sym shown_task))
      (record_stored 4 (request_bytes q) _ (omega arith) (record_request c.Q (blocks_at here.blocks (t - 1)) (row_at 6 (t - 1) here.records) q (subst (λ (Q : ℕ). AsksFor Q q) h.of.queues a) record_length)
      (λ p.
      let k = record_is in
      ap (λ (r : List ℕ). splice r 4 (request_bytes q)) (neat p)
      ∙ request_over (view_outcome k.outcome (row_at 16 (t - 1) z)) (view_request c k.request (row_at 16 (t - 1) here.waiting)) q
      ∙ ap (λ (b : List ℕ). outcome_as (view_outcome k.outcome (row_at 16 (t - 1) z)) ++ b) (request_as_lem c q (row_at 16 (t - 1) here.waiting))))

-- ---- the record's six bytes, lent and taken back
module _ {tidy : Bool} (c : Config) (s : Shape) (L : Ledger) (d z w : List ℕ) (h : ShowsAs tidy c s L d z w) (t : ℕ) (one : OneOf s.tasks t) (ys : List ℕ) where
  record_back : (a : ℕ) (v : List ℕ) → a + length v ≤ 6 → ys ≡ splice (cut d (s.recordat + (t - 1) * 6) (s.recordat + (t - 1) * 6 + 6)) a v
      → put_mid (s.recordat + (t - 1) * 6) (s.recordat + (t - 1) * 6 + 6 - (s.recordat + (t - 1) * 6)) d ys ≡ splice d (s.recordat + ((t - 1) * 6 + a)) v
  record_back a v f e =
      let n : ℕ = s.recordat + (t - 1) * 6 in
      let i : n + 6 ≤ length d = record_in_lem (fitting h.of.laid h.room) t one in
      let m : n + a ≡ s.recordat + ((t - 1) * 6 + a) = omega arith in
      lent_back d n (n + 6) a v ys (omega arith) i (omega arith) e ∙ ap (λ (x : ℕ). splice d x v) m

  pub outcome_lent : (o : Outcome) → Narrow o → ys ≡ splice (cut d (s.recordat + (t - 1) * 6) (s.recordat + (t - 1) * 6 + 6)) 0 (outcome_bytes o)
      → ShowsAs tidy c s (set_outcome t (view_outcome o (task L t).slot) L) (put_mid (s.recordat + (t - 1) * 6) (s.recordat + (t - 1) * 6 + 6 - (s.recordat + (t - 1) * 6)) d ys) z w
  outcome_lent o narrow e = rw (record_back 0 (outcome_bytes o) (omega arith) e) (outcome_stored c s L d z w h t one o narrow)

  pub request_lent : (q : Request) → AsksFor s.queues q → ys ≡ splice (cut d (s.recordat + (t - 1) * 6) (s.recordat + (t - 1) * 6 + 6)) 4 (request_bytes q)
      → ShowsAs tidy c s (set_request t (view_request c q (waiting_in s d t)) L) (put_mid (s.recordat + (t - 1) * 6) (s.recordat + (t - 1) * 6 + 6 - (s.recordat + (t - 1) * 6)) d ys) z w
  unfolding waiting_in
  request_lent q a e = rw (record_back 4 (request_bytes q) (omega arith) e) (request_stored c s L d z w h t one q a)
