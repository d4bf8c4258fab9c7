-- An enqueue that waits: its bytes are stored, then the request that names them.
use Rattle.std.specs.Prelude.{Bool, ◌≡◌, drop}
use Rattle.std.proofs.Math.Path.{refl, ap, subst}
use Rattle.std.proofs.Common.{sym, ◌∙◌, arith, take_at}
use mathlib.Core.List.{List, ◌++◌}
use Prim.Native.Nat.{ℕ, ◌+◌, ◌-◌, ◌*◌, ◌≤◌}
use Rattle.std.proofs.Math.Nat.{add-zero}
use Rattle.std.proofs.Math.ListN.{length, take}
use Rattle.rows.specs.Splice.{cut, splice}
use Rattle.rows.specs.Laws.{length_cut, length_splice, splice_whole}
use Rattle.rows.specs.Rows.{row_at, row_of_cut, row_fits, row_inside, row_outside}
use Rattle.ledger.specs.Config.{Config}
use Rattle.ledger.specs.Ledger as ledger
use Rattle.ledger.specs.Ledger.{Ledger, task, set_task, set_request}
use Rattle.ledger.specs.Services.{shape}
use Rattle.tables.specs.declared.shape.Shape.{Shape}
use Rattle.tables.specs.declared.tasks.Request.TheVariants.{Enqueue}
use Rattle.tables.specs.Layout.{OneOf, Fits, laid, waiting_in_lem, bound, region, named, regions, but, written}
use Rattle.tables.specs.Decode.{view_outcome, view_request, view_task, outcome_as, record_as}
use Rattle.tables.specs.Encoded.{request_as_lem}
use Rattle.tables.specs.Shows.{waiting_in, Shown, ShowsAs}
use Rattle.tables.specs.Items.{with_tasks}
use Rattle.tables.specs.Stored.{shows_as, record_is, shown_task, task_in, waiting_length, neat, rows_shown}
use Rattle.tables.specs.SetTwice.{request_again}

-- the bytes that wait, read
pub waiting_read : {s : Shape} {n : ℕ} → Fits s n → (d : List ℕ) (t : ℕ) → OneOf s.tasks t → waiting_in s d t ≡ cut d (s.waitingat + (t - 1) * 16) (s.waitingat + (t - 1) * 16 + 16)
unfolding waiting_in regions named bound region
waiting_read {s} f d t i = row_of_cut 16 (t - 1) d s.waitingat s.ringat (let l = laid f in omega arith)

-- and copied over all of a buffer
pub waiting_copied : (s : Shape) (d o o' : List ℕ) → Fits s (length d) → (t : ℕ) → OneOf s.tasks t → length o ≡ 16
    → o' ≡ splice o 0 (cut d (s.waitingat + (t - 1) * 16) (s.waitingat + (t - 1) * 16 + 16)) → o' ≡ waiting_in s d t
waiting_copied s d o o' f t i l e =
    let n : ℕ = s.waitingat + (t - 1) * 16 in
    let k : length (cut d n (n + 16)) ≡ n + 16 - n = length_cut d n (n + 16) (waiting_in_lem f t i) in
    e ∙ splice_whole o (cut d n (n + 16)) (omega arith) ∙ sym (waiting_read f d t i)

module _ {tidy : Bool} (c : Config) (s : Shape) (L : Ledger) (d z w : List ℕ) (h : ShowsAs tidy c s L d z w) (t : ℕ) (one : OneOf s.tasks t) (e : List ℕ) (short : length e ≤ 16) where
  abbrev stored : List ℕ
  stored = splice d (s.waitingat + ((t - 1) * 16 + 0)) e

  abbrev row : List ℕ
  row = splice (waiting_in s d t) 0 e

  fits_in : (t - 1) * 16 + 16 ≤ s.tasks * 16
  fits_in = row_fits 16 (t - 1) s.tasks (omega arith)

  -- the task with other bytes that wait
  waiting_stored : ShowsAs tidy c s (set_task t (view_task c (record_is c s L d z w h t one) row (row_at 16 (t - 1) z)) L) stored z w
  unfolding regions named but bound with_tasks waiting_in record_as view_task
  waiting_stored =
      let l = h.of.laid in
      let i : ℕ = t - 1 in
      let p = regions s d in
      let v : List ℕ = splice p.waiting (i * 16 + 0) e in
      let n : length p.waiting ≡ s.tasks * 16 = waiting_length c s L d z w h t one in
      shows_as c s L d z w stored z (with_tasks p.blocks p.records v p) h (length_splice d (s.waitingat + (i * 16 + 0)) e (omega (arith, h.room, fits_in))) refl
      (written s l d h.room 4 (i * 16 + 0) e (omega (arith, fits_in)))
      (set_task t (view_task c (record_is c s L d z w h t one) row (row_at 16 i z)) L)
      (subst (λ (y : List ℕ). Shown tidy c (set_task t (view_task c (record_is c s L d z w h t one) y (row_at 16 i z)) L) (with_tasks p.blocks p.records v p) z w)
      (row_inside 16 s.tasks i 0 p.waiting e (omega arith) (omega arith) (omega arith))
      (rows_shown c s L d z w h t one p.records v z (λ j g ne. refl) (row_outside 16 s.tasks i 0 p.waiting e (omega arith) (omega arith) (omega arith)) (λ j g ne. refl)
      (λ q.
      let k = record_is c s L d z w h t one in
      let x : List ℕ = outcome_as (view_outcome k.outcome (row_at 16 i z)) in
      neat c s L d z w h t one q ∙ ap (λ (b : List ℕ). x ++ b) (sym (request_as_lem c k.request (row_at 16 i p.waiting)) ∙ request_as_lem c k.request (row_at 16 i v)))))

  -- what then waits
  waits : waiting_in s stored t ≡ row
  unfolding waiting_in regions named but bound
  waits =
      let l = h.of.laid in
      let i : ℕ = t - 1 in
      let p = regions s d in
      let n : length p.waiting ≡ s.tasks * 16 = waiting_length c s L d z w h t one in
      ap (λ r. row_at 16 i r.waiting) (written s l d h.room 4 (i * 16 + 0) e (omega (arith, fits_in)))
      ∙ row_inside 16 s.tasks i 0 p.waiting e (omega arith) (omega arith) (omega arith)

  front : take (length e) row ≡ e
  front = take_at e (drop (0 + length e) (waiting_in s d t)) (length e) refl

  -- and the request stored behind it
  pub enqueue_waits : (q : ℕ) (d₁ d₂ : List ℕ) → length e ≡ (shape c q).width → d₁ ≡ splice d (s.waitingat + (t - 1) * 16) e
      → ((tidy : Bool) (c : Config) (L : Ledger) (z w : List ℕ) → ShowsAs tidy c s L d₁ z w → ShowsAs tidy c s (set_request t (view_request c (Enqueue q) (waiting_in s d₁ t)) L) d₂ z w)
      → ShowsAs tidy c s (set_request t (ledger.enqueue q e) L) d₂ z w
  unfolding view_request view_task
  enqueue_waits q d₁ d₂ el ed f =
      let m : (t - 1) * 16 + 0 ≡ (t - 1) * 16 = add-zero ((t - 1) * 16) in
      let es : d₁ ≡ stored = ed ∙ ap (λ (x : ℕ). splice d (s.waitingat + x) e) (sym m) in
      let k = view_task c (record_is c s L d z w h t one) row (row_at 16 (t - 1) z) in
      let g : ShowsAs tidy c s (set_task t k L) d₁ z w = subst (λ (x : List ℕ). ShowsAs tidy c s (set_task t k L) x z w) (sym es) waiting_stored in
      let r : ledger.enqueue q (take (shape c q).width (waiting_in s d₁ t)) ≡ ledger.enqueue q e =
      ap (ledger.enqueue q) (ap (λ (x : List ℕ). take (shape c q).width (waiting_in s x t)) es ∙ ap (take (shape c q).width) waits ∙ ap (λ (n : ℕ). take n row) (sym el) ∙ front) in
      let x : task L t ≡ view_task c (record_is c s L d z w h t one) (row_at 16 (t - 1) (regions s d).waiting) (row_at 16 (t - 1) z) = shown_task c s L d z w h t one in
      subst (λ (X : Ledger). ShowsAs tidy c s X d₂ z w)
      (ap (λ (y : ledger.Request). set_request t y (set_task t k L)) r
      ∙ request_again t k (ledger.enqueue q e) L (task_in c s L d z w h t one) (sym (ap (λ (y : ledger.Task). y.blocks) x)) (sym (ap (λ (y : ledger.Task). y.outcome) x)) (sym (ap (λ (y : ledger.Task). y.slot) x)))
      (f tidy c (set_task t k L) z w g)
