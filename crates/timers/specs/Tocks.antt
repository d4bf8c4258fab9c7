-- What `pass`, `put_again` and `take_due` leave when they return, from what their callees leave.
use Rattle.std.specs.Prelude.{◌≡◌, get_or, drop}
use Rattle.std.proofs.Math.Path.{sym, ap, ap₂, subst}
use Rattle.std.proofs.Common.{◌∙◌}
use mathlib.Core.List.{List, map, [], ◌∷◌}
use Rattle.std.proofs.Math.Bool.{true, false}
use Prim.Native.Nat.{ℕ, suc, ◌+◌, ◌-◌, ◌*◌, ◌^◌, ◌<◌, ◌≤◌, zero}
use native.Mathlib.Omega.{arith}
use Rattle.std.proofs.Math.ListN.{length}
use Rattle.std.proofs.Math.Dec.{eqb}
use borrow.Author.Tests.{eq-eqb, ne_eqb}
use Rattle.ledger.specs.Lists.{without, insert_by}
use Rattle.ledger.specs.Ledger.{Timer}
use Rattle.ledger.specs.Session.{TimerLeft}
use Rattle.rows.specs.Splice.{splice}
use Rattle.rows.specs.Rows.{remove_at, rows_of, insert_at}
use Rattle.rows.specs.Four.{le4, bytes4}
use Rattle.timers.specs.Timers.{timer, left_at, shown_by, records_in, record_at, timers_in, tocks_left, tocked, is_due, due_in, first_due, put_again, taken_due, Keeps, AllFrom, LastBy, row_of, entry, handed_on, Placed, StaysUpright}
use Rattle.timers.specs.Reading.{shown_tock, shown_floor, shown_first, shown_insert, shown_remove}
use Rattle.timers.specs.Due.{floor_none, due_count, due_some, due_first, due_rest, due_before}
use Rattle.timers.specs.Records.{length_records, record_at_lem, time_set, floor_set, record_replaced}
use Rattle.timers.specs.Upright.{upright_floor, upright_insert, upright_remove}
use Rattle.timers.specs.Ends.{kept_shown, kept_upright}

-- ---- `pass`

module _ (n time time' : ℕ) (d d₁ d₂ : List ℕ) (room : n * 10 + 10 ≤ length d₁) (same : timers_in n d₁ ≡ timers_in n d) (t : time ≡ le4 d₁ 2) (t' : time' ≡ time + 1)
    (fits : time' < 2 ^ 32) (stored : d₂ ≡ splice d₁ 2 (bytes4 time')) where
  later_on : Keeps n d₂ time' (le4 d₁ 6) (records_in n d₁)
  later_on = time_set n d₁ room time' fits d₂ stored

  pub pass_tocks : timers_in n d₂ ≡ map tocked (timers_in n d)
  unfolding timers_in
  pass_tocks =
      let e : time' ≡ le4 d₁ 2 + 1 = omega arith in
      kept_shown n d₂ time' (le4 d₁ 6) (records_in n d₁) later_on
      ∙ ap (λ (x : ℕ). shown_by x (le4 d₁ 6) (records_in n d₁)) e
      ∙ shown_tock (le4 d₁ 2) (le4 d₁ 6) (records_in n d₁)
      ∙ ap (map tocked) same

  pub pass_upright : StaysUpright n d₁ n d₂
  pass_upright u = kept_upright n d₂ time' (le4 d₁ 6) (records_in n d₁) later_on u

  -- before the floor
  pub pass_none : time' < le4 d₂ 6 → 0 ≡ due_in (timers_in n d₂)
  unfolding timers_in
  pass_none h = sym (floor_none (le4 d₂ 2) (le4 d₂ 6) (records_in n d₂) (omega (arith, later_on.0)))

  -- from the floor on, the due ones are those before the place
  pub pass_some : (at first : ℕ) → le4 d₂ 6 ≤ time' → Placed n time' d₂ at first → at ≡ due_in (timers_in n d₂)
  unfolding timers_in
  pass_some at first past p =
      sym (due_count (le4 d₂ 2) (le4 d₂ 6) (records_in n d₂)
      ∙ shown_first (le4 d₂ 2) (le4 d₂ 6) 0 time' (omega (arith, later_on.0)) past at (records_in n d₂) (rw length_records p.0) p.1 p.2)

  -- where there is none, the floor goes up
  pub pass_quiet : (at first : ℕ) (d₃ : List ℕ) → at ≡ 0 → le4 d₂ 6 ≤ time' → Placed n time' d₂ at first → n * 10 + 10 ≤ length d₂ → first < 2 ^ 32 → d₃ ≡ splice d₂ 6 (bytes4 first)
      → (at ≤ n) × (at ≡ due_in (timers_in n d₃)) × (timers_in n d₃ ≡ map tocked (timers_in n d))
  unfolding timers_in
  pass_quiet at first d₃ z past p room₂ small up =
      let k = floor_set n d₂ room₂ first small d₃ up in
      let a : AllFrom first (records_in n d₂) = subst (λ (i : ℕ). AllFrom first (drop i (records_in n d₂))) z p.3 in
      let e : timers_in n d₃ ≡ timers_in n d₂ =
      kept_shown n d₃ (le4 d₂ 2) first (records_in n d₂) k ∙ shown_floor (le4 d₂ 2) (le4 d₂ 6) first (records_in n d₂) (omega (arith, later_on.0)) a in
      (p.0, pass_some at first past p ∙ ap due_in (sym e), e ∙ pass_tocks)

-- the floor goes up to a time before which none is due
pub quiet_upright : (n time at first : ℕ) (d d' : List ℕ) → n * 10 + 10 ≤ length d → at ≡ 0 → Placed n time d at first → first < 2 ^ 32 → d' ≡ splice d 6 (bytes4 first) → StaysUpright n d n d'
quiet_upright n time at first d d' room z p small up u =
    let a : AllFrom first (records_in n d) = subst (λ (i : ℕ). AllFrom first (drop i (records_in n d))) z p.3 in
    kept_upright n d' (le4 d 2) first (records_in n d) (floor_set n d room first small d' up) (upright_floor (le4 d 6) first (records_in n d) u a)

-- ---- `put_again`

-- among the others, the place is one less
module _ (y k : ℕ) where
  rest_length : (l : List Timer) → suc k ≤ length l → k ≤ length (remove_at 0 l)
  rest_length [] h = absurd (omega arith)
  rest_length (t ∷ ts) h = omega arith

  rest_reached : (l : List Timer) → LastBy y (suc k) l → suc k ≤ length l → LastBy y k (remove_at 0 l)
  rest_reached [] r h = absurd (omega arith)
  rest_reached (t ∷ ts) r h = go k r
    where
      go : (k : ℕ) → LastBy y (suc k) (t ∷ ts) → LastBy y k ts
      go zero r = tt
      go (suc k) r = r

  rest_from : (l : List Timer) → AllFrom (suc y) (drop (suc k) l) → suc k ≤ length l → AllFrom (suc y) (drop k (remove_at 0 l))
  rest_from [] a h = absurd (omega arith)
  rest_from (t ∷ ts) a h = a

module _ (n left time due : ℕ) (d d₁ : List ℕ) (some : 0 < due_in (timers_in n d)) (same : timers_in n d₁ ≡ timers_in n d) (t : time ≡ le4 d₁ 2) (ahead : due ≡ time + left) where
  behind_now : (le4 d₁ 6 ≤ due) × (AllFrom (suc due) (records_in n d₁) → ⊥)
  unfolding timers_in
  behind_now = due_before (le4 d₁ 2) (le4 d₁ 6) due (records_in n d₁) (omega arith) (omega (arith, some, ap due_in same))

  pub again_behind : (at : ℕ) → AllFrom (suc due) (drop at (records_in n d₁)) → 1 ≤ at
  again_behind zero from = absurd (behind_now.1 from)
  again_behind (suc k) from = omega arith

  module _ (a b p : ℕ) (d₂ row : List ℕ) (fits : due < 2 ^ 32) (fits₂ : p < 2 ^ 32) (made : row ≡ row_of a b due p) where
    again_next : (k : ℕ) → suc k ≤ n → LastBy due (suc k) (records_in n d₁) → AllFrom (suc due) (drop (suc k) (records_in n d₁))
        → rows_of 10 (n + 1) d₂ ≡ insert_at (suc k) row (remove_at 1 (rows_of 10 (n + 1) d₁)) → timers_in n d₂ ≡ insert_by tocks_left (timer a b left p) (remove_at 0 (timers_in n d))
    unfolding timers_in handed_on
    again_next k h r from e =
        let l : List Timer = records_in n d₁ in
        let long : suc k ≤ length l = rw length_records h in
        kept_shown n d₂ (le4 d₁ 2) (le4 d₁ 6) (insert_at k (entry a b due p) (remove_at 0 l)) (record_replaced n k a b due p d₁ d₂ row fits fits₂ made e)
        ∙ shown_insert (le4 d₁ 2) (le4 d₁ 6) left due (omega arith) behind_now.0 a b p k (remove_at 0 l) (rest_length due k l long) (rest_reached due k l r long) (rest_from due k l from long)
        ∙ ap (insert_by tocks_left (timer a b left p)) (shown_remove (le4 d₁ 2) (le4 d₁ 6) 0 l (omega arith) ∙ ap (remove_at 0) same)

    pub again_done : (at : ℕ) → at ≤ n → LastBy due at (records_in n d₁) → AllFrom (suc due) (drop at (records_in n d₁))
        → rows_of 10 (n + 1) d₂ ≡ insert_at at row (remove_at 1 (rows_of 10 (n + 1) d₁)) → timers_in n d₂ ≡ insert_by tocks_left (timer a b left p) (remove_at 0 (timers_in n d))
    again_done zero h r from e = absurd (behind_now.1 from)
    again_done (suc k) h r from e = again_next k h r from e

    pub again_upright : (at : ℕ) → at ≤ n → LastBy due at (records_in n d₁) → AllFrom (suc due) (drop at (records_in n d₁))
        → rows_of 10 (n + 1) d₂ ≡ insert_at at row (remove_at 1 (rows_of 10 (n + 1) d₁)) → StaysUpright n d₁ n d₂
    again_upright zero h r from e u = absurd (behind_now.1 from)
    again_upright (suc k) h r from e u =
        let l : List Timer = records_in n d₁ in
        let long : suc k ≤ length l = rw length_records h in
        kept_upright n d₂ (le4 d₁ 2) (le4 d₁ 6) (insert_at k (entry a b due p) (remove_at 0 l)) (record_replaced n k a b due p d₁ d₂ row fits fits₂ made e)
        (upright_insert (le4 d₁ 6) due a b p k (remove_at 0 l) (upright_remove (le4 d₁ 6) 0 l u) behind_now.0 (rest_length due k l long) (rest_reached due k l r long) (rest_from due k l from long))

-- ---- `take_due`

module _ (n : ℕ) (d : List ℕ) (h : 0 < due_in (timers_in n d)) where
  pub some_timer : 0 < n
  unfolding timers_in
  some_timer = omega (arith, due_some (le4 d 2) (le4 d 6) (records_in n d) h, length_records n d)

  first_is : first_due (timers_in n d) ≡ left_at 0 (record_at d 0)
  unfolding timers_in
  first_is = due_first (le4 d 2) (le4 d 6) (records_in n d) h ∙ ap (left_at 0) (record_at_lem n 0 d some_timer)

  pub first_semaphore_lem : get_or d 11 0 ≡ (first_due (timers_in n d)).semaphore
  first_semaphore_lem = sym (ap (λ (t : TimerLeft). t.semaphore) first_is)

  first_out : remove_at 0 (timers_in n d) ≡ without is_due (timers_in n d)
  unfolding timers_in
  first_out = due_rest (le4 d 2) (le4 d 6) (records_in n d) h

  taken_is : put_again (left_at 0 (record_at d 0)) (remove_at 0 (timers_in n d)) ≡ taken_due (timers_in n d)
  unfolding taken_due
  taken_is = ap₂ put_again (sym first_is) first_out

  pub take_once : (p : ℕ) (d₁ : List ℕ) → p ≡ le4 d 16 → p ≡ 0 → timers_in (n - 1) d₁ ≡ remove_at 0 (timers_in n d) → timers_in (n - 1) d₁ ≡ taken_due (timers_in n d)
  unfolding put_again
  take_once p d₁ ep z e =
      let t : eqb (le4 d 16) 0 ≡ true = eq-eqb (le4 d 16) 0 (sym ep ∙ z) in
      let q : put_again (left_at 0 (record_at d 0)) (remove_at 0 (timers_in n d)) ≡ remove_at 0 (timers_in n d) = rw t in
      e ∙ sym q ∙ taken_is

  pub take_again : (p : ℕ) (d₁ : List ℕ) → p ≡ le4 d 16 → (p ≡ 0 → ⊥)
      → timers_in n d₁ ≡ insert_by tocks_left (timer (get_or d 10 0) (get_or d 11 0) p p) (remove_at 0 (timers_in n d)) → timers_in n d₁ ≡ taken_due (timers_in n d)
  unfolding put_again
  take_again p d₁ ep nz e =
      let l : List TimerLeft = remove_at 0 (timers_in n d) in
      let f : eqb (le4 d 16) 0 ≡ false = ne_eqb (le4 d 16) 0 (λ z. nz (ep ∙ z)) in
      let q : put_again (left_at 0 (record_at d 0)) l ≡ insert_by tocks_left (timer (get_or d 10 0) (get_or d 11 0) (le4 d 16) (le4 d 16)) l = rw f in
      e ∙ ap (λ (x : ℕ). insert_by tocks_left (timer (get_or d 10 0) (get_or d 11 0) x x) l) ep ∙ sym q ∙ taken_is
