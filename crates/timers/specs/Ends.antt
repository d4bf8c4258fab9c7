-- What the functions that change the rows leave when they return, from what their callees leave.
use Rattle.std.specs.Prelude.{◌≡◌, ℕ, zero, suc, ◌+◌, ◌-◌, ◌*◌, ◌^◌, ◌<◌, ◌≤◌, min, max, length, get_or, drop, set}
use Rattle.std.proofs.Common.{sym, ◌∙◌, arith}
use Rattle.std.proofs.Math.Path.{ap, ap₂, subst}
use mathlib.Core.List.{List, ◌∷◌, map}
use Rattle.std.proofs.Math.Nat.{sub-zero}
use Rattle.ledger.specs.Lists.{insert_by}
use Rattle.ledger.specs.Ledger.{Timer}
use Rattle.rows.specs.Splice.{splice}
use Rattle.rows.specs.Rows.{rows_of, insert_at, remove_at}
use Rattle.rows.specs.Four.{le4, bytes4}
use Rattle.timers.specs.Timers.{timer, entry, until_due, shown_by, records_in, record_at, timers_in, tocks_left, no_entry, due_at, settled_by, handed_on, Keeps, AllFrom, LastBy, Leaves, Lowered, IsUpright, Upright, StaysUpright}
use Rattle.timers.specs.Order.{from_fewer, from_settled}
use Rattle.timers.specs.Reading.{shown_settled, shown_before, shown_insert, shown_remove}
use Rattle.timers.specs.Upright.{upright_lower, upright_settled, upright_insert, upright_remove, upright_handed}
use Rattle.timers.specs.Records.{length_records, record_at_lem, time_set, floor_set, record_removed}

-- what is kept says what is meant
pub kept_shown : (n : ℕ) (d : List ℕ) (time floor : ℕ) (l : List Timer) → Keeps n d time floor l → timers_in n d ≡ shown_by time floor l
unfolding timers_in
kept_shown n d time floor l k = ap₂ (λ (x y : ℕ). shown_by x y (records_in n d)) k.0 k.1 ∙ ap (shown_by time floor) k.2

pub kept_upright : (n : ℕ) (d : List ℕ) (time floor : ℕ) (l : List Timer) → Keeps n d time floor l → IsUpright floor l → Upright n d
kept_upright n d time floor l k u = subst (IsUpright (le4 d 6)) (sym k.2) (subst (λ (x : ℕ). IsUpright x l) (sym k.1) u)

-- ---- `time_before` sets the clock back

back_at : (time f m : ℕ) → until_due 0 (f - time) (until_due time 0 m) ≡ until_due time f m
back_at time f m =
    let a : max m 0 ≡ m = omega arith in
    let b : max (m - time) (f - time) ≡ max m f - time = omega arith in
    ap (λ (z : ℕ). max (z - time) (f - time) - 0) a ∙ sub-zero (max (m - time) (f - time)) ∙ b

module _ (n time floor : ℕ) (d d₁ d₂ d₃ : List ℕ) (room : n * 10 + 10 ≤ length d₁) (room₂ : n * 10 + 10 ≤ length d₂) (t : time ≡ le4 d 2) (fits : floor - time < 2 ^ 32)
    (settled : Leaves n d d₁ (map (settled_by time 0) (records_in n d))) (stored : d₂ ≡ splice d₁ 2 (bytes4 0))
    (f : floor ≡ le4 d₂ 6) (stored₂ : d₃ ≡ splice d₂ 6 (bytes4 (floor - time))) where
  at_zero : Keeps n d₂ 0 (le4 d₁ 6) (records_in n d₁)
  at_zero = time_set n d₁ room 0 (omega arith) d₂ stored

  lowered : Keeps n d₃ (le4 d₂ 2) (floor - time) (records_in n d₂)
  lowered = floor_set n d₂ room₂ (floor - time) fits d₃ stored₂

  pub back_time : 0 ≡ le4 d₃ 2
  back_time = sym (lowered.0 ∙ at_zero.0)

  back_floor : floor ≡ le4 d 6
  back_floor = f ∙ at_zero.1 ∙ settled.1

  pub back_same : timers_in n d₃ ≡ timers_in n d
  unfolding timers_in
  back_same =
      kept_shown n d₃ (le4 d₂ 2) (floor - time) (records_in n d₂) lowered
      ∙ ap₂ (λ (x : ℕ) (l : List Timer). shown_by x (floor - time) l) at_zero.0 (at_zero.2 ∙ settled.2)
      ∙ shown_settled time 0 floor (floor - time) time 0 (back_at time floor) (records_in n d)
      ∙ ap₂ (λ (x y : ℕ). shown_by x y (records_in n d)) t back_floor

  pub back_upright : StaysUpright n d n d₃
  back_upright u =
      let l : List Timer = map (settled_by time 0) (records_in n d) in
      let e : until_due time 0 (le4 d 6) ≡ floor - time = omega (arith, back_floor) in
      kept_upright n d₃ (le4 d₂ 2) (floor - time) l (lowered.0, lowered.1, lowered.2 ∙ at_zero.2 ∙ settled.2)
      (subst (λ (x : ℕ). IsUpright x l) e (upright_settled time 0 (le4 d 6) (records_in n d) u))

-- ---- `lower`

raised_at : (time f g m : ℕ) → g ≤ f → until_due time g (until_due 0 f m) ≡ until_due time f m
raised_at time f g m h = omega arith

module _ (n due floor : ℕ) (d d₁ d₂ : List ℕ) (room : n * 10 + 10 ≤ length d₁) (fits : due < 2 ^ 32) (f : floor ≡ le4 d 6) (before : due < floor)
    (settled : Leaves n d d₁ (map (settled_by 0 floor) (records_in n d))) (stored : d₂ ≡ splice d₁ 6 (bytes4 due)) where
  pub lower_done : Lowered n due d d₂
  unfolding timers_in
  lower_done =
      let l : List Timer = records_in n d in
      let m : List Timer = map (settled_by 0 floor) l in
      let k = floor_set n d₁ room due fits d₂ stored in
      let time : le4 d₂ 2 ≡ le4 d 2 = k.0 ∙ settled.0 in
      let kept : records_in n d₂ ≡ m = k.2 ∙ settled.2 in (
        time,
        k.1,
        subst (AllFrom (suc due)) (sym kept) (from_fewer floor (suc due) m (from_settled floor l) (omega arith)),
        kept_shown n d₂ (le4 d 2) due m (time, k.1, kept)
            ∙ shown_settled (le4 d 2) (le4 d 2) floor due 0 floor (λ x. raised_at (le4 d 2) floor due x (omega arith)) l
            ∙ ap (λ (y : ℕ). shown_by (le4 d 2) y l) f,
      )

  pub lower_upright : StaysUpright n d n d₂
  lower_upright u =
      let m : List Timer = map (settled_by 0 floor) (records_in n d) in
      let k = floor_set n d₁ room due fits d₂ stored in
      kept_upright n d₂ (le4 d₁ 2) due m (k.0, k.1, k.2 ∙ settled.2)
      (upright_lower (until_due 0 floor (le4 d 6)) due m (upright_settled 0 floor (le4 d 6) (records_in n d) u) (omega (arith, before)))

-- ---- `insert`

-- at the floor, which was lowered to its time: an earlier time in its row would mean the same, but would not be in order
module _ (n t s p due x : ℕ) (d₁ d₂ : List ℕ) (floor : le4 d₁ 6 ≡ due) (behind : AllFrom (suc due) (records_in n d₁))
    (k : Leaves (n + 1) d₁ d₂ (insert_at 0 (entry t s x p) (records_in n d₁))) (up : x ≤ due) where
  pub first_done : (left time : ℕ) (d : List ℕ) → timers_in n d₁ ≡ timers_in n d → time ≡ le4 d₁ 2 → due ≡ time + left → timers_in (n + 1) d₂ ≡ insert_by tocks_left (timer t s left p) (timers_in n d)
  unfolding timers_in
  first_done left time d same et ed =
      kept_shown (n + 1) d₂ (le4 d₁ 2) due (entry t s x p ∷ records_in n d₁) (k.0, k.1 ∙ floor, k.2)
      ∙ shown_before (le4 d₁ 2) due left x t s p (records_in n d₁) (omega arith) up behind
      ∙ ap (λ (f : ℕ). insert_by tocks_left (timer t s left p) (shown_by (le4 d₁ 2) f (records_in n d₁))) (sym floor)
      ∙ ap (insert_by tocks_left (timer t s left p)) same

  pub first_upright : due ≤ x → StaysUpright n d₁ (n + 1) d₂
  first_upright low u =
      let e : due ≡ x = omega arith in
      kept_upright (n + 1) d₂ (le4 d₁ 2) (le4 d₁ 6) (insert_at 0 (entry t s x p) (records_in n d₁)) k
      (upright_insert (le4 d₁ 6) x t s p 0 (records_in n d₁) u (omega arith) (omega arith) tt (subst (λ (y : ℕ). AllFrom (suc y) (records_in n d₁)) e behind))

pub insert_done : (n at t s left p time due : ℕ) (d d₁ d₂ : List ℕ) → timers_in n d₁ ≡ timers_in n d → time ≡ le4 d₁ 2 → due ≡ time + left → le4 d₁ 6 ≤ due
    → at ≤ n → LastBy due at (records_in n d₁) → AllFrom (suc due) (drop at (records_in n d₁))
    → Leaves (n + 1) d₁ d₂ (insert_at at (entry t s due p) (records_in n d₁))
    → timers_in (n + 1) d₂ ≡ insert_by tocks_left (timer t s left p) (timers_in n d)
unfolding timers_in
insert_done n at t s left p time due d d₁ d₂ same et ed low h r a k =
    kept_shown (n + 1) d₂ (le4 d₁ 2) (le4 d₁ 6) (insert_at at (entry t s due p) (records_in n d₁)) k
    ∙ shown_insert (le4 d₁ 2) (le4 d₁ 6) left due (omega arith) low t s p at (records_in n d₁) (rw length_records h) r a
    ∙ ap (insert_by tocks_left (timer t s left p)) same

pub insert_upright : (n at t s p due : ℕ) (d₁ d₂ : List ℕ) → le4 d₁ 6 ≤ due → at ≤ n → LastBy due at (records_in n d₁) → AllFrom (suc due) (drop at (records_in n d₁))
    → Leaves (n + 1) d₁ d₂ (insert_at at (entry t s due p) (records_in n d₁)) → StaysUpright n d₁ (n + 1) d₂
insert_upright n at t s p due d₁ d₂ low h r a k u =
    kept_upright (n + 1) d₂ (le4 d₁ 2) (le4 d₁ 6) (insert_at at (entry t s due p) (records_in n d₁)) k
    (upright_insert (le4 d₁ 6) due t s p at (records_in n d₁) u low (rw length_records h) r a)

-- ---- `hand_on` and `remove`

pub handed_first : (k : ℕ) (l : List Timer) → k ≡ 0 → l ≡ handed_on k l
unfolding handed_on
handed_first k l e = sym (ap (λ (i : ℕ). handed_on i l) e)

pub handed_done : (n k x y r : ℕ) (d : List ℕ) → 0 < k → k < n → x ≡ (record_at d (k - 1)).due → y ≡ (record_at d k).due → r ≡ min x y
    → set (records_in n d) (k - 1) (due_at r (record_at d (k - 1))) ≡ handed_on k (records_in n d)
unfolding handed_on
handed_done n zero x y r d h f ex ey er = absurd (omega arith)
handed_done n (suc k) x y r d h f ex ey er =
    let l : List Timer = records_in n d in
    let s : suc k - 1 ≡ k = omega arith in
    let a : record_at d k ≡ get_or l k no_entry = sym (record_at_lem n k d (omega arith)) in
    let b : record_at d (suc k) ≡ get_or l (suc k) no_entry = sym (record_at_lem n (suc k) d f) in
    let q : r ≡ min (get_or l k no_entry).due (get_or l (suc k) no_entry).due =
    er ∙ ap₂ min (ex ∙ ap (λ (i : ℕ). (record_at d i).due) s ∙ ap (λ (t : Timer). t.due) a) (ey ∙ ap (λ (t : Timer). t.due) b) in
    ap (λ (i : ℕ). set l i (due_at r (record_at d i))) s ∙ ap₂ (λ (z : ℕ) (t : Timer). set l k (due_at z t)) q a

pub remove_done : (n k : ℕ) (d d₁ d₂ : List ℕ) → k < n → Leaves n d d₁ (handed_on k (records_in n d))
    → rows_of 10 (n + 1 - 1) d₂ ≡ remove_at (k + 1) (rows_of 10 (n + 1) d₁) → timers_in (n - 1) d₂ ≡ remove_at k (timers_in n d)
unfolding timers_in
remove_done n k d d₁ d₂ h w e =
    let r = record_removed n k d₁ d₂ (omega arith) e in
    let l : List Timer = remove_at k (handed_on k (records_in n d)) in
    kept_shown (n - 1) d₂ (le4 d 2) (le4 d 6) l (r.0 ∙ w.0, r.1 ∙ w.1, r.2 ∙ ap (remove_at k) w.2)
    ∙ shown_remove (le4 d 2) (le4 d 6) k (records_in n d) (rw length_records h)

pub remove_upright : (n k : ℕ) (d d₁ d₂ : List ℕ) → k < n → Leaves n d d₁ (handed_on k (records_in n d))
    → rows_of 10 (n + 1 - 1) d₂ ≡ remove_at (k + 1) (rows_of 10 (n + 1) d₁) → StaysUpright n d (n - 1) d₂
remove_upright n k d d₁ d₂ h w e u =
    let r = record_removed n k d₁ d₂ (omega arith) e in
    let l : List Timer = records_in n d in
    kept_upright (n - 1) d₂ (le4 d 2) (le4 d 6) (remove_at k l) (r.0 ∙ w.0, r.1 ∙ w.1, r.2 ∙ ap (remove_at k) (w.2 ∙ upright_handed (le4 d 6) k l u (rw length_records h)))
    (upright_remove (le4 d 6) k l u)
