-- The turns and ends of the loops over the rows, in the form in which the needs ask them.
use Rattle.std.specs.Prelude.{◌≡◌, List, ◌∷◌, map, Bool, true, false, ℕ, zero, suc, ◌+◌, ◌-◌, ◌<◌, ◌≤◌, length, get_or, take, drop, set}
use Rattle.std.proofs.Common.{refl, sym, ap, ◌∙◌, add-one, arith, drop_of_length-le, drop-cons, lt-ltb, le-ltb}
use Rattle.std.proofs.Math.Seq.{drop_at, length-take-le}
use Rattle.ledger.specs.Lists.{any, keep}
use Rattle.ledger.specs.Ledger.{Timer}
use Rattle.ledger.specs.Session.{TimerLeft}
use Rattle.rows.specs.Rows.{map_upto, map_upto_at, map_upto_suc, map_upto_all, remove_at}
use Rattle.rows.specs.First.{first_of, first_here, first_on, first_end, keep_remove_other, any_is}
use Rattle.rows.specs.Four.{le4}
use Rattle.timers.specs.Timers.{left_at, until_due, records_in, record_at, timers_in, no_timer, no_entry, due_at, settled_by, AllFrom, LastBy, Leaves}
use Rattle.timers.specs.Order.{from_none, from_fewer, from_cons}
use Rattle.timers.specs.Reading.{shown_length, shown_blind}
use Rattle.timers.specs.Records.{length_records, record_at_lem}

pub length_timers : (n : ℕ) (d : List ℕ) → length (timers_in n d) ≡ n
unfolding timers_in
length_timers n d = shown_length (le4 d 2) (le4 d 6) (records_in n d) ∙ length_records n d

-- a test that does not look at the tocks left
abbrev pub Blind : (TimerLeft → Bool) → Type 0
Blind p = (x y : ℕ) (t : Timer) → p (left_at x t) ≡ p (left_at y t)

blind_at : (p : TimerLeft → Bool) → Blind p → (n k : ℕ) (d : List ℕ) → k < n → p (get_or (timers_in n d) k no_timer) ≡ p (left_at 0 (record_at d k))
unfolding timers_in
blind_at p same n k d h =
    shown_blind p same (le4 d 2) (le4 d 6) k (records_in n d) (rw length_records h) ∙ ap (λ (t : Timer). p (left_at 0 t)) (record_at_lem n k d h)

-- ---- a search that has come to place k

module _ (p : TimerLeft → Bool) (same : Blind p) (n k : ℕ) (d : List ℕ) (so_far : first_of p (timers_in n d) ≡ k + first_of p (drop k (timers_in n d))) where
  pub search_on : (r : Bool) → k < n → r ≡ p (left_at 0 (record_at d k)) → r ≡ false → first_of p (timers_in n d) ≡ k + 1 + first_of p (drop (k + 1) (timers_in n d))
  search_on r h e f =
      first_on p (timers_in n d) k so_far no_timer (rw length_timers h) (blind_at p same n k d h ∙ sym e ∙ f)

  pub found : (r : Bool) → k < n → r ≡ p (left_at 0 (record_at d k)) → r ≡ true → true ≡ any p (timers_in n d)
  found r h e t =
      let q : k ≡ first_of p (timers_in n d) = first_here p (timers_in n d) k so_far no_timer (rw length_timers h) (blind_at p same n k d h ∙ sym e ∙ t) in
      sym (any_is p (timers_in n d) ∙ lt-ltb (first_of p (timers_in n d)) (length (timers_in n d)) (omega (arith, length_timers n d)))

  pub not_found : n ≤ k → false ≡ any p (timers_in n d)
  not_found h =
      let q : k ≡ first_of p (timers_in n d) = first_end p (timers_in n d) k so_far (rw length_timers h) in
      sym (any_is p (timers_in n d) ∙ le-ltb (first_of p (timers_in n d)) (length (timers_in n d)) (omega (arith, length_timers n d)))

-- ---- a purge, from the last timer back to timer k: it keeps of these what it keeps of all, and each from k on stays

abbrev pub Purged : (TimerLeft → Bool) → (m k : ℕ) (d : List ℕ) → List TimerLeft → Type 0
Purged p m k d l = (k ≤ m) × (keep p (timers_in m d) ≡ keep p l) × (keep p (drop k (timers_in m d)) ≡ drop k (timers_in m d))

pub purge_start : (p : TimerLeft → Bool) (n : ℕ) (d : List ℕ) → Purged p n n d (timers_in n d)
unfolding keep
purge_start p n d = (omega arith, refl, rw (drop_of_length-le (timers_in n d) {i = n} (rw length_timers (omega arith))))

module _ (p : TimerLeft → Bool) (same : Blind p) (m i k : ℕ) (d : List ℕ) (l : List TimerLeft) (before : i ≡ suc k) (so_far : Purged p m i d l)
    (r : Bool) (e : r ≡ p (left_at 0 (record_at d k))) where
  here : k < m
  here = omega (arith, so_far.0)

  timer_here : p (get_or (timers_in m d) k no_timer) ≡ r
  timer_here = blind_at p same m k d here ∙ sym e

  behind : keep p (drop (suc k) (timers_in m d)) ≡ drop (suc k) (timers_in m d)
  behind = rw before at so_far.2

  pub purge_on : r ≡ true → Purged p m k d l
  unfolding keep
  purge_on t =
      let c = drop-cons (timers_in m d) k no_timer (rw length_timers here) in
      (omega (arith, here), so_far.1, rw (c, timer_here, t) (ap (◌∷◌ (get_or (timers_in m d) k no_timer)) behind))

  pub purge_out : (d' : List ℕ) → r ≡ false → timers_in (m - 1) d' ≡ remove_at k (timers_in m d) → Purged p (m - 1) k d' l
  purge_out d' f x =
      let n : length (take k (timers_in m d)) ≡ k = length-take-le k (timers_in m d) (rw length_timers (omega (arith, here))) in
      let b : drop k (timers_in (m - 1) d') ≡ drop (suc k) (timers_in m d) =
      ap (drop k) x ∙ drop_at (take k (timers_in m d)) (drop (k + 1) (timers_in m d)) k n ∙ ap (λ (i : ℕ). drop i (timers_in m d)) (add-one k) in
      (omega (arith, here), ap (keep p) x ∙ keep_remove_other p k (timers_in m d) no_timer (timer_here ∙ f) ∙ so_far.1, rw b behind)

-- none is before the first
pub purge_end : (p : TimerLeft → Bool) (m k : ℕ) (d : List ℕ) (l : List TimerLeft) → Purged p m k d l → k ≤ 0 → timers_in m d ≡ keep p l
purge_end p m zero d l so_far h = sym so_far.2 ∙ so_far.1
purge_end p m (suc k) d l so_far h = absurd (omega arith)

-- ---- the first k records are settled

module _ (back floor n k : ℕ) (d₀ d : List ℕ) (so_far : Leaves n d₀ d (map_upto (settled_by back floor) k (records_in n d₀))) where
  pub settle_turn : (x y : ℕ) (d' : List ℕ) → k < n → x ≡ (record_at d k).due → y ≡ until_due back floor x
      → Leaves n d d' (set (records_in n d) k (due_at y (record_at d k)))
      → Leaves n d₀ d' (map_upto (settled_by back floor) (k + 1) (records_in n d₀))
  settle_turn x y d' h ex ey w =
      let l : List Timer = records_in n d₀ in
      let t : record_at d k ≡ get_or l k no_entry = sym (record_at_lem n k d h) ∙ ap (λ (z : List Timer). get_or z k no_entry) so_far.2 ∙ map_upto_at (settled_by back floor) k l no_entry in
      let y= : y ≡ until_due back floor (record_at d k).due = ey ∙ ap (until_due back floor) ex in
      let e : set (records_in n d) k (due_at y (record_at d k)) ≡ map_upto (settled_by back floor) (k + 1) l =
      ap (λ (z : ℕ). set (records_in n d) k (due_at z (record_at d k))) y=
      ∙ ap (λ (u : Timer). set (records_in n d) k (settled_by back floor u)) t
      ∙ ap (λ (z : List Timer). set z k (settled_by back floor (get_or l k no_entry))) so_far.2
      ∙ map_upto_suc (settled_by back floor) k l no_entry (rw length_records h)
      ∙ ap (λ (z : ℕ). map_upto (settled_by back floor) z l) (sym (add-one k)) in
      (w.0 ∙ so_far.0, w.1 ∙ so_far.1, w.2 ∙ e)

  pub settle_end : n ≤ k → Leaves n d₀ d (map (settled_by back floor) (records_in n d₀))
  settle_end h = (so_far.0, so_far.1, so_far.2 ∙ map_upto_all (settled_by back floor) k (records_in n d₀) (rw length_records h))

-- ---- from the last record back to record k

pub place_start : (x n : ℕ) (d : List ℕ) → AllFrom x (drop n (records_in n d))
place_start x n d = rw (drop_of_length-le (records_in n d) {i = n} (rw length_records (omega arith))) (from_none x)

module _ (n k x : ℕ) (d : List ℕ) (h : k < n) (e : x ≡ (record_at d k).due) where
  time_here : (get_or (records_in n d) k no_entry).due ≡ x
  time_here = ap (λ (t : Timer). t.due) (record_at_lem n k d h) ∙ sym e

  -- one more that is not before z
  pub place_on : (y z : ℕ) → z ≤ x → z ≤ y → AllFrom y (drop (suc k) (records_in n d)) → AllFrom z (drop k (records_in n d))
  place_on y z zx zy a =
      let l : List Timer = records_in n d in
      let c : drop k l ≡ get_or l k no_entry ∷ drop (suc k) l = drop-cons l k no_entry (rw length_records h) in
      rw c (from_cons z (get_or l k no_entry) (drop (suc k) l) (omega (arith, time_here)) (from_fewer y z (drop (suc k) l) a zy))

  pub place_here : (y : ℕ) → x ≤ y → LastBy y (suc k) (records_in n d)
  place_here y xy = omega (arith, time_here)
