-- The clock and the records that bytes keep: what a store, an insertion and a removal change of them.
use Rattle.std.specs.Prelude.{◌≡◌, refl, get_or, drop}
use Rattle.std.proofs.Common.{sym, ◌∙◌, add-one}
use Rattle.std.proofs.Math.Path.{ap}
use mathlib.Core.List.{List, [], ◌∷◌, map}
use Prim.Native.Nat.{ℕ, suc, ◌+◌, ◌-◌, ◌*◌, ◌^◌, ◌<◌, ◌≤◌}
use native.Mathlib.Omega.{arith}
use Rattle.std.proofs.Math.ListN.{length, take, set, get_or-map}
use Rattle.std.proofs.lemmas.List.{length-map}
use Rattle.ledger.specs.Ledger.{Timer}
use Rattle.ledger.specs.Session.{TimerLeft}
use Rattle.rows.specs.Splice.{splice}
use Rattle.rows.specs.Laws.{length_splice}
use Rattle.rows.specs.Rows.{rows_of, row_at, rows_set, insert_at, remove_at, get_d_rows, length_rows, map_set, map_insert_at, splice_row, length_row}
use Rattle.rows.specs.First.{map_remove_at}
use Rattle.rows.specs.Four.{le4, bytes4}
use Rattle.timers.specs.Timers.{row_of, timer, entry, entry_of, left_at, records_in, record_at, timers_in, shown_by, no_timer, no_entry, due_at, Keeps, Leaves, IsUpright, Upright}
use Rattle.timers.specs.Upright.{upright_shown}
use Rattle.timers.specs.Bytes.{clock_at, clock_at_lem, row_at_lem, row_due, row_period, row_entry}

pub length_records : (n : ℕ) (d : List ℕ) → length (records_in n d) ≡ n
unfolding records_in
length_records n d = length-map (rows_of 10 n (drop 10 d)) entry_of ∙ length_rows 10 n (drop 10 d)

pub record_at_lem : (n k : ℕ) (d : List ℕ) → k < n → get_or (records_in n d) k no_entry ≡ record_at d k
unfolding records_in entry_of
record_at_lem n k d h =
    get_or-map entry_of (rows_of 10 n (drop 10 d)) k [] ∙ ap entry_of (get_d_rows 10 (suc n) (suc k) d (omega arith)) ∙ row_at_lem d k

-- rows with another row 0, or other rows behind it
rows_keep : (n : ℕ) (d r : List ℕ) (rs : List (List ℕ)) → rows_of 10 (suc n) d ≡ r ∷ rs → Keeps n d (entry_of r).due (entry_of r).period (map entry_of rs)
unfolding records_in
rows_keep n d r rs e =
    let c : clock_at d ≡ entry_of r = sym (clock_at_lem d) ∙ ap (λ (z : List (List ℕ)). entry_of (get_or z 0 [])) e in
    (ap (λ (t : Timer). t.due) c, ap (λ (t : Timer). t.period) c, ap (λ (z : List (List ℕ)). map entry_of (drop 1 z)) e)

-- the clock stays
same_clock : (n : ℕ) (d d' : List ℕ) (rs : List (List ℕ)) → rows_of 10 (suc n) d' ≡ take 10 d ∷ rs → Leaves n d d' (map entry_of rs)
same_clock n d d' rs e =
    let k = rows_keep n d' (take 10 d) rs e in
    (k.0 ∙ ap (λ (t : Timer). t.due) (clock_at_lem d), k.1 ∙ ap (λ (t : Timer). t.period) (clock_at_lem d), k.2)

module _ (n : ℕ) (d : List ℕ) (room : n * 10 + 10 ≤ length d) (x : ℕ) (fits : x < 2 ^ 32) where
  clock_row : (i : ℕ) → i + 4 ≤ 10 → rows_of 10 (suc n) (splice d i (bytes4 x)) ≡ splice (take 10 d) i (bytes4 x) ∷ rows_of 10 n (drop 10 d)
  clock_row i h =
      let r : List ℕ = take 10 d in
      let s : List ℕ = splice r i (bytes4 x) in
      let lr : length r ≡ 10 = length_row 10 0 d (omega arith) in
      let ls : length s ≡ 10 = length_splice r i (bytes4 x) (omega arith) ∙ lr in
      let z : 0 + i ≡ i = omega arith in
      ap (λ (j : ℕ). rows_of 10 (suc n) (splice d j (bytes4 x))) (sym z)
      ∙ ap (rows_of 10 (suc n)) (splice_row 10 0 i d (bytes4 x) (omega arith) (omega arith))
      ∙ rows_set 10 (suc n) 0 d (omega arith) (omega arith) s ls

  pub time_set : (d' : List ℕ) → d' ≡ splice d 2 (bytes4 x) → Keeps n d' x (le4 d 6) (records_in n d)
  unfolding records_in
  time_set d' f =
      let k = rows_keep n d' (splice (take 10 d) 2 (bytes4 x)) (rows_of 10 n (drop 10 d)) (ap (rows_of 10 (suc n)) f ∙ clock_row 2 (omega arith)) in
      let e = row_due (take 10 d) x (length_row 10 0 d (omega arith)) fits in
      (k.0 ∙ ap (λ (t : Timer). t.due) e, k.1 ∙ ap (λ (t : Timer). t.period) (e ∙ ap (due_at x) (clock_at_lem d)), k.2)

  pub floor_set : (d' : List ℕ) → d' ≡ splice d 6 (bytes4 x) → Keeps n d' (le4 d 2) x (records_in n d)
  unfolding records_in
  floor_set d' f =
      let k = rows_keep n d' (splice (take 10 d) 6 (bytes4 x)) (rows_of 10 n (drop 10 d)) (ap (rows_of 10 (suc n)) f ∙ clock_row 6 (omega arith)) in
      let e = row_period (take 10 d) x (length_row 10 0 d (omega arith)) fits in
      (k.0 ∙ ap (λ (t : Timer). t.due) e ∙ ap (λ (t : Timer). t.due) (clock_at_lem d), k.1 ∙ ap (λ (t : Timer). t.period) e, k.2)

  pub due_set : (k : ℕ) (d' : List ℕ) → k < n → d' ≡ splice d (k * 10 + 12) (bytes4 x) → Leaves n d d' (set (records_in n d) k (due_at x (record_at d k)))
  unfolding records_in
  due_set k d' h f =
      let r : List ℕ = row_at 10 (suc k) d in
      let s : List ℕ = splice r 2 (bytes4 x) in
      let lr : length r ≡ 10 = length_row 10 (suc k) d (omega arith) in
      let ls : length s ≡ 10 = length_splice r 2 (bytes4 x) (omega arith) ∙ lr in
      let o : k * 10 + 12 ≡ suc k * 10 + 2 = omega arith in
      let rows : List (List ℕ) = rows_of 10 n (drop 10 d) in
      let e : rows_of 10 (suc n) d' ≡ take 10 d ∷ set rows k s =
      ap (rows_of 10 (suc n)) f
      ∙ ap (λ (j : ℕ). rows_of 10 (suc n) (splice d j (bytes4 x))) o
      ∙ ap (rows_of 10 (suc n)) (splice_row 10 (suc k) 2 d (bytes4 x) (omega arith) (omega arith))
      ∙ rows_set 10 (suc n) (suc k) d (omega arith) (omega arith) s ls in
      let w = same_clock n d d' (set rows k s) e in
      let m : map entry_of (set rows k s) ≡ set (records_in n d) k (due_at x (record_at d k)) =
      map_set entry_of rows k s ∙ ap (set (map entry_of rows) k) (row_due r x lr fits ∙ ap (due_at x) (row_at_lem d k)) in
      (w.0, w.1, w.2 ∙ m)

-- a row put in behind row 0
pub record_inserted : (n at t s x p : ℕ) (d d' row : List ℕ) → x < 2 ^ 32 → p < 2 ^ 32 → row ≡ row_of t s x p
    → rows_of 10 (n + 1 + 1) d' ≡ insert_at (at + 1) row (rows_of 10 (n + 1) d) → Leaves (n + 1) d d' (insert_at at (entry t s x p) (records_in n d))
unfolding records_in
record_inserted n at t s x p d d' row hx hp er e =
    let rows : List (List ℕ) = rows_of 10 n (drop 10 d) in
    let f : rows_of 10 (suc (suc n)) d' ≡ take 10 d ∷ insert_at at row rows = simp add-one at e in
    let w = same_clock (suc n) d d' (insert_at at row rows) f in
    let m : map entry_of (insert_at at row rows) ≡ insert_at at (entry t s x p) (map entry_of rows) =
    map_insert_at entry_of at row rows ∙ ap (λ (z : Timer). insert_at at z (map entry_of rows)) (ap entry_of er ∙ row_entry t s x p hx hp) in
    (w.0, w.1, ap (λ (z : ℕ). records_in z d') (add-one n) ∙ w.2 ∙ m)

-- a row behind row 0 taken out
pub record_removed : (n k : ℕ) (d d' : List ℕ) → 0 < n
    → rows_of 10 (n + 1 - 1) d' ≡ remove_at (k + 1) (rows_of 10 (n + 1) d) → Leaves (n - 1) d d' (remove_at k (records_in n d))
unfolding records_in
record_removed n k d d' h e =
    let rows : List (List ℕ) = rows_of 10 n (drop 10 d) in
    let m : n + 1 - 1 ≡ suc (n - 1) = omega arith in
    let f : remove_at (k + 1) (rows_of 10 (n + 1) d) ≡ take 10 d ∷ remove_at k rows = simp add-one in
    let w = same_clock (n - 1) d d' (remove_at k rows) (ap (λ (z : ℕ). rows_of 10 z d') (sym m) ∙ e ∙ f) in
    (w.0, w.1, w.2 ∙ map_remove_at entry_of k rows)

-- the first row behind row 0 taken out, and a row put in
pub record_replaced : (n k t s x p : ℕ) (d d' row : List ℕ) → x < 2 ^ 32 → p < 2 ^ 32 → row ≡ row_of t s x p
    → rows_of 10 (n + 1) d' ≡ insert_at (suc k) row (remove_at 1 (rows_of 10 (n + 1) d)) → Leaves n d d' (insert_at k (entry t s x p) (remove_at 0 (records_in n d)))
unfolding records_in
record_replaced n k t s x p d d' row hx hp er e =
    let rows : List (List ℕ) = rows_of 10 n (drop 10 d) in
    let f : rows_of 10 (suc n) d' ≡ take 10 d ∷ insert_at k row (remove_at 0 rows) = simp add-one at e in
    let w = same_clock n d d' (insert_at k row (remove_at 0 rows)) f in
    let m : map entry_of (insert_at k row (remove_at 0 rows)) ≡ insert_at k (entry t s x p) (remove_at 0 (map entry_of rows)) =
    map_insert_at entry_of k row (remove_at 0 rows)
    ∙ ap (λ (z : Timer). insert_at k z (map entry_of (remove_at 0 rows))) (ap entry_of er ∙ row_entry t s x p hx hp)
    ∙ ap (insert_at k (entry t s x p)) (map_remove_at entry_of 0 rows) in
    (w.0, w.1, w.2 ∙ m)

pub none_in : (d : List ℕ) → timers_in 0 d ≡ []
unfolding timers_in records_in shown_by
none_in d = refl

pub none_upright : (d : List ℕ) → Upright 0 d
unfolding records_in IsUpright
none_upright d = tt

-- of rows in order, each says when its own timer is due
pub row_upright : (n k : ℕ) (d : List ℕ) → Upright n d → k < n → get_or (timers_in n d) k no_timer ≡ left_at ((record_at d k).due - le4 d 2) (record_at d k)
unfolding timers_in
row_upright n k d u h =
    let f : Timer → TimerLeft = λ t. left_at (t.due - le4 d 2) t in
    let z : 0 ≡ 0 - le4 d 2 = omega arith in
    ap (λ (l : List TimerLeft). get_or l k no_timer) (upright_shown (le4 d 2) (le4 d 6) (records_in n d) u)
    ∙ ap (λ (x : ℕ). get_or (map f (records_in n d)) k (timer 0 0 x 0)) z
    ∙ get_or-map f (records_in n d) k no_entry
    ∙ ap f (record_at_lem n k d h)
