-- A row's bytes: what four bytes and ten bytes are as numbers and as a record.
use Rattle.std.specs.Prelude.{◌≡◌, List, ℕ, suc, ◌+◌, ◌*◌, ◌^◌, ◌<◌, length, get_or, take, set}
use Rattle.std.proofs.Common.{sym, ap, ◌∙◌, arith, get_or-take}
use Rattle.ledger.specs.Ledger.{Timer}
use Rattle.rows.specs.Splice.{splice}
use Rattle.rows.specs.Rows.{row_at, get_d_row, drop_elems, elems}
use Rattle.rows.specs.Four.{le4, bytes4, four_back}
use Rattle.timers.specs.Timers.{row_of, entry, entry_of, record_at, due_at}

-- ---- one row

-- row 0 is the clock
abbrev pub clock_at : List ℕ → Timer
clock_at d = entry (get_or d 0 0) (get_or d 1 0) (le4 d 2) (le4 d 6)

pub clock_at_lem : (d : List ℕ) → entry_of (take 10 d) ≡ clock_at d
unfolding entry_of
clock_at_lem d =
    let g : (i : ℕ) → i < 10 → get_or (take 10 d) i 0 ≡ get_or d i 0 = λ i h. get_or-take 10 d i 0 h in
    rw (
      g 0 (omega arith),
      g 1 (omega arith),
      g 2 (omega arith),
      g 3 (omega arith),
      g 4 (omega arith),
      g 5 (omega arith),
      g 6 (omega arith),
      g 7 (omega arith),
      g 8 (omega arith),
      g 9 (omega arith),
    )

-- row k + 1 is record k
pub row_at_lem : (d : List ℕ) (k : ℕ) → entry_of (row_at 10 (suc k) d) ≡ record_at d k
unfolding entry_of
row_at_lem d k =
    let g : (i j : ℕ) → i < 10 → j ≡ suc k * 10 + i → get_or (row_at 10 (suc k) d) i 0 ≡ get_or d j 0 =
    λ i j h e. get_d_row 10 (suc k) i d h ∙ ap (λ (m : ℕ). get_or d m 0) (sym e) in
    rw (
      g 0 (k * 10 + 10) (omega arith) (omega arith),
      g 1 (k * 10 + 11) (omega arith) (omega arith),
      g 2 (k * 10 + 12) (omega arith) (omega arith),
      g 3 (k * 10 + 12 + 1) (omega arith) (omega arith),
      g 4 (k * 10 + 12 + 2) (omega arith) (omega arith),
      g 5 (k * 10 + 12 + 3) (omega arith) (omega arith),
      g 6 (k * 10 + 16) (omega arith) (omega arith),
      g 7 (k * 10 + 16 + 1) (omega arith) (omega arith),
      g 8 (k * 10 + 16 + 2) (omega arith) (omega arith),
      g 9 (k * 10 + 16 + 3) (omega arith) (omega arith),
    )

-- ten bytes with another number in them
pub row_due : (r : List ℕ) (y : ℕ) → length r ≡ 10 → y < 2 ^ 32 → entry_of (splice r 2 (bytes4 y)) ≡ due_at y (entry_of r)
unfolding entry_of
row_due r y h k =
    let e : r ≡ elems 10 0 r = drop_elems 10 0 r h in
    ap (λ (z : List ℕ). entry_of (splice z 2 (bytes4 y))) e ∙ ap (λ (z : ℕ). entry (get_or r 0 0) (get_or r 1 0) z (le4 r 6)) (four_back y k)

pub row_period : (r : List ℕ) (y : ℕ) → length r ≡ 10 → y < 2 ^ 32 → entry_of (splice r 6 (bytes4 y)) ≡ entry (entry_of r).task (entry_of r).semaphore (entry_of r).due y
unfolding entry_of
row_period r y h k =
    let e : r ≡ elems 10 0 r = drop_elems 10 0 r h in
    ap (λ (z : List ℕ). entry_of (splice z 6 (bytes4 y))) e ∙ ap (λ (z : ℕ). entry (get_or r 0 0) (get_or r 1 0) (le4 r 2) z) (four_back y k)

-- what the stores of `row_of` leave
pub row_made : (t s x p : ℕ) (r r₁ r₂ : List ℕ) → length r ≡ 10 → r₁ ≡ splice (set (set r 0 t) 1 s) 2 (bytes4 x) → r₂ ≡ splice r₁ 6 (bytes4 p) → r₂ ≡ row_of t s x p
row_made t s x p r r₁ r₂ h e f =
    f
    ∙ ap (λ (z : List ℕ). splice z 6 (bytes4 p)) e
    ∙ ap (λ (z : List ℕ). splice (splice (set (set z 0 t) 1 s) 2 (bytes4 x)) 6 (bytes4 p)) (drop_elems 10 0 r h)

pub row_entry : (t s x p : ℕ) → x < 2 ^ 32 → p < 2 ^ 32 → entry_of (row_of t s x p) ≡ entry t s x p
unfolding entry_of
row_entry t s x p hx hp = ap (λ (z : ℕ). entry t s z (le4 (bytes4 p) 0)) (four_back x hx) ∙ ap (entry t s x) (four_back p hp)
