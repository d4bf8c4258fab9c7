-- A list that a loop writes from the front: the first items of the result, and behind them what was there.
use Prim.Native.Nat.{ℕ, suc, ◌+◌, ◌<◌, ◌≤◌}
use mathlib.Core.Path.{◌≡◌, sym, ◌∙◌, ap}
use mathlib.Core.List.{List, ◌++◌}
use native.Mathlib.Numerals.{add-one}
use native.Mathlib.Omega.{arith}
use lib.ListN.{length, get_or, take, drop, set}
use lib.Seq.{length-take-le, take_all, take-suc, drop-cons, set_at, append_snoc}

abbrev pub front : List ℕ → List ℕ → ℕ → List ℕ
front before result i = take i result ++ drop i before

module _ (before result : List ℕ) (i : ℕ) where
  front_more : i < length before → i < length result → set (front before result i) i (get_or result i 0) ≡ front before result (i + 1)
  front_more b r =
      rw (add-one, drop-cons before i 0 b, take-suc result i 0 r)
      (set_at (take i result) (get_or before i 0) (drop (suc i) before) (get_or result i 0) i (length-take-le i result (omega arith))
      ∙ sym (append_snoc (take i result) (get_or result i 0) (drop (suc i) before)))

  front_all : length result ≤ i → front before result i ≡ result ++ drop i before
  front_all h = rw (take_all i result h)

-- a turn that writes the next item
pub front_turn : (before result now : List ℕ) (i v : ℕ) → now ≡ front before result i → v ≡ get_or result i 0 → i < length before → i < length result
    → set now i v ≡ front before result (i + 1)
front_turn before result now i v e f b r = rw (e, f) (front_more before result i b r)

-- the whole result is written
pub front_end : (before result now : List ℕ) (i k : ℕ) → now ≡ front before result i → length result ≤ i → i ≡ k → now ≡ result ++ drop k before
front_end before result now i k e h n = e ∙ front_all before result i h ∙ ap (λ (j : ℕ). result ++ drop j before) n
