-- The ways out of the checks of a frame's length and of a pair.
use Rattle.std.specs.Prelude.{◌≡◌, Bool, true, false, not, ◌&&◌, List, ℕ, zero, suc, ◌-◌, ◌*◌, ◌%◌, ◌<◌, ◌≤◌, leb, get_or}
use Rattle.std.proofs.Math.Path.{sym}
use Rattle.std.proofs.Common.{◌∙◌, arith}
use Rattle.std.proofs.Math.Bool.{and-true, and-false}
use Rattle.std.proofs.Math.Dec.{eqb}
use Rattle.std.proofs.Math.ListN.{length}
use borrow.Author.Tests.{le-leb, lt-leb, lt-ltb, leb-true, ltb-true, eq-eqb, ne_eqb}
use Rattle.tables.specs.Encoded.{case}
use Rattle.ledger.specs.Lists.{at}
use Rattle.ledger.specs.Config.{most_pairs, good_length, good_pair}
use Rattle.ledger.proofs.Theorems.Checks.{and_left, and_right}

-- ---- a length, with m bytes in front of the pairs
module _ (m n : ℕ) where
  pub too_short : n < m → false ≡ good_length m n
  unfolding good_length
  too_short h = sym (rw (lt-leb m n h))

  pub too_long : 2 * most_pairs < n - m → false ≡ good_length m n
  unfolding good_length
  too_long h = sym (rw (lt-leb (n - m) (2 * most_pairs) h) (and-false (leb m n && eqb ((n - m) % 2) 0)))

  pub by_evenness : m ≤ n → n - m ≤ 2 * most_pairs → eqb ((n - m) % 2) 0 ≡ good_length m n
  unfolding good_length
  by_evenness h k = sym (rw (le-leb m n h, le-leb (n - m) (2 * most_pairs) k) (and-true (eqb ((n - m) % 2) 0)))

-- ---- a pair
pub record Paired (states : List ℕ) (a b : ℕ) : Type 0 where
  pub some : 1 ≤ a
  pub lower : a < b
  pub upto : b ≤ length states

-- the item of a number from 1 on
at_number : (l : List ℕ) (n : ℕ) → 1 ≤ n → at l n 0 ≡ get_or l (n - 1) 0
unfolding at
at_number l zero h = absurd (omega arith)
at_number l (suc n) h = let e : suc n - 1 ≡ n = omega arith in rw e

module _ (states : List ℕ) (a b : ℕ) where
  abbrev good : Bool
  good = good_pair (length states) states (record { first = a; then = b })

  says : good ≡ true → Paired states a b
  unfolding good_pair
  says e =
      record {
        some = leb-true 1 a (search (and_left, and_right) depth 9);
        lower = ltb-true a b (search (and_left, and_right) depth 9);
        upto = leb-true b (length states) (search (and_left, and_right) depth 9);
      }

  pub no_pair : (Paired states a b → ⊥) → false ≡ good
  no_pair n = case good (λ e. absurd (n (says e))) (λ e. sym e)

  module _ (p : Paired states a b) where
    by_states : good ≡ not (eqb (at states a 0) 1 && eqb (at states b 0) 0)
    unfolding good_pair
    by_states =
        let n = length states in
        let x : a ≤ n = omega (arith, p.lower, p.upto) in
        let y : 1 ≤ b = omega (arith, p.lower) in
        rw (le-leb 1 a p.some, le-leb a n x, le-leb 1 b y, le-leb b n p.upto, lt-ltb a b p.lower)

    -- the first begins runnable
    pub first_runs : (get_or states (a - 1) 0 ≡ 1 → ⊥) → true ≡ good
    first_runs n = sym (by_states ∙ rw (ne_eqb (at states a 0) 1 (λ e. n (sym (at_number states a p.some) ∙ e))))

    -- it begins idle, so the other has to
    pub first_idle : get_or states (a - 1) 0 ≡ 1 → not (eqb (get_or states (b - 1) 0) 0) ≡ good
    first_idle e =
        let x : at states a 0 ≡ 1 = at_number states a p.some ∙ e in
        sym (by_states ∙ rw (eq-eqb (at states a 0) 1 x, at_number states b (omega (arith, p.some, p.lower))))
