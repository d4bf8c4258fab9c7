-- Rounds of settling: after n of them the rest of the ledger's settling is what is left of its fuel.
use Rattle.std.specs.Prelude.{◌≡◌, true, false}
use Rattle.std.proofs.Math.Path.{refl, sym, ap}
use Rattle.std.proofs.Common.{◌∙◌, zero-add, add-one}
use Prim.Native.Nat.{ℕ, zero, suc, ◌+◌, ◌-◌, ◌≤◌}
use Rattle.std.proofs.Math.Nat.{add-zero}
use native.Mathlib.Omega.{arith}
use Rattle.ledger.specs.Config.{Config}
use Rattle.ledger.specs.Ledger.{Ledger}
use Rattle.ledger.specs.Session.{Settled, open_request, is_open, reissue, settle}

unfoldable pub rounds : ℕ → Config → Ledger → Ledger
rounds zero c L = L
rounds (suc n) c L = reissue c (rounds n c L)

abbrev pub bump : ℕ → Settled → Settled
bump n s = record { ledger = s.ledger; reissues = n + s.reissues }

abbrev pub Rest : Config → Ledger → ℕ → Type 0
Rest c L n = (k : ℕ) → settle (n + k) c L ≡ bump n (settle k c (rounds n c L))

pub rounds_one : (c : Config) (L : Ledger) (n : ℕ) → reissue c (rounds n c L) ≡ rounds (n + 1) c L
unfolding rounds
rounds_one c L n = rw (add-one n)

module _ (c : Config) (L : Ledger) where
  pub rest_start : Rest c L 0
  unfolding rounds
  rest_start k =
      ap (λ (j : ℕ). settle j c L) (zero-add k)
      ∙ λ i. record { ledger = (settle k c L).ledger; reissues = sym (zero-add (settle k c L).reissues) i }

  module _ (n : ℕ) (r : Rest c L n) where
    settle_open : (k : ℕ) (M : Ledger) → true ≡ is_open (open_request M) → settle (suc k) c M ≡ record { ledger = (settle k c (reissue c M)).ledger; reissues = suc (settle k c (reissue c M)).reissues }
    unfolding settle
    settle_open k M e = rw (sym e, settle)

    settle_closed : (k : ℕ) (M : Ledger) → false ≡ is_open (open_request M) → settle k c M ≡ record { ledger = M; reissues = 0 }
    unfolding settle
    settle_closed zero M e = refl
    settle_closed (suc k) M e = rw (sym e, settle)

    pub rest_next : true ≡ is_open (open_request (rounds n c L)) → Rest c L (n + 1)
    rest_next e k =
        let M : Ledger = rounds n c L in
        let N : Ledger = reissue c M in
        let tn : N ≡ rounds (n + 1) c L = rounds_one c L n in
        let p : n + 1 + k ≡ n + suc k = omega arith in
        let q : n + suc (settle k c N).reissues ≡ n + 1 + (settle k c N).reissues = omega arith in
        ap (λ (j : ℕ). settle j c L) p ∙ r (suc k) ∙ ap (bump n) (settle_open k M e)
        ∙ (λ i. record { ledger = (settle k c N).ledger; reissues = q i })
        ∙ ap (λ (x : Ledger). bump (n + 1) (settle k c x)) tn

    pub rest_stop : (m : ℕ) → n ≤ m → false ≡ is_open (open_request (rounds n c L)) → settle m c L ≡ record { ledger = rounds n c L; reissues = n }
    rest_stop m l e =
        let p : m ≡ n + (m - n) = omega arith in
        ap (λ (j : ℕ). settle j c L) p ∙ r (m - n) ∙ ap (bump n) (settle_closed (m - n) (rounds n c L) e)
        ∙ (λ i. record { ledger = rounds n c L; reissues = add-zero n i })

    pub rest_out : (m : ℕ) → n ≤ m → m ≤ n → settle m c L ≡ record { ledger = rounds n c L; reissues = n }
    unfolding settle
    rest_out m l g =
        let p : m ≡ n + 0 = omega arith in
        ap (λ (j : ℕ). settle j c L) p ∙ r 0
        ∙ (λ i. record { ledger = rounds n c L; reissues = add-zero n i })
