-- Laws of bytes taken two by two: how many items, which, the first of them; and a walk over them.
use Prim.Native.Nat.{ℕ, zero, suc, ◌+◌, ◌*◌, ◌<◌, ◌≤◌}
use Rattle.std.specs.Prelude.{◌≡◌, Bool, true, false, length, get_or, take, drop}
use Rattle.std.proofs.Math.Path.{refl, ap}
use Rattle.std.proofs.Common.{◌∙◌, length-drop, drop-cons}
use mathlib.Core.List.{List, [], ◌∷◌}
use native.Mathlib.Omega.{arith}
use Rattle.ledger.specs.Lists.{any, all}
use Rattle.ledger.specs.Config.{twos}

-- two bytes more
pub two_next : (k : ℕ) (l : List ℕ) → 2 * k + 1 < length l → drop (2 * k) l ≡ get_or l (2 * k) 0 ∷ get_or l (2 * k + 1) 0 ∷ drop (2 * (k + 1)) l
two_next k l h =
    let e : suc (2 * k) ≡ 2 * k + 1 = omega arith in
    let f : suc (2 * k + 1) ≡ 2 * (k + 1) = omega arith in
    drop-cons l (2 * k) 0 (omega arith) ∙ ap (λ (n : ℕ). get_or l (2 * k) 0 ∷ drop n l) e
    ∙ ap (λ (r : List ℕ). get_or l (2 * k) 0 ∷ r) (drop-cons l (2 * k + 1) 0 h ∙ ap (λ (n : ℕ). get_or l (2 * k + 1) 0 ∷ drop n l) f)

module _ {A : Type 0} (item : ℕ → ℕ → A) where
  -- a last byte without another is no item
  pub twos_length : (l : List ℕ) (n : ℕ) → 2 * n ≤ length l → length l < 2 * n + 2 → length (twos item l) ≡ n
  unfolding twos
  twos_length [] n lo hi = omega arith
  twos_length (x ∷ []) n lo hi = omega arith
  twos_length (x ∷ y ∷ l) zero lo hi = absurd (omega arith)
  twos_length (x ∷ y ∷ l) (suc n) lo hi = omega (arith, twos_length l n (omega arith) (omega arith))

  pub twos_at : (i : ℕ) (l : List ℕ) (d : A) → 2 * i + 1 < length l → get_or (twos item l) i d ≡ item (get_or l (2 * i) 0) (get_or l (2 * i + 1) 0)
  unfolding twos
  twos_at i [] d h = absurd (omega arith)
  twos_at i (x ∷ []) d h = absurd (omega arith)
  twos_at zero (x ∷ y ∷ l) d h = refl
  twos_at (suc i) (x ∷ y ∷ l) d h =
      let e : 2 * suc i ≡ suc (suc (2 * i)) = omega arith in
      let f : 2 * suc i + 1 ≡ suc (suc (2 * i + 1)) = omega arith in
      rw (f, e) (twos_at i l d (omega arith))

  pub twos_take : (i : ℕ) (l : List ℕ) → twos item (take (2 * i) l) ≡ take i (twos item l)
  unfolding twos
  twos_take zero l = refl
  twos_take (suc i) [] = let e : 2 * suc i ≡ suc (suc (2 * i)) = omega arith in rw e
  twos_take (suc i) (x ∷ []) = let e : 2 * suc i ≡ suc (suc (2 * i)) = omega arith in rw e
  twos_take (suc i) (x ∷ y ∷ l) = let e : 2 * suc i ≡ suc (suc (2 * i)) = omega arith in rw e (ap (λ (r : List A). item x y ∷ r) (twos_take i l))

  -- ---- a test of each item, from item k on

  twos_end : (l : List ℕ) → length l < 2 → twos item l ≡ []
  unfolding twos
  twos_end [] h = refl
  twos_end (x ∷ []) h = refl
  twos_end (x ∷ y ∷ l) h = absurd (omega arith)

  module _ (p : A → Bool) (k : ℕ) (l : List ℕ) where
    abbrev now : A
    now = item (get_or l (2 * k) 0) (get_or l (2 * k + 1) 0)

    module _ (h : 2 * k + 1 < length l) where
      pub all_next : p now ≡ true → all p (twos item (drop (2 * k) l)) ≡ all p (twos item (drop (2 * (k + 1)) l))
      unfolding all twos
      all_next e = ap (λ (r : List ℕ). all p (twos item r)) (two_next k l h) ∙ rw e

      pub all_not : p now ≡ false → all p (twos item (drop (2 * k) l)) ≡ false
      unfolding all twos
      all_not e = ap (λ (r : List ℕ). all p (twos item r)) (two_next k l h) ∙ rw e

      pub any_next : p now ≡ false → any p (twos item (drop (2 * k) l)) ≡ any p (twos item (drop (2 * (k + 1)) l))
      unfolding any twos
      any_next e = ap (λ (r : List ℕ). any p (twos item r)) (two_next k l h) ∙ rw e

      pub any_found : p now ≡ true → any p (twos item (drop (2 * k) l)) ≡ true
      unfolding any twos
      any_found e = ap (λ (r : List ℕ). any p (twos item r)) (two_next k l h) ∙ rw e

    module _ (h : length l < 2 * k + 2) where
      over : twos item (drop (2 * k) l) ≡ []
      over = twos_end (drop (2 * k) l) (simp length-drop (omega arith))

      pub all_over : all p (twos item (drop (2 * k) l)) ≡ true
      unfolding all
      all_over = ap (all p) over

      pub any_over : any p (twos item (drop (2 * k) l)) ≡ false
      unfolding any
      any_over = ap (any p) over
