-- The laws of `at` and `put`: items counted from 1, and a list with another item of one number.
use Rattle.ledger.specs.Good.{Numbered}
use Prim.Native.Nat.{ℕ, zero, suc, ◌<◌}
use Rattle.std.specs.Prelude.{◌≡◌, List, [], ◌∷◌, map, length, get_or, set}
use Rattle.std.proofs.Math.Path.{refl, sym, ap}
use Rattle.std.proofs.Common.{◌∙◌, arith}
use Rattle.std.proofs.Math.ListN.{length-set, get_or-map}
use Rattle.std.proofs.Math.Seq.{get_or-set_same, get_or-set_other, set-set, set-get_or}
use Rattle.ledger.specs.Lists.{at, put}

module _ {A : Type 0} where
  pub put_length : (xs : List A) (n : ℕ) (v : A) → length (put xs n v) ≡ length xs
  unfolding put
  put_length xs zero v = refl
  put_length xs (suc n) v = length-set xs n v

  pub at_put_same : (xs : List A) (n : ℕ) (v d : A) → Numbered (length xs) n → at (put xs n v) n d ≡ v
  unfolding at put
  at_put_same xs zero v d h = absurd (omega arith)
  at_put_same xs (suc n) v d h = get_or-set_same xs n v d (omega arith)

  pub at_put_other : (xs : List A) (n m : ℕ) (v d : A) → (m ≡ n → ⊥) → at (put xs n v) m d ≡ at xs m d
  unfolding at put
  at_put_other xs n zero v d h = refl
  at_put_other xs zero (suc m) v d h = refl
  at_put_other xs (suc n) (suc m) v d h = get_or-set_other xs n m v d (λ e. h (ap suc e))

  pub put_put : (xs : List A) (n : ℕ) (v w : A) → put (put xs n v) n w ≡ put xs n w
  unfolding put
  put_put xs zero v w = refl
  put_put xs (suc n) v w = set-set xs n v w

  -- in its place lies the new item, or the place is none
  set_here : (P : A → Type 0) (xs : List A) (n : ℕ) (v d : A) → P v → P d → P (get_or (set xs n v) n d)
  set_here P [] n v d p q = q
  set_here P (x ∷ xs) zero v d p q = p
  set_here P (x ∷ xs) (suc n) v d p q = set_here P xs n v d p q

  pub put_here : (P : A → Type 0) (xs : List A) (n : ℕ) (v d : A) → P v → P d → P (at (put xs n v) n d)
  unfolding at put
  put_here P xs zero v d p q = q
  put_here P xs (suc n) v d p q = set_here P xs n v d p q

  -- an item put in its own place
  pub put_at : (xs : List A) (n : ℕ) (d : A) → put xs n (at xs n d) ≡ xs
  unfolding at put
  put_at xs zero d = refl
  put_at xs (suc n) d = set-get_or xs n d

  -- to change one item by f and to set one to what f leaves as it is are two changes whose order is free
  set_fixed : (f : A → A) (xs : List A) (n m : ℕ) (v d : A) → f v ≡ v → set (set xs n v) m (f (get_or (set xs n v) m d)) ≡ set (set xs m (f (get_or xs m d))) n v
  set_fixed f [] n m v d e = refl
  set_fixed f (x ∷ xs) zero zero v d e = ap (λ y. y ∷ xs) e
  set_fixed f (x ∷ xs) zero (suc m) v d e = refl
  set_fixed f (x ∷ xs) (suc n) zero v d e = refl
  set_fixed f (x ∷ xs) (suc n) (suc m) v d e = ap (λ ys. x ∷ ys) (set_fixed f xs n m v d e)

  pub put_fixed : (f : A → A) (xs : List A) (n m : ℕ) (v d : A) → f v ≡ v → put (put xs n v) m (f (at (put xs n v) m d)) ≡ put (put xs m (f (at xs m d))) n v
  unfolding at put
  put_fixed f xs zero m v d e = refl
  put_fixed f xs (suc n) zero v d e = refl
  put_fixed f xs (suc n) (suc m) v d e = set_fixed f xs n m v d e

  -- what holds of every item by its number still does if it holds of the new one
  get_d_set_each : (P : ℕ → A → Type 0) (xs : List A) (n : ℕ) (v d : A) → ((m : ℕ) → P m (get_or xs m d)) → P n v → (m : ℕ) → P m (get_or (set xs n v) m d)
  get_d_set_each P [] n v d h p m = h m
  get_d_set_each P (x ∷ xs) zero v d h p zero = p
  get_d_set_each P (x ∷ xs) zero v d h p (suc m) = h (suc m)
  get_d_set_each P (x ∷ xs) (suc n) v d h p zero = h zero
  get_d_set_each P (x ∷ xs) (suc n) v d h p (suc m) = get_d_set_each (λ i. P (suc i)) xs n v d (λ i. h (suc i)) p m

  pub at_put_each : (P : ℕ → A → Type 0) (xs : List A) (n : ℕ) (v d : A) → ((m : ℕ) → P m (at xs m d)) → P n v → (m : ℕ) → P m (at (put xs n v) m d)
  unfolding at put
  at_put_each P xs zero v d h p m = h m
  at_put_each P xs (suc n) v d h p zero = h zero
  at_put_each P xs (suc n) v d h p (suc m) = get_d_set_each (λ i. P (suc i)) xs n v d (λ i. h (suc i)) p m

  -- a part of an item that the new item has too is everywhere as before
  pub at_put_part : {B : Type 0} (f : A → B) (xs : List A) (n m : ℕ) (v d : A) → f v ≡ f (at xs n d) → f (at (put xs n v) m d) ≡ f (at xs m d)
  at_put_part f xs n m v d e = at_put_each (λ i x. f x ≡ f (at xs i d)) xs n v d (λ i. refl) e m

  -- an item that is not the default is there
  get_d_there : (xs : List A) (n : ℕ) (d : A) → (get_or xs n d ≡ d → ⊥) → n < length xs
  get_d_there [] n d h = absurd (h refl)
  get_d_there (x ∷ xs) zero d h = omega arith
  get_d_there (x ∷ xs) (suc n) d h = omega (arith, get_d_there xs n d h)

  pub at_there : (xs : List A) (n : ℕ) (d : A) → (at xs n d ≡ d → ⊥) → Numbered (length xs) n
  unfolding at
  at_there xs zero d h = absurd (h refl)
  at_there xs (suc n) d h = record { from = omega arith; upto = get_d_there xs n d h }

  pub at_map : (f : A → A) (xs : List A) (n : ℕ) (d : A) → f d ≡ d → at (map f xs) n d ≡ f (at xs n d)
  unfolding at
  at_map f xs zero d e = sym e
  at_map f xs (suc n) d e = ap (get_or (map f xs) n) (sym e) ∙ get_or-map f xs n d
