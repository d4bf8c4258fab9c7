-- A list tabulated by a function of the place, and the items numbered from 1 that it holds.
use Rattle.std.specs.Prelude.{◌≡◌, length, get_or, set}
use Rattle.std.proofs.Math.Path.{refl, ap, ap₂}
use mathlib.Core.List.{List, [], ◌∷◌, map}
use Prim.Native.Nat.{ℕ, zero, suc, ◌-◌, ◌<◌, ◌≤◌}
use Rattle.std.proofs.Common.{not-suc-le-zero, le_of_suc-le-suc}
use native.Mathlib.Omega.{arith}
use Rattle.std.proofs.Math.ListN.{get_or-map}
use Rattle.ledger.specs.Lists.{at, put}
use Rattle.rows.specs.Rows.{map_set}

unfoldable pub tab : {A : Type 0} → ℕ → (ℕ → A) → List A
tab zero f = []
tab (suc n) f = f zero ∷ tab n (λ i. f (suc i))

module _ {A : Type 0} where
  pub tab_ext : (n : ℕ) (f g : ℕ → A) → ((j : ℕ) → j < n → f j ≡ g j) → tab n f ≡ tab n g
  unfolding tab
  tab_ext zero f g h = refl
  tab_ext (suc n) f g h = ap₂ ◌∷◌ (h zero (omega arith)) (tab_ext n (λ i. f (suc i)) (λ i. g (suc i)) (λ j l. h (suc j) (omega arith)))

  pub tab_get : (n k : ℕ) (f : ℕ → A) (z : A) → k < n → get_or (tab n f) k z ≡ f k
  unfolding tab
  tab_get zero k f z h = absurd (not-suc-le-zero h)
  tab_get (suc n) zero f z h = refl
  tab_get (suc n) (suc k) f z h = tab_get n k (λ i. f (suc i)) z (le_of_suc-le-suc h)

  pub tab_length : (n : ℕ) (f : ℕ → A) → length (tab n f) ≡ n
  unfolding tab
  tab_length zero f = refl
  tab_length (suc n) f = ap suc (tab_length n (λ i. f (suc i)))

  -- one place is new
  pub tab_set : (n k : ℕ) (f g : ℕ → A) (v : A) → ((j : ℕ) → j < n → (j ≡ k → ⊥) → f j ≡ g j) → (k < n → v ≡ g k) → set (tab n f) k v ≡ tab n g
  unfolding tab
  tab_set zero k f g v h e = refl
  tab_set (suc n) zero f g v h e =
      ap₂ ◌∷◌ (e (omega arith)) (tab_ext n (λ i. f (suc i)) (λ i. g (suc i)) (λ j l. h (suc j) (omega arith) (λ q. omega arith)))
  tab_set (suc n) (suc k) f g v h e =
      ap₂ ◌∷◌ (h zero (omega arith) (λ q. omega arith))
      (tab_set n k (λ i. f (suc i)) (λ i. g (suc i)) v (λ j l q. h (suc j) (omega arith) (λ w. q (omega arith))) (λ l. e (omega arith)))

  -- item n lies at place n - 1
  pub tab_at : (n k : ℕ) (f : ℕ → A) (z : A) → 1 ≤ k → k ≤ n → at (tab n f) k z ≡ f (k - 1)
  unfolding at
  tab_at n zero f z l h = absurd (not-suc-le-zero l)
  tab_at n (suc k) f z l h = let e : suc k - 1 ≡ k = omega arith in rw e (tab_get n k f z (omega arith))

  pub tab_put : (n k : ℕ) (f g : ℕ → A) (v : A) → 1 ≤ k → ((j : ℕ) → j < n → (j ≡ k - 1 → ⊥) → f j ≡ g j) → (k ≤ n → v ≡ g (k - 1)) → put (tab n f) k v ≡ tab n g
  unfolding put
  tab_put n zero f g v l h e = absurd (not-suc-le-zero l)
  tab_put n (suc k) f g v l h e =
      let m : suc k - 1 ≡ k = omega arith in
      tab_set n k f g v (λ j b ne. h j b (λ q. ne (omega arith))) (λ q. rw m at (e (omega arith)))

-- a list is the table of what stands at its places
pub tab_of : {A : Type 0} (l : List A) (n : ℕ) (z : A) → length l ≡ n → l ≡ tab n (λ i. get_or l i z)
unfolding tab
tab_of [] zero z h = refl
tab_of [] (suc n) z h = absurd (omega arith)
tab_of (x ∷ xs) zero z h = absurd (omega arith)
tab_of (x ∷ xs) (suc n) z h = ap₂ ◌∷◌ refl (tab_of xs n z (omega arith))

pub map_tab : {A B : Type 0} (g : A → B) (n : ℕ) (f : ℕ → A) → map g (tab n f) ≡ tab n (λ i. g (f i))
unfolding tab
map_tab {B = B} g zero f = refl
map_tab {B = B} g (suc n) f = ap₂ ◌∷◌ refl (map_tab g n (λ i. f (suc i)))

-- ---- numbered items, mapped, and one of them new
module _ {A B : Type 0} (f : A → B) where
  get_d_of_map : (l : List A) (n : ℕ) (z : A) → get_or (map f l) n (f z) ≡ f (get_or l n z)
  get_d_of_map l n z = get_or-map f l n z

  pub at_map : (l : List A) (n : ℕ) (z : A) → at (map f l) n (f z) ≡ f (at l n z)
  unfolding at
  at_map l zero z = refl
  at_map l (suc n) z = get_d_of_map l n z

  pub map_put : (l : List A) (n : ℕ) (v : A) → map f (put l n v) ≡ put (map f l) n (f v)
  unfolding put
  map_put l zero v = refl
  map_put l (suc n) v = map_set f l n v

module _ {A : Type 0} (P : A → Type 0) where
  get_d_every : (l : List A) (n : ℕ) (v z : A) → P v → ((m : ℕ) → P (get_or l m z)) → (m : ℕ) → P (get_or (set l n v) m z)
  get_d_every [] n v z a h m = h m
  get_d_every (x ∷ xs) zero v z a h zero = a
  get_d_every (x ∷ xs) zero v z a h (suc m) = h (suc m)
  get_d_every (x ∷ xs) (suc n) v z a h zero = h zero
  get_d_every (x ∷ xs) (suc n) v z a h (suc m) = get_d_every xs n v z a (λ k. h (suc k)) m

  -- what holds of every item holds with a new one of which it holds
  pub at_every : (l : List A) (n : ℕ) (v z : A) → P v → ((m : ℕ) → P (at l m z)) → (m : ℕ) → P (at (put l n v) m z)
  unfolding at put
  at_every l zero v z a h m = h m
  at_every l (suc n) v z a h zero = h zero
  at_every l (suc n) v z a h (suc m) = get_d_every l n v z a (λ k. h (suc k)) m
