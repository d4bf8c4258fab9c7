-- Lists of records: what holds of every item, a list with items left out, and a list ordered by a key. `insert_by` keeps the order, and so does leaving out.
use Prim.Native.Nat.{ℕ, zero, suc, ◌+◌, ◌<◌, ◌≤◌}
use Rattle.std.specs.Prelude.{◌≡◌, Bool, cond, get_or, drop}
use Rattle.std.proofs.Math.Path.{refl}
use Rattle.std.proofs.Math.Bool.{true, false, not}
use mathlib.Core.List.{List, [], ◌∷◌, ◌++◌, map}
use Rattle.std.proofs.Math.Nat.{le_trans}
use native.Mathlib.Omega.{arith}
use Rattle.std.proofs.Common.{ltb-true, ltb-false}
use Rattle.std.proofs.Math.Dec.{ltb}
use Rattle.std.proofs.Math.ListN.{length}
use Rattle.ledger.specs.Lists.{keep, without, insert_by}

module _ {A : Type 0} where
  pub data Every (P : A → Type 0) : List A → Type 0 where
    nil : Every P []
    cons : {x : A} {xs : List A} → P x → Every P xs → Every P (x ∷ xs)

  pub every_at : {P : A → Type 0} {l : List A} → Every P l → (k : ℕ) (v : A) → k < length l → P (get_or l k v)
  every_at nil k v h = absurd (omega arith)
  every_at (cons p ps) zero v h = p
  every_at (cons p ps) (suc k) v h = every_at ps k v (omega arith)

  -- the first list is the second with items left out
  pub data Part : List A → List A → Type 0 where
    nil : Part [] []
    skip : {y : A} {xs ys : List A} → Part xs ys → Part xs (y ∷ ys)
    both : {y : A} {xs ys : List A} → Part xs ys → Part (y ∷ xs) (y ∷ ys)

  pub data Ordered (key : A → ℕ) : List A → Type 0 where
    nil : Ordered key []
    cons : {x : A} {xs : List A} → Every (λ y. key x ≤ key y) xs → Ordered key xs → Ordered key (x ∷ xs)

  -- ---- leaving out

  pub part_nil : (xs : List A) → Part [] xs
  part_nil [] = nil
  part_nil (x ∷ xs) = skip (part_nil xs)

  part_all : (xs : List A) → Part xs xs
  part_all [] = nil
  part_all (x ∷ xs) = both (part_all xs)

  pub part_keep : (p : A → Bool) (xs : List A) → Part (keep p xs) xs
  unfolding keep
  part_keep p [] = nil
  part_keep p (x ∷ xs) = go (p x) (part_keep p xs)
    where
      go : (b : Bool) → Part (keep p xs) xs → Part (cond b (x ∷ keep p xs) (keep p xs)) (x ∷ xs)
      go true h = both h
      go false h = skip h

  pub part_without : (p : A → Bool) (xs : List A) → Part (without p xs) xs
  unfolding without
  part_without p [] = nil
  part_without p (x ∷ xs) = go (p x) (part_without p xs)
    where
      go : (b : Bool) → Part (without p xs) xs → Part (cond b xs (x ∷ without p xs)) (x ∷ xs)
      go true h = skip (part_all xs)
      go false h = both h

  pub part_drop : (n : ℕ) (xs : List A) → Part (drop n xs) xs
  part_drop zero xs = part_all xs
  part_drop (suc n) [] = nil
  part_drop (suc n) (x ∷ xs) = skip (part_drop n xs)

  pub part_length : {xs ys : List A} → Part xs ys → length xs ≤ length ys
  part_length nil = omega arith
  part_length (skip h) = omega (arith, part_length h)
  part_length (both h) = omega (arith, part_length h)

  -- ---- every item

  pub every_to : {P Q : A → Type 0} {xs : List A} → ((x : A) → P x → Q x) → Every P xs → Every Q xs
  every_to f nil = nil
  every_to f (cons {x = x} p h) = cons (f x p) (every_to f h)

  pub every_both : {P Q R : A → Type 0} {xs : List A} → ((x : A) → P x → Q x → R x) → Every P xs → Every Q xs → Every R xs
  every_both f nil nil = nil
  every_both f (cons {x = x} p h) (cons q k) = cons (f x p q) (every_both f h k)

  pub every_part : {P : A → Type 0} {xs ys : List A} → Part xs ys → Every P ys → Every P xs
  every_part nil h = h
  every_part (skip k) (cons p h) = every_part k h
  every_part (both k) (cons p h) = cons p (every_part k h)

  pub every_first : {P : A → Type 0} {x : A} {xs : List A} → Every P (x ∷ xs) → P x
  every_first (cons p h) = p

  pub every_append : {P : A → Type 0} {xs ys : List A} → Every P xs → Every P ys → Every P (xs ++ ys)
  every_append nil k = k
  every_append (cons p h) k = cons p (every_append h k)

  pub every_insert : {P : A → Type 0} (key : A → ℕ) (x : A) (ys : List A) → P x → Every P ys → Every P (insert_by key x ys)
  unfolding insert_by
  every_insert key x [] p nil = cons p nil
  every_insert {P} key x (y ∷ ys) p (cons q h) = go (ltb (key x) (key y)) (every_insert key x ys p h)
    where
      go : (b : Bool) → Every P (insert_by key x ys) → Every P (cond b (x ∷ y ∷ ys) (y ∷ insert_by key x ys))
      go true k = cons p (cons q h)
      go false k = cons q k

  -- ---- the order

  pub ordered_part : {key : A → ℕ} {xs ys : List A} → Part xs ys → Ordered key ys → Ordered key xs
  ordered_part nil h = h
  ordered_part (skip k) (cons e h) = ordered_part k h
  ordered_part (both k) (cons e h) = cons (every_part k e) (ordered_part k h)

  pub ordered_insert : (key : A → ℕ) (x : A) (ys : List A) → Ordered key ys → Ordered key (insert_by key x ys)
  unfolding insert_by
  ordered_insert key x [] nil = cons nil nil
  ordered_insert key x (y ∷ ys) (cons e h) = go (ltb (key x) (key y)) refl (ordered_insert key x ys h)
    where
      go : (b : Bool) → ltb (key x) (key y) ≡ b → Ordered key (insert_by key x ys) → Ordered key (cond b (x ∷ y ∷ ys) (y ∷ insert_by key x ys))
      go true t k = let le : key x ≤ key y = omega (arith, ltb-true) in cons (cons le (every_to (λ z q. le_trans le q) e)) (cons e h)
      go false t k = cons (every_insert key x ys (ltb-false (key x) (key y) t) e) k

  pub insert_length : (key : A → ℕ) (x : A) (ys : List A) → length (insert_by key x ys) ≡ suc (length ys)
  unfolding insert_by
  insert_length key x [] = refl
  insert_length key x (y ∷ ys) = go (ltb (key x) (key y)) (insert_length key x ys)
    where
      go : (b : Bool) → length (insert_by key x ys) ≡ suc (length ys) → length (cond b (x ∷ y ∷ ys) (y ∷ insert_by key x ys)) ≡ suc (suc (length ys))
      go true k = refl
      go false k = omega arith

  -- ---- a test and its opposite

  pub keep_passes : (p : A → Bool) (xs : List A) → Every (λ x. p x ≡ true) (keep p xs)
  unfolding keep
  keep_passes p [] = nil
  keep_passes p (x ∷ xs) = go (p x) refl (keep_passes p xs)
    where
      go : (b : Bool) → p x ≡ b → Every (λ x. p x ≡ true) (keep p xs) → Every (λ x. p x ≡ true) (cond b (x ∷ keep p xs) (keep p xs))
      go true e h = cons e h
      go false e h = h

  pub keep_lengths : (p : A → Bool) (xs : List A) → length (keep p xs) + length (keep (λ x. not (p x)) xs) ≡ length xs
  unfolding keep
  keep_lengths p [] = refl
  keep_lengths p (x ∷ xs) = go (p x) (keep_lengths p xs)
    where
      go : (b : Bool) → length (keep p xs) + length (keep (λ x. not (p x)) xs) ≡ length xs
          → length (cond b (x ∷ keep p xs) (keep p xs)) + length (cond (not b) (x ∷ keep (λ x. not (p x)) xs) (keep (λ x. not (p x)) xs)) ≡ suc (length xs)
      go true h = omega arith
      go false h = omega arith

pub every_map : {A B : Type 0} {P : B → Type 0} (f : A → B) {xs : List A} → Every (λ x. P (f x)) xs → Every P (map f xs)
every_map f nil = nil
every_map f (cons p h) = cons p (every_map f h)

pub every_unmap : {A B : Type 0} {P : B → Type 0} (f : A → B) (xs : List A) → Every P (map f xs) → Every (λ x. P (f x)) xs
every_unmap f [] nil = nil
every_unmap f (x ∷ xs) (cons p h) = cons p (every_unmap f xs h)
