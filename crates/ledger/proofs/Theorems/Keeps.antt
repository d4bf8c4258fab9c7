-- The laws of `keep` and `any`, and of `insert_by`: under a map, tests one after the other, and an insertion that a test shows or does not.
use Rattle.std.specs.Prelude.{ℕ, ◌≡◌, Bool, ◌||◌, ltb}
use Rattle.std.proofs.Math.Path.{refl}
use Rattle.std.proofs.Common.{sym, ◌∙◌, ap}
use Rattle.std.proofs.Math.Bool.{true, false, cond}
use mathlib.Core.List.{List, [], ◌∷◌, map}
use Rattle.ledger.specs.Lists.{any, keep, without, insert_by}
use Rattle.ledger.proofs.Theorems.Checks.{never}

-- ---- under a map that keeps the test, or the order
module _ {A B : Type 0} (f : A → B) (p : A → Bool) (q : B → Bool) (same : (x : A) → p x ≡ q (f x)) where
  pub keep_map : (l : List A) → map f (keep p l) ≡ keep q (map f l)
  unfolding keep
  keep_map [] = refl
  keep_map (x ∷ xs) = go (p x) refl (keep_map xs)
    where
      go : (b : Bool) → p x ≡ b → map f (keep p xs) ≡ keep q (map f xs) → map f (keep p (x ∷ xs)) ≡ keep q (map f (x ∷ xs))
      go true e ih = rw (← same x, e) (ap (λ (r : List B). f x ∷ r) ih)
      go false e ih = rw (← same x, e) ih

  pub without_map : (l : List A) → map f (without p l) ≡ without q (map f l)
  unfolding without
  without_map [] = refl
  without_map (x ∷ xs) = go (p x) refl (without_map xs)
    where
      go : (b : Bool) → p x ≡ b → map f (without p xs) ≡ without q (map f xs) → map f (without p (x ∷ xs)) ≡ without q (map f (x ∷ xs))
      go true e ih = rw (← same x, e)
      go false e ih = rw (← same x, e) (ap (λ (r : List B). f x ∷ r) ih)

  pub any_map : (l : List A) → any p l ≡ any q (map f l)
  unfolding any
  any_map [] = refl
  any_map (x ∷ xs) = rw (same x, any_map xs)

pub insert_by_map : {A B : Type 0} (f : A → B) (key : A → ℕ) (key' : B → ℕ) (x : A) → ((y : A) → ltb (key x) (key y) ≡ ltb (key' (f x)) (key' (f y)))
    → (l : List A) → map f (insert_by key x l) ≡ insert_by key' (f x) (map f l)
unfolding insert_by
insert_by_map {B = B} f key key' x same [] = refl
insert_by_map {A} {B} f key key' x same (y ∷ ys) = go (ltb (key x) (key y)) refl (insert_by_map f key key' x same ys)
  where
    go : (b : Bool) → ltb (key x) (key y) ≡ b → map f (insert_by key x ys) ≡ insert_by key' (f x) (map f ys) → map f (insert_by key x (y ∷ ys)) ≡ insert_by key' (f x) (map f (y ∷ ys))
    go true e ih = rw (← same y, e)
    go false e ih = rw (← same y, e) (ap (λ (r : List B). f y ∷ r) ih)

-- ---- another test that says the same
pub keep_alike : {A : Type 0} {p q : A → Bool} → ((x : A) → p x ≡ q x) → (xs : List A) → keep p xs ≡ keep q xs
unfolding keep
keep_alike h [] = refl
keep_alike h (x ∷ xs) = rw (h x, keep_alike h xs)

module _ {A : Type 0} (p : A → Bool) where
  -- ---- whether one passes

  abbrev some_item : List A → Bool
  some_item [] = false
  some_item (x ∷ xs) = true

  any_is : (xs : List A) → any p xs ≡ some_item (keep p xs)
  unfolding any keep
  any_is [] = refl
  any_is (x ∷ xs) = go (p x) (any_is xs)
    where
      go : (b : Bool) → any p xs ≡ some_item (keep p xs) → (b || any p xs) ≡ some_item (cond b (x ∷ keep p xs) (keep p xs))
      go true ih = refl
      go false ih = ih

  pub any_none : (xs : List A) → keep p xs ≡ [] → any p xs ≡ false
  any_none xs h = any_is xs ∙ ap some_item h

  pub any_some : (xs : List A) {t : A} {ts : List A} → keep p xs ≡ t ∷ ts → any p xs ≡ true
  any_some xs h = any_is xs ∙ ap some_item h

  pub none_any : (xs : List A) → any p xs ≡ false → keep p xs ≡ []
  none_any xs h = go (keep p xs) (sym (any_is xs) ∙ h)
    where
      go : (ys : List A) → some_item ys ≡ false → ys ≡ []
      go [] e = refl
      go (y ∷ ys) e = never (sym e)

  -- ---- keeping twice

  pub keep_keep : (q : A → Bool) (xs : List A) → keep p (keep q xs) ≡ keep q (keep p xs)
  unfolding keep
  keep_keep q [] = refl
  keep_keep q (x ∷ xs) = go (p x) (q x) refl refl (keep_keep q xs)
    where
      go : (b d : Bool) → p x ≡ b → q x ≡ d → keep p (keep q xs) ≡ keep q (keep p xs)
          → keep p (cond d (x ∷ keep q xs) (keep q xs)) ≡ keep q (cond b (x ∷ keep p xs) (keep p xs))
      go true true e f ih = rw (e, f) (ap (λ ys. x ∷ ys) ih)
      go true false e f ih = rw f ih
      go false true e f ih = rw e ih
      go false false e f ih = ih

  -- ---- inserting

  pub keep_insert_by_other : (key : A → ℕ) (x : A) → p x ≡ false → (ys : List A) → keep p (insert_by key x ys) ≡ keep p ys
  unfolding keep insert_by
  keep_insert_by_other key x h [] = rw h
  keep_insert_by_other key x h (y ∷ ys) = go (ltb (key x) (key y)) (keep_insert_by_other key x h ys)
    where
      go : (b : Bool) → keep p (insert_by key x ys) ≡ keep p ys → keep p (cond b (x ∷ y ∷ ys) (y ∷ insert_by key x ys)) ≡ keep p (y ∷ ys)
      go true ih = rw h
      go false ih = rw ih

  pub keep_insert_by_only : (key : A → ℕ) (x : A) (ys : List A) → p x ≡ true → keep p ys ≡ [] → keep p (insert_by key x ys) ≡ x ∷ []
  unfolding keep insert_by
  keep_insert_by_only key x [] h e = rw h
  keep_insert_by_only key x (y ∷ ys) h e = go (ltb (key x) (key y)) (p y) refl e (λ k. keep_insert_by_only key x ys h k)
    where
      go : (b d : Bool) → p y ≡ d → cond d (y ∷ keep p ys) (keep p ys) ≡ [] → (keep p ys ≡ [] → keep p (insert_by key x ys) ≡ x ∷ [])
          → keep p (cond b (x ∷ y ∷ ys) (y ∷ insert_by key x ys)) ≡ x ∷ []
      go b true f k ih = cc
      go true false f k ih = rw (h, f, k)
      go false false f k ih = rw f (ih k)
