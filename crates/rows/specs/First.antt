-- The first element that passes a test: searches, insertions before it and removals of it, and what they are on the elements that are kept.
use Rattle.std.specs.Prelude.{◌≡◌, Bool, ◌||◌, ◌&&◌}
use Rattle.std.proofs.Math.Path.{refl, sym, ap}
use Rattle.std.proofs.Common.{◌∙◌, arith, lt-ltb, drop_of_length-le}
use mathlib.Core.List.{List, [], ◌∷◌, ◌++◌, map, append_assoc, append-nil}
use Rattle.std.proofs.Math.Bool.{true, false, cond}
use Prim.Native.Nat.{ℕ, zero, suc, ◌+◌, ◌<◌, ◌≤◌}
use Rattle.std.proofs.Math.Nat.{suc-add}
use Prim.Native.Nat.compare
use Rattle.std.proofs.Math.Numerals.{add-one}
use Rattle.std.proofs.Math.Dec.{ltb}
use Rattle.std.proofs.Math.Option.{none, some}
use Rattle.std.proofs.Math.ListN.{length, get_or, take, drop}
use Rattle.std.proofs.Math.Seq.{drop-cons, take-suc, take_at, drop_at, take_all, length-take-le}
use Rattle.ledger.specs.Lists.{any, keep, find, without, insert_by}
use Rattle.rows.specs.Rows.{insert_at, remove_at}

-- the place of the first element that passes, or the length
abbrev pub first_of : {A : Type 0} → (A → Bool) → List A → ℕ
first_of p [] = 0
first_of p (u ∷ us) = cond (p u) 0 (first_of p us + 1)

module _ {A : Type 0} (p : A → Bool) where
  pub first_le : (l : List A) → first_of p l ≤ length l
  first_le [] = omega arith
  first_le (u ∷ us) = go (p u) (first_le us)
    where
      go : (b : Bool) → first_of p us ≤ length us → cond b 0 (first_of p us + 1) ≤ suc (length us)
      go true h = omega arith
      go false h = omega arith

-- a search that has come to k
module _ {A : Type 0} (p : A → Bool) (l : List A) (k : ℕ) (so_far : first_of p l ≡ k + first_of p (drop k l)) where
  pub first_here : (z : A) → k < length l → p (get_or l k z) ≡ true → k ≡ first_of p l
  first_here z h t =
      let y : first_of p (drop k l) ≡ 0 = rw (drop-cons l k z h, t) in
      omega arith

  pub first_on : (z : A) → k < length l → p (get_or l k z) ≡ false → first_of p l ≡ k + 1 + first_of p (drop (k + 1) l)
  first_on z h t =
      let y : first_of p (drop k l) ≡ first_of p (drop (suc k) l) + 1 = rw (drop-cons l k z h, t) in
      rw add-one (omega arith)

  pub first_end : length l ≤ k → k ≡ first_of p l
  first_end h =
      let z : drop k l ≡ [] = drop_of_length-le l {i = k} h in
      let y : first_of p (drop k l) ≡ 0 = rw z in
      omega arith

-- ---- on the elements that p keeps
module _ {A : Type 0} (p r : A → Bool) where
  -- an element that is kept goes before the first kept one that r passes
  pub keep_insert : (m : A) → p m ≡ true → (l : List A)
      → keep p (insert_at (first_of (λ (u : A). p u && r u) l) m l) ≡ insert_at (first_of r (keep p l)) m (keep p l)
  unfolding keep
  keep_insert m e [] = rw e
  keep_insert m e (u ∷ us) = go (p u) (r u) refl refl (keep_insert m e us)
    where
      go : (b c : Bool) → p u ≡ b → r u ≡ c → keep p (insert_at (first_of (λ (u : A). p u && r u) us) m us) ≡ insert_at (first_of r (keep p us)) m (keep p us)
          → keep p (insert_at (first_of (λ (u : A). p u && r u) (u ∷ us)) m (u ∷ us)) ≡ insert_at (first_of r (keep p (u ∷ us))) m (keep p (u ∷ us))
      go true true x y ih = simp (x, y, e)
      go true false x y ih = simp (x, y, add-one) (ap (λ (z : List A). u ∷ z) ih)
      go false c x y ih = simp (x, add-one) ih

  -- the first kept one that r passes is taken out
  pub keep_remove : (l : List A)
      → keep p (remove_at (first_of (λ (u : A). p u && r u) l) l) ≡ remove_at (first_of r (keep p l)) (keep p l)
  unfolding keep
  keep_remove [] = refl
  keep_remove (u ∷ us) = go (p u) (r u) refl refl (keep_remove us)
    where
      go : (b c : Bool) → p u ≡ b → r u ≡ c → keep p (remove_at (first_of (λ (u : A). p u && r u) us) us) ≡ remove_at (first_of r (keep p us)) (keep p us)
          → keep p (remove_at (first_of (λ (u : A). p u && r u) (u ∷ us)) (u ∷ us)) ≡ remove_at (first_of r (keep p (u ∷ us))) (keep p (u ∷ us))
      go true true x y ih = simp (x, y)
      go true false x y ih = simp (x, y, add-one) (ap (λ (z : List A). u ∷ z) (simp add-one at ih))
      go false c x y ih = simp (x, add-one) (simp add-one at ih)

  -- and it is what stands at that place
  pub keep_at : (l : List A) (z : A)
      → get_or l (first_of (λ (u : A). p u && r u) l) z ≡ get_or (keep p l) (first_of r (keep p l)) z
  unfolding keep
  keep_at [] z = refl
  keep_at (u ∷ us) z = go (p u) (r u) refl refl (keep_at us z)
    where
      go : (b c : Bool) → p u ≡ b → r u ≡ c → get_or us (first_of (λ (u : A). p u && r u) us) z ≡ get_or (keep p us) (first_of r (keep p us)) z
          → get_or (u ∷ us) (first_of (λ (u : A). p u && r u) (u ∷ us)) z ≡ get_or (keep p (u ∷ us)) (first_of r (keep p (u ∷ us))) z
      go true true x y ih = simp (x, y)
      go true false x y ih = simp (x, y, add-one) ih
      go false c x y ih = simp (x, add-one) ih

-- what p does not keep goes in and out unseen
module _ {A : Type 0} (p : A → Bool) where
  pub keep_insert_other : (k : ℕ) (m : A) → p m ≡ false → (l : List A) → keep p (insert_at k m l) ≡ keep p l
  unfolding keep
  keep_insert_other zero m e l = rw e
  keep_insert_other (suc k) m e [] = rw e
  keep_insert_other (suc k) m e (u ∷ us) = ap (λ (z : List A). cond (p u) (u ∷ z) z) (keep_insert_other k m e us)

  pub keep_remove_other : (k : ℕ) (l : List A) (z : A) → p (get_or l k z) ≡ false → keep p (remove_at k l) ≡ keep p l
  unfolding keep
  keep_remove_other zero [] z e = refl
  keep_remove_other zero (u ∷ us) z e = rw e
  keep_remove_other (suc k) [] z e = rw suc-add
  keep_remove_other (suc k) (u ∷ us) z e = rw suc-add (ap (λ (z : List A). cond (p u) (u ∷ z) z) (keep_remove_other k us z e))

-- ---- keeping in place: the first k have passed, the others are still to be tried
abbrev pub keep_from : {A : Type 0} → (A → Bool) → ℕ → List A → List A
keep_from p k l = take k l ++ keep p (drop k l)

module _ {A : Type 0} (p : A → Bool) (l : List A) (k : ℕ) where
  pub keep_on : (z : A) → k < length l → p (get_or l k z) ≡ true → keep_from p (k + 1) l ≡ keep_from p k l
  unfolding keep
  keep_on z h t = rw (add-one, take-suc l k z h, drop-cons l k z h, t) (append_assoc (take k l) (get_or l k z ∷ []) (keep p (drop (suc k) l)))

  pub keep_out : (z : A) → k < length l → p (get_or l k z) ≡ false → keep_from p k (remove_at k l) ≡ keep_from p k l
  unfolding keep
  keep_out z h f =
      let n : length (take k l) ≡ k = length-take-le k l (omega arith) in
      let a : take k (remove_at k l) ≡ take k l = take_at (take k l) (drop (k + 1) l) k n in
      let b : drop k (remove_at k l) ≡ drop (suc k) l = drop_at (take k l) (drop (k + 1) l) k n ∙ ap (λ (m : ℕ). drop m l) (add-one k) in
      let c : keep p (drop k l) ≡ keep p (drop (suc k) l) = rw (drop-cons l k z h, f) in
      rw (a, b, c)

  pub keep_end : length l ≤ k → keep_from p k l ≡ l
  unfolding keep
  keep_end h = rw (drop_of_length-le l {i = k} h, take_all k l h) (append-nil l)

pub map_remove_at : {A B : Type 0} (f : A → B) (k : ℕ) (l : List A) → map f (remove_at k l) ≡ remove_at k (map f l)
map_remove_at {B = B} f zero [] = refl
map_remove_at {B = B} f zero (x ∷ xs) = refl
map_remove_at {B = B} f (suc k) [] = rw suc-add
map_remove_at {B = B} f (suc k) (x ∷ xs) = rw suc-add (ap (λ (r : List B). f x ∷ r) (map_remove_at f k xs))

-- ---- the ledger's functions on lists, by the place of the first that passes
module _ {A : Type 0} (p : A → Bool) where
  pub without_is : (l : List A) → without p l ≡ remove_at (first_of p l) l
  unfolding without
  without_is [] = refl
  without_is (u ∷ us) = go (p u) (without_is us)
    where
      go : (b : Bool) → without p us ≡ remove_at (first_of p us) us → cond b us (u ∷ without p us) ≡ remove_at (cond b 0 (first_of p us + 1)) (u ∷ us)
      go true e = refl
      go false e = simp add-one (ap (λ (r : List A). u ∷ r) (simp add-one at e))

  pub find_some : (l : List A) (z : A) → first_of p l < length l → find p l ≡ some (get_or l (first_of p l) z)
  unfolding find
  find_some [] z h = absurd (omega arith)
  find_some (u ∷ us) z h = go (p u) refl (find_some us z)
    where
      go : (b : Bool) → p u ≡ b → (first_of p us < length us → find p us ≡ some (get_or us (first_of p us) z)) → cond (p u) (some u) (find p us) ≡ some (get_or (u ∷ us) (first_of p (u ∷ us)) z)
      go true e ih = rw e
      go false e ih =
          let k : first_of p (u ∷ us) ≡ suc (first_of p us) = rw (e, add-one) in
          rw (e, add-one) (ih (omega (arith, k)))

  pub find_none : (l : List A) → length l ≤ first_of p l → find p l ≡ none
  unfolding find
  find_none [] h = refl
  find_none (u ∷ us) h = go (p u) refl (find_none us)
    where
      go : (b : Bool) → p u ≡ b → (length us ≤ first_of p us → find p us ≡ none) → cond (p u) (some u) (find p us) ≡ none
      go true e ih =
          let k : first_of p (u ∷ us) ≡ 0 = rw e in
          absurd (omega (arith, k))
      go false e ih =
          let k : first_of p (u ∷ us) ≡ suc (first_of p us) = rw (e, add-one) in
          rw e (ih (omega (arith, k)))

  pub any_is : (l : List A) → any p l ≡ ltb (first_of p l) (length l)
  unfolding any
  any_is [] = refl
  any_is (u ∷ us) = go (p u) (any_is us)
    where
      go : (b : Bool) → any p us ≡ ltb (first_of p us) (length us) → (b || any p us) ≡ ltb (cond b 0 (first_of p us + 1)) (suc (length us))
      go true e = sym (lt-ltb 0 (suc (length us)) (omega arith))
      go false e = e ∙ rw (add-one, compare.suc-suc (suc (first_of p us)) (length us))

-- a later insertion behind equals
pub insert_by_is : {A : Type 0} (key : A → ℕ) (x : A) (l : List A) → insert_by key x l ≡ insert_at (first_of (λ (y : A). ltb (key x) (key y)) l) x l
unfolding insert_by
insert_by_is {A} key x [] = refl
insert_by_is {A} key x (y ∷ ys) = go (ltb (key x) (key y)) (insert_by_is key x ys)
  where
    go : (b : Bool) → insert_by key x ys ≡ insert_at (first_of (λ (y : A). ltb (key x) (key y)) ys) x ys
        → cond b (x ∷ y ∷ ys) (y ∷ insert_by key x ys) ≡ insert_at (cond b 0 (first_of (λ (y : A). ltb (key x) (key y)) ys + 1)) x (y ∷ ys)
    go true e = refl
    go false e = rw add-one (ap (λ (r : List A). y ∷ r) e)
