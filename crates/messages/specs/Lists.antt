-- Tests on the elements of lists and on the places of a table, beside the laws of rows.
use Rattle.std.specs.Prelude.{◌≡◌, ℕ, zero, suc, ◌+◌, ◌-◌, ◌<◌, Bool, true, false, cond, ◌&&◌, ◌||◌, List, [], ◌∷◌, map, length, ◌==◌, nat_le, slice_index_or}
use Rattle.std.proofs.Math.Path.{refl}
use Rattle.std.proofs.Common.{ap, ap₂, ◌∙◌, add-one, arith, eq-eqb, ne_eqb, leb-true, leb-false}
use Rattle.std.proofs.Math.Bool.{and-false, or-true}
use Rattle.std.proofs.Math.Nat.{suc-add}
use Rattle.ledger.specs.Lists.{within, any, all, keep}
use Rattle.rows.specs.Rows.{insert_at, remove_at}
use Rattle.rows.specs.First.{first_of}
use Rattle.rows.specs.Tab.{tab}

pub and_left : (a b : Bool) → (a && b) ≡ true → a ≡ true
and_left true b e = refl
and_left false b e = e

pub and_right : (a b : Bool) → (a && b) ≡ true → b ≡ true
and_right true b e = e
and_right false b e = let z : ◌≡◌ {A = Bool} false true = e in cc

pub or_left : (a b : Bool) → (a || b) ≡ false → a ≡ false
or_left true b e = e
or_left false b e = refl

pub or_right : (a b : Bool) → (a || b) ≡ false → b ≡ false
or_right true b e = let z : ◌≡◌ {A = Bool} true false = e in cc
or_right false b e = e

-- ---- what holds of all items, with one more and with one less

module _ {A : Type 0} (p : A → Bool) where
  pub all_insert : (k : ℕ) (x : A) (l : List A) → p x ≡ true → all p l ≡ true → all p (insert_at k x l) ≡ true
  unfolding all
  all_insert zero x l e h = rw (e, h)
  all_insert (suc k) x [] e h = rw e
  all_insert (suc k) x (y ∷ ys) e h = rw (and_left (p y) (all p ys) h, all_insert k x ys e (and_right (p y) (all p ys) h))

  pub all_remove : (k : ℕ) (l : List A) → all p l ≡ true → all p (remove_at k l) ≡ true
  unfolding all
  all_remove zero [] h = refl
  all_remove (suc k) [] h = rw suc-add
  all_remove zero (y ∷ ys) h = and_right (p y) (all p ys) h
  all_remove (suc k) (y ∷ ys) h = rw (suc-add, and_left (p y) (all p ys) h) (all_remove k ys (and_right (p y) (all p ys) h))

-- ---- a search in the images, and in what is kept

pub first_map : {A B : Type 0} (f : A → B) (q : B → Bool) (l : List A) → first_of q (map f l) ≡ first_of (λ u. q (f u)) l
first_map f q [] = refl
first_map f q (u ∷ us) = ap (λ (k : ℕ). cond (q (f u)) 0 (k + 1)) (first_map f q us)

pub any_map : {A B : Type 0} (f : A → B) (q : B → Bool) (l : List A) → any q (map f l) ≡ any (λ u. q (f u)) l
unfolding any
any_map f q [] = refl
any_map f q (u ∷ us) = ap (λ (b : Bool). q (f u) || b) (any_map f q us)

module _ {A : Type 0} (p r : A → Bool) where
  pub any_keep : (l : List A) → any r (keep p l) ≡ any (λ u. p u && r u) l
  unfolding any keep
  any_keep [] = refl
  any_keep (u ∷ us) = go (p u) refl (any_keep us)
    where
      go : (b : Bool) → p u ≡ b → any r (keep p us) ≡ any (λ u. p u && r u) us → any r (keep p (u ∷ us)) ≡ any (λ u. p u && r u) (u ∷ us)
      go true e ih = rw (e, ih)
      go false e ih = rw (e, ih)

-- what stands at the first place that passes does pass
pub first_passes : {A : Type 0} (p : A → Bool) (l : List A) (z : A) → first_of p l < length l → p (slice_index_or l (first_of p l) z) ≡ true
first_passes p [] z h = absurd (omega arith)
first_passes p (u ∷ us) z h = go (p u) refl (first_passes p us z)
  where
    go : (b : Bool) → p u ≡ b → (first_of p us < length us → p (slice_index_or us (first_of p us) z) ≡ true) → p (slice_index_or (u ∷ us) (first_of p (u ∷ us)) z) ≡ true
    go true e ih = rw (e, e)
    go false e ih =
        let k : first_of p (u ∷ us) ≡ suc (first_of p us) = rw (e, add-one) in
        rw k (ih (omega (arith, k)))

-- some place below n passes
abbrev pub below : ℕ → (ℕ → Bool) → Bool
below zero f = false
below (suc n) f = f zero || below n (λ i. f (suc i))

below_yes : (n : ℕ) (f : ℕ → Bool) (i : ℕ) → i < n → f i ≡ true → below n f ≡ true
below_yes zero f i h e = absurd (omega arith)
below_yes (suc n) f zero h e = rw e
below_yes (suc n) f (suc i) h e = ap (λ (b : Bool). f zero || b) (below_yes n (λ i. f (suc i)) i (omega arith) e) ∙ or-true (f zero)

below_no : (n : ℕ) (f : ℕ → Bool) → ((i : ℕ) → i < n → f i ≡ false) → below n f ≡ false
below_no zero f h = refl
below_no (suc n) f h = rw (h zero (omega arith)) (below_no n (λ i. f (suc i)) (λ i l. h (suc i) (omega arith)))

below_or : (n : ℕ) (f g : ℕ → Bool) → below n (λ i. f i || g i) ≡ (below n f || below n g)
below_or zero f g = refl
below_or (suc n) f g =
    ap (λ (b : Bool). (f zero || g zero) || b) (below_or n (λ i. f (suc i)) (λ i. g (suc i)))
    ∙ go (f zero) (g zero) (below n (λ i. f (suc i))) (below n (λ i. g (suc i)))
  where
    go : (a b c d : Bool) → ((a || b) || (c || d)) ≡ ((a || c) || (b || d))
    go true b c d = refl
    go false true true d = refl
    go false true false d = refl
    go false false c d = refl

pub below_any : {A : Type 0} (n : ℕ) (f : ℕ → A → Bool) (l : List A) → below n (λ i. any (f i) l) ≡ any (λ u. below n (λ i. f i u)) l
unfolding any
below_any n f [] = below_no n (λ i. false) (λ i h. refl)
below_any n f (u ∷ us) = below_or n (λ i. f i u) (λ i. any (f i) us) ∙ ap (λ (b : Bool). below n (λ i. f i u) || b) (below_any n f us)

pub below_tab : {A : Type 0} (n : ℕ) (f : ℕ → A) (p : A → Bool) → any p (tab n f) ≡ below n (λ i. p (f i))
unfolding any tab
below_tab zero f p = refl
below_tab (suc n) f p = ap (λ (b : Bool). p (f zero) || b) (below_tab n (λ i. f (suc i)) p)

pub below_eqb : (n x : ℕ) (b : Bool) → below n (λ i. (x == suc i) && b) ≡ (within 1 n x && b)
below_eqb n x b = go (nat_le 1 x) (nat_le x n) b refl refl
  where
    go : (low high b : Bool) → nat_le 1 x ≡ low → nat_le x n ≡ high → below n (λ i. (x == suc i) && b) ≡ (low && high && b)
    go true true true p q = let l = leb-true 1 x p in let h = leb-true x n q in below_yes n (λ i. (x == suc i) && true) (x - 1) (omega arith) (rw (eq-eqb x (suc (x - 1)) (omega arith)))
    go true true false p q = below_no n (λ i. (x == suc i) && false) (λ i h. and-false (x == suc i))
    go true false b p q = let l = leb-false x n q in below_no n (λ i. (x == suc i) && b) (λ i h. rw (ne_eqb x (suc i) (λ e. omega arith)))
    go false high b p q = let l = leb-false 1 x p in below_no n (λ i. (x == suc i) && b) (λ i h. rw (ne_eqb x (suc i) (λ e. omega arith)))

pub any_ext : {A : Type 0} (p q : A → Bool) → ((u : A) → p u ≡ q u) → (l : List A) → any p l ≡ any q l
unfolding any
any_ext p q h [] = refl
any_ext p q h (u ∷ us) = ap₂ ◌||◌ (h u) (any_ext p q h us)
