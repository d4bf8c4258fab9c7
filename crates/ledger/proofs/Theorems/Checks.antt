-- The laws of checks: a list of checks that gives 0 has none that fails; and what a test says of its parts.
use Prim.Native.Nat.{ℕ, zero, suc, ◌<◌}
use Rattle.std.specs.Prelude.{◌≡◌, Bool, true, cond, not, ◌&&◌, ◌||◌, eqb, length, get_or}
use Rattle.std.proofs.Math.Path.{refl, ap}
use Rattle.std.proofs.Common.{sym, ◌∙◌, arith}
use Rattle.std.proofs.Math.Bool.{false}
use Rattle.std.proofs.lemmas.Bool.{false≢true}
use mathlib.Core.List.{List, [], ◌∷◌, ◌++◌}
use borrow.Author.Tests.{le-leb, leb-true, leb-false, eqb-true, eqb-false, not-true}
use Rattle.std.proofs.Math.Dec.{leb}
use Rattle.std.proofs.Math.ListN.{get_or-eq_default}
use Rattle.ledger.specs.Lists.{Check, first, at, any, all, within}
use Rattle.ledger.specs.Good.{Numbered}

pub and_left : (a b : Bool) → (a && b) ≡ true → a ≡ true
and_left true b h = refl
and_left false b h = h

pub and_right : (a b : Bool) → (a && b) ≡ true → b ≡ true
and_right true b h = h
and_right false b h = cc

pub never : {P : Type 0} → false ≡ true → P
never e = absurd (false≢true e)

pub or_left : (a b : Bool) → (a || b) ≡ false → a ≡ false
or_left true b h = h
or_left false b h = refl

pub or_right : (a b : Bool) → (a || b) ≡ false → b ≡ false
or_right true b h = cc
or_right false b h = h

-- a test that a code asks for
pub asked : (a b : Bool) → (a && b) ≡ false → a ≡ true → b ≡ false
asked true b h e = h
asked false b h e = cc

pub within_numbered : (n i : ℕ) → within 1 n i ≡ true → Numbered n i
within_numbered n i h = record { from = leb-true 1 i (and_left (leb 1 i) (leb i n) h); upto = leb-true i n (and_right (leb 1 i) (leb i n) h) }

-- what holds of both ways holds of the choice
pub cond_both : {A : Type 0} (P : A → Type 0) (b : Bool) (x y : A) → P x → P y → P (cond b x y)
cond_both P true x y p q = p
cond_both P false x y p q = q

-- the checks of a list, one after the other
abbrev pub Passes : List Check → Type 0
Passes [] = Unit {0}
Passes (k ∷ ks) = (k.fails ≡ false) × Passes ks

-- none of them has the number n
abbrev pub lacks : ℕ → List Check → Bool
lacks n [] = true
lacks n (k ∷ ks) = not (eqb k.number n) && lacks n ks

abbrev pub Numbers : List Check → Bool
Numbers = lacks 0

passes_one : (b : Bool) (n r : ℕ) → not (eqb n 0) ≡ true → cond b n r ≡ 0 → (b ≡ false) × (r ≡ 0)
passes_one true n r h e = absurd (eqb-false n 0 (cc) e)
passes_one false n r h e = (refl, e)

pub passes : (ks : List Check) → Numbers ks ≡ true → first ks ≡ 0 → Passes ks
unfolding first
passes [] h e = tt
passes (k ∷ ks) h e =
    let p = passes_one k.fails k.number (first ks) (and_left _ (Numbers ks) h) e in
    (p.0, passes ks (and_right (not (eqb k.number 0)) (Numbers ks) h) p.1)

-- a number that no check has is not given
pub never_given : (n : ℕ) → (0 ≡ n → ⊥) → (ks : List Check) → lacks n ks ≡ true → first ks ≡ n → ⊥
unfolding first
never_given n z [] h e = z e
never_given n z (k ∷ ks) h e = go k.fails (never_given n z ks (and_right (not (eqb k.number n)) (lacks n ks) h)) e
  where
    go : (b : Bool) → (first ks ≡ n → ⊥) → cond b k.number (first ks) ≡ n → ⊥
    go true r x = eqb-false k.number n (not-true _ (and_left _ (lacks n ks) h)) x
    go false r x = r x

-- ---- two lists of checks, one behind the other: the first that fails, else the second's

pub joined_fails : (ks ls : List Check) → (first ks ≡ 0 → ⊥) → first (ks ++ ls) ≡ first ks
unfolding first
joined_fails [] ls h = absurd (h refl)
joined_fails (k ∷ ks) ls h = go k.fails refl (joined_fails ks ls)
  where
    go : (b : Bool) → k.fails ≡ b → ((first ks ≡ 0 → ⊥) → first (ks ++ ls) ≡ first ks) → cond k.fails k.number (first (ks ++ ls)) ≡ cond k.fails k.number (first ks)
    go true e ih = rw e
    go false e ih = rw e (ih (λ z. h (rw e z)))

pub joined_passes : (ks ls : List Check) → Numbers ks ≡ true → first ks ≡ 0 → first (ks ++ ls) ≡ first ls
unfolding first
joined_passes [] ls n e = refl
joined_passes (k ∷ ks) ls n e =
    let p = passes_one k.fails k.number (first ks) (and_left _ (Numbers ks) n) e in
    rw p.0 (joined_passes ks ls (and_right (not (eqb k.number 0)) (Numbers ks) n) p.1)

pub passes_joined : (ks ls : List Check) → Numbers ks ≡ true → first (ks ++ ls) ≡ 0 → (first ks ≡ 0) × (first ls ≡ 0)
passes_joined ks ls n e = go (eqb (first ks) 0) refl
  where
    go : (b : Bool) → eqb (first ks) 0 ≡ b → (first ks ≡ 0) × (first ls ≡ 0)
    go true z = let p = eqb-true (first ks) 0 z in (p, sym (joined_passes ks ls n p) ∙ e)
    go false z = let p = eqb-false (first ks) 0 z in absurd (p (sym (joined_fails ks ls p) ∙ e))

module _ {A : Type 0} where
  get_d_all : (p : A → Bool) (xs : List A) (i : ℕ) (d : A) → all p xs ≡ true → i < length xs → p (get_or xs i d) ≡ true
  unfolding all
  get_d_all p [] i d h k = absurd (omega arith)
  get_d_all p (x ∷ xs) zero d h k = and_left (p x) (all p xs) h
  get_d_all p (x ∷ xs) (suc i) d h k = get_d_all p xs i d (and_right (p x) (all p xs) h) (omega arith)

  pub at_all : (p : A → Bool) (xs : List A) (n : ℕ) (d : A) → all p xs ≡ true → Numbered (length xs) n → p (at xs n d) ≡ true
  unfolding at
  at_all p xs zero d h k = absurd (omega arith)
  at_all p xs (suc n) d h k = get_d_all p xs n d h (omega arith)

  -- and where none passes
  get_d_any : (p : A → Bool) (xs : List A) (i : ℕ) (d : A) → any p xs ≡ false → i < length xs → p (get_or xs i d) ≡ false
  unfolding any
  get_d_any p [] i d h k = absurd (omega arith)
  get_d_any p (x ∷ xs) zero d h k = or_left (p x) (any p xs) h
  get_d_any p (x ∷ xs) (suc i) d h k = get_d_any p xs i d (or_right (p x) (any p xs) h) (omega arith)

  pub at_any : (p : A → Bool) (xs : List A) (n : ℕ) (d : A) → any p xs ≡ false → Numbered (length xs) n → p (at xs n d) ≡ false
  unfolding at
  at_any p xs zero d h k = absurd (omega arith)
  at_any p xs (suc n) d h k = get_d_any p xs n d h (omega arith)

  -- no item has such a number
  pub at_none : (xs : List A) (n : ℕ) (d : A) → within 1 (length xs) n ≡ false → at xs n d ≡ d
  unfolding at
  at_none xs zero d h = refl
  at_none xs (suc n) d h =
      let e : (true && leb (suc n) (length xs)) ≡ false = ap (λ (b : Bool). b && leb (suc n) (length xs)) (sym (le-leb 1 (suc n) (omega arith))) ∙ h in
      get_or-eq_default xs d {n = n} (omega (arith, leb-false (suc n) (length xs) e))
