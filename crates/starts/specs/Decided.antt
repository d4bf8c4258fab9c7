-- Tests that say whether a statement holds.
use Rattle.std.specs.Prelude.{ℕ, ◌≤◌, ◌<◌, ◌≡◌, refl, Bool, true, false, cond, leb}
use Rattle.std.proofs.Common.{subst, arith, leb-true, leb-false}

-- the test says whether the statement holds
abbrev pub Decides : Bool → Type 0 → Type 0
Decides true P = P
Decides false P = P → ⊥

pub holds : {b : Bool} {P : Type 0} → b ≡ true → Decides b P → P
holds {P = P} e d = subst (λ (x : Bool). Decides x P) e d

pub decides : (b : Bool) (P : Type 0) → (b ≡ true → P) → (b ≡ false → P → ⊥) → Decides b P
decides true P t f = t refl
decides false P t f = f refl

pub both : (a b : Bool) (P Q R : Type 0) → (P → Q → R) → (R → P) → (R → Q) → Decides a P → Decides b Q → Decides (cond a b false) R
both true true P Q R i l r p q = i p q
both true false P Q R i l r p q = λ z. q (r z)
both false b P Q R i l r p q = λ z. p (l z)

pub either : (a b : Bool) (P Q R : Type 0) → (P → R) → (Q → R) → (R → (P → ⊥) → (Q → ⊥) → ⊥) → Decides a P → Decides b Q → Decides (cond a true b) R
either true b P Q R l r o p q = l p
either false true P Q R l r o p q = r q
either false false P Q R l r o p q = λ z. o z p q

pub le_decides : (a b : ℕ) → Decides (leb a b) (a ≤ b)
le_decides a b =
    decides (leb a b) (a ≤ b) (λ e. leb-true a b e) (λ e h. let l : b < a = leb-false a b e in omega arith)
