-- Exclusive or, as a sum of true and false: what stands in it twice is gone.
use Rattle.std.specs.Prelude.{◌≡◌, refl, Bool, true, false, ◌&&◌}

infixl 30 ◌⊕◌
abbrev pub ◌⊕◌ : Bool → Bool → Bool
true ⊕ true = false
true ⊕ false = true
false ⊕ b = b

pub twice : (a : Bool) → a ⊕ a ≡ false
twice true = refl
twice false = refl

pub grouped : (a b c : Bool) → a ⊕ (b ⊕ c) ≡ a ⊕ b ⊕ c
grouped true true true = refl
grouped true true false = refl
grouped true false c = refl
grouped false b c = refl

pub exchanged : (a b c d : Bool) → (a ⊕ b) ⊕ (c ⊕ d) ≡ (a ⊕ c) ⊕ (b ⊕ d)
exchanged true true true true = refl
exchanged true true true false = refl
exchanged true true false true = refl
exchanged true true false false = refl
exchanged true false true true = refl
exchanged true false true false = refl
exchanged true false false d = refl
exchanged false true true true = refl
exchanged false true true false = refl
exchanged false true false d = refl
exchanged false false c d = refl

-- b on both sides is gone
pub both_gone : (a b c : Bool) → a ⊕ c ≡ (a ⊕ b) ⊕ (c ⊕ b)
both_gone true true true = refl
both_gone true true false = refl
both_gone true false true = refl
both_gone true false false = refl
both_gone false true true = refl
both_gone false true false = refl
both_gone false false true = refl
both_gone false false false = refl

-- products
pub times_false : (a : Bool) → (a && false) ≡ false
times_false true = refl
times_false false = refl

pub spread : (a b c : Bool) → (a && (b ⊕ c)) ≡ (a && b) ⊕ (a && c)
spread true b c = refl
spread false b c = refl

pub gathered : (a b c : Bool) → (a && c) ⊕ (b && c) ≡ ((a ⊕ b) && c)
gathered true true true = refl
gathered true true false = refl
gathered true false true = refl
gathered true false false = refl
gathered false b c = refl
