-- A word whose bit i is flag i of a list: a bit set in it, and how many are.
use Rattle.std.specs.Prelude.{◌≡◌, ℕ, zero, suc, ◌+◌, ◌*◌, ◌/◌, ◌%◌, ◌^◌, ◌<◌, max, Bool, true, false, cond, not, List, [], ◌∷◌, length, replicate, bit_or, slice_index_or, slice_set, refl}
use Rattle.std.proofs.Common.{◌∙◌, pow-suc, mul-div_cancel, arith, lit<}
use Rattle.std.proofs.Math.Nat.{max-zero, mul-mod_left}
use Rattle.std.proofs.Math.Arith.{digits_div, digits_mod}
use Rattle.std.specs.Int.Bits.{or_step, or_zero_r}
use Rattle.std.specs.Int.Count.{ones, ones_step}

abbrev pub bit : Bool → ℕ
bit b = cond b 1 0

abbrev pub word_of : List Bool → ℕ
word_of [] = 0
word_of (b ∷ f) = word_of f * 2 + bit b

abbrev pub trues : List Bool → ℕ
trues [] = 0
trues (b ∷ f) = bit b + trues f

pub bit_low : (b : Bool) → bit b < 2
bit_low true = omega arith
bit_low false = omega arith

module _ (b : Bool) (f : List Bool) where
  above : word_of (b ∷ f) / 2 ≡ word_of f
  above = digits_div (word_of f) (bit_low b)

  lowest : word_of (b ∷ f) % 2 ≡ bit b
  lowest = digits_mod (word_of f) (bit_low b)

pub word_set : (f : List Bool) (i : ℕ) → i < length f → bit_or (word_of f) (2 ^ i) ≡ word_of (slice_set f i true)
word_set [] i h = absurd (omega arith)
word_set (b ∷ f) zero h = or_step (word_of (b ∷ f)) 1 ∙ rw (above b f, lowest b f, or_zero_r (word_of f)) (go b)
  where
    go : (b : Bool) → word_of f * 2 + max (bit b) 1 ≡ word_of f * 2 + 1
    go true = refl
    go false = refl
word_set (b ∷ f) (suc i) h =
    let e : 2 ^ suc i / 2 ≡ 2 ^ i = rw (pow-suc 2 i) (mul-div_cancel (2 ^ i) (lit< tt)) in
    let o : 2 ^ suc i % 2 ≡ 0 = rw (pow-suc 2 i) (mul-mod_left (2 ^ i) 2) in
    or_step (word_of (b ∷ f)) (2 ^ suc i) ∙ rw (above b f, lowest b f, e, o, max-zero (bit b), word_set f i (omega arith))

pub ones_word : (f : List Bool) → ones (word_of f) ≡ trues f
unfolding ones
ones_word [] = refl
ones_word (b ∷ f) = ones_step (word_of (b ∷ f)) ∙ rw (above b f, lowest b f, ones_word f)

pub trues_set : (f : List Bool) (i : ℕ) → i < length f → trues (slice_set f i true) ≡ trues f + bit (not (slice_index_or f i false))
trues_set [] i h = absurd (omega arith)
trues_set (true ∷ f) zero h = omega arith
trues_set (false ∷ f) zero h = omega arith
trues_set (b ∷ f) (suc i) h = omega (arith, trues_set f i (omega arith))

pub word_none : (n : ℕ) → word_of (replicate n false) ≡ 0
word_none zero = refl
word_none (suc n) = rw (word_none n)

pub trues_none : (n : ℕ) → trues (replicate n false) ≡ 0
trues_none zero = refl
trues_none (suc n) = rw (trues_none n)
