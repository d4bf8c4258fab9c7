-- One bit of one byte is changed: one block of one task.
use Rattle.std.specs.Prelude.{◌≡◌, refl, Bool, true, false, not, List, ℕ, ◌+◌, ◌-◌, ◌*◌, ◌/◌, ◌%◌, ◌^◌, ◌<◌, eqb, length, get_or, set}
use Rattle.std.proofs.Common.{ap, ◌∙◌, arith, get_or-set_same, get_or-set_other, eq-eqb, ne_eqb, eqb-true}
use Rattle.std.proofs.Math.Bool.{or-true, or-false, and-true, and-false}
use Rattle.std.specs.Int.Bits.{bit_or, bit_and}
use Rattle.std.proofs.Math.Pow.{pow-lt}
use Rattle.std.proofs.lemmas.Bool.{eqb-false}
use Rattle.tables.specs.declared.blocks.Block.{Block}
use Rattle.tables.specs.Bits.{bit, bit_or_lem, bit_and_lem, bit_not, bit_power}
use Rattle.tables.specs.Planes.{plane_of, has, NewBit, NewBlock}

-- x with bit i set, and with bit i clear
with_here : (x i : ℕ) → bit (bit_or x (2 ^ i)) i ≡ true
with_here x i = bit_or_lem x (2 ^ i) i ∙ rw (bit_power i i, eq-eqb i i refl) (or-true (bit x i))

with_others : (x i j : ℕ) → (i ≡ j → ⊥) → bit (bit_or x (2 ^ i)) j ≡ bit x j
with_others x i j n = bit_or_lem x (2 ^ i) j ∙ rw (bit_power i j, ne_eqb i j n) (or-false (bit x j))

module _ (x i : ℕ) (l : i < 8) where
  not_power : (j : ℕ) → j < 8 → bit ((2 ^ 8 - 1) - 2 ^ i) j ≡ not (eqb i j)
  not_power j h = bit_not 8 (2 ^ i) j h (pow-lt l) ∙ ap not (bit_power i j)

  without_here : bit (bit_and x ((2 ^ 8 - 1) - 2 ^ i)) i ≡ false
  without_here = bit_and_lem x ((2 ^ 8 - 1) - 2 ^ i) i ∙ rw (not_power i l, eq-eqb i i refl) (and-false (bit x i))

  without_others : (j : ℕ) → j < 8 → (i ≡ j → ⊥) → bit (bit_and x ((2 ^ 8 - 1) - 2 ^ i)) j ≡ bit x j
  without_others j h n = bit_and_lem x ((2 ^ 8 - 1) - 2 ^ i) j ∙ rw (not_power j h, ne_eqb i j n) (and-true (bit x j))

-- the same, as the code leaves them
pub bit_set : (x i y : ℕ) → y ≡ bit_or x (2 ^ i) → NewBit i true x y
bit_set x i y e =
    record { here = ap (λ (n : ℕ). bit n i) e ∙ with_here x i; others = λ j l n. ap (λ (m : ℕ). bit m j) e ∙ with_others x i j n }

pub bit_cleared : (x i y : ℕ) → i < 8 → y ≡ bit_and x ((2 ^ 8 - 1) - 2 ^ i) → NewBit i false x y
bit_cleared x i y h e =
    record { here = ap (λ (n : ℕ). bit n i) e ∙ without_here x i h; others = λ j l n. ap (λ (m : ℕ). bit m j) e ∙ without_others x i h j l n }

-- the byte with the bit of row i becomes y
pub block_set : (d : List ℕ) (k : Block) (i : ℕ) (v : Bool) (y : ℕ) → i < 128 → 16 * plane_of k + i / 8 < length d
    → NewBit (i % 8) v (get_or d (16 * plane_of k + i / 8) 0) y → NewBlock k i v d (set d (16 * plane_of k + i / 8) y)
unfolding has
block_set d k i v y low inside new = record {
  here = ap (λ (x : ℕ). bit x (i % 8)) (get_or-set_same d (16 * plane_of k + i / 8) y 0 inside) ∙ new.here;
  others = λ q j a n. go q j a n (eqb (16 * plane_of q + j / 8) (16 * plane_of k + i / 8)) refl;
}
  where
    go : (q : Block) (j : ℕ) → j < 128 → (plane_of q ≡ plane_of k → j ≡ i → ⊥) → (s : Bool) → eqb (16 * plane_of q + j / 8) (16 * plane_of k + i / 8) ≡ s
        → bit (get_or (set d (16 * plane_of k + i / 8) y) (16 * plane_of q + j / 8) 0) (j % 8) ≡ bit (get_or d (16 * plane_of q + j / 8) 0) (j % 8)
    go q j a n true e =
        let m : 16 * plane_of q + j / 8 ≡ 16 * plane_of k + i / 8 = eqb-true (16 * plane_of q + j / 8) (16 * plane_of k + i / 8) e in
        let r : j % 8 < 8 = omega arith in
        let s : plane_of q ≡ plane_of k = omega arith in
        rw m (ap (λ (x : ℕ). bit x (j % 8)) (get_or-set_same d (16 * plane_of k + i / 8) y 0 inside) ∙ new.others (j % 8) r (λ z. n s (omega arith)))
    go q j a n false e =
        ap (λ (x : ℕ). bit x (j % 8))
        (get_or-set_other d (16 * plane_of k + i / 8) (16 * plane_of q + j / 8) y 0 (eqb-false (16 * plane_of q + j / 8) (16 * plane_of k + i / 8) e))
