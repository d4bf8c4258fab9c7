-- The search for the lowest row without a block, by words: the bits of a word are those of its bytes.
use Rattle.std.specs.Prelude.{◌≡◌, Bool, List, get_or}
use Rattle.std.proofs.Math.Path.{refl, ap, ap₂, subst}
use Rattle.std.proofs.Common.{sym, ◌∙◌, add-zero}
use Rattle.std.proofs.Math.Bool.{true, false, ◌||◌}
use Prim.Native.Nat.{ℕ, zero, suc, ◌+◌, ◌-◌, ◌*◌, ◌/◌, ◌%◌, ◌^◌, ◌<◌, ◌≤◌}
use native.Mathlib.Omega.{arith}
use Rattle.std.proofs.Math.Arith.{digits_lt}
use Rattle.std.specs.Int.Bits.{bit_or}
use Rattle.std.proofs.Math.Dec.{ltb}
use Rattle.std.proofs.Math.Pow.{pow-add}
use borrow.Author.Tests.{ltb-true, ltb-false}
use Rattle.tables.specs.declared.blocks.Block.{Block}
use Rattle.tables.specs.declared.blocks.Block.TheVariants.{Idle, Suspended, Event, Message}
use Rattle.tables.specs.Bits.{bit, Lowest, bit_or_lem, bit_below, bit_above}
use Rattle.tables.specs.Planes.{plane_of, has, blocked_at, number}

-- eight bytes, added up
pub number_eight : (d : List ℕ) (at r : ℕ)
    → r ≡ get_or d at 0 + get_or d (at + 1) 0 * 2 ^ 8 + get_or d (at + 2) 0 * 2 ^ 16 + get_or d (at + 3) 0 * 2 ^ 24 + get_or d (at + 4) 0 * 2 ^ 32 + get_or d (at + 5) 0 * 2 ^ 40
    + get_or d (at + 6) 0 * 2 ^ 48 + get_or d (at + 7) 0 * 2 ^ 56 → r ≡ number 8 at d
unfolding number
number_eight d at r e = e ∙ rw (add-zero at) (omega arith)

module _ (d : List ℕ) (bytes : (k : ℕ) → get_or d k 0 < 256) (at : ℕ) where
  number_low : (n : ℕ) → number n at d < 2 ^ (8 * n)
  unfolding number
  number_low zero = omega arith
  number_low (suc n) =
      let e : 8 * suc n ≡ 8 + 8 * n = omega arith in
      let f : 2 ^ (8 * suc n) ≡ 256 * 2 ^ (8 * n) = ap (λ (k : ℕ). 2 ^ k) e ∙ pow-add 2 8 (8 * n) in
      subst (λ (k : ℕ). number (suc n) at d < k) (sym f) (digits_lt (bytes (at + n)) (number_low n))

  pub bit_number : (n i : ℕ) → i < 8 * n → bit (number n at d) i ≡ bit (get_or d (at + i / 8) 0) (i % 8)
  unfolding number
  bit_number zero i l = absurd (omega arith)
  bit_number (suc n) i l = go (ltb i (8 * n)) refl (bit_number n i)
    where
      go : (b : Bool) → ltb i (8 * n) ≡ b → (i < 8 * n → bit (number n at d) i ≡ bit (get_or d (at + i / 8) 0) (i % 8))
          → bit (get_or d (at + n) 0 * 2 ^ (8 * n) + number n at d) i ≡ bit (get_or d (at + i / 8) 0) (i % 8)
      go true e ih = let h : i < 8 * n = ltb-true i (8 * n) e in bit_below (8 * n) (get_or d (at + n) 0) (number n at d) i h ∙ ih h
      go false e ih =
          let h : 8 * n ≤ i = ltb-false i (8 * n) e in
          let s : i ≡ 8 * n + (i - 8 * n) = omega arith in
          let q : n ≡ i / 8 = omega arith in
          let r : i - 8 * n ≡ i % 8 = omega arith in
          ap (bit (get_or d (at + n) 0 * 2 ^ (8 * n) + number n at d)) s
          ∙ bit_above (8 * n) (get_or d (at + n) 0) (number n at d) (i - 8 * n) (number_low n)
          ∙ ap₂ (λ (k j : ℕ). bit (get_or d (at + k) 0) j) q r

-- the word of a plane from its byte `at` on, and the four together
module _ (d : List ℕ) (bytes : (k : ℕ) → get_or d k 0 < 256) (at : ℕ) where
  bit_plane : (k : Block) (i : ℕ) → i < 64 → bit (number 8 (at + 16 * plane_of k) d) i ≡ has k d (8 * at + i)
  unfolding has
  bit_plane k i l =
      let q : at + 16 * plane_of k + i / 8 ≡ 16 * plane_of k + (8 * at + i) / 8 = omega arith in
      let r : i % 8 ≡ (8 * at + i) % 8 = omega arith in
      bit_number d bytes (at + 16 * plane_of k) 8 i l ∙ ap₂ (λ (k j : ℕ). bit (get_or d k 0) j) q r

  pub bit_blocked : (w x y z : ℕ) → w ≡ number 8 at d → x ≡ number 8 (at + 16) d → y ≡ number 8 (at + 32) d → z ≡ number 8 (at + 48) d
      → (i : ℕ) → i < 64 → bit (bit_or (bit_or (bit_or w x) y) z) i ≡ blocked_at d (8 * at + i)
  unfolding blocked_at
  bit_blocked w x y z ew ex ey ez i l =
      let e : w ≡ number 8 (at + 0) d = ew ∙ ap (λ (k : ℕ). number 8 k d) (sym (add-zero at)) in
      bit_or_lem (bit_or (bit_or w x) y) z i
      ∙ ap₂ ◌||◌
      (bit_or_lem (bit_or w x) y i ∙ ap₂ ◌||◌ (bit_or_lem w x i ∙ ap₂ ◌||◌ (one Idle w e) (one Suspended x ex)) (one Event y ey))
      (one Message z ez)
    where
      one : (k : Block) (v : ℕ) → v ≡ number 8 (at + 16 * plane_of k) d → bit v i ≡ has k d (8 * at + i)
      one k v e = ap (λ (n : ℕ). bit n i) e ∙ bit_plane k i l

-- ---- the low word x decides, unless none of its bits is clear
module _ (d : List ℕ) (x : ℕ) (low : (i : ℕ) → i < 64 → bit x i ≡ blocked_at d (8 * 0 + i)) where
  low_is : (j : ℕ) → j < 64 → (v : Bool) → bit x j ≡ v → blocked_at d j ≡ v
  low_is j l v e = let f : j ≡ 8 * 0 + j = omega arith in ap (blocked_at d) f ∙ sym (low j l) ∙ e

  pub found_low : (k : ℕ) → Lowest 64 (bit x) k → k < 64 → Lowest 128 (blocked_at d) k
  found_low k first l =
      record {
        most = omega arith;
        below = λ j h. low_is j (omega arith) true (first.below j h);
        here = λ h. low_is k l false (first.here l);
      }

  module _ (full : Lowest 64 (bit x) 64) (y : ℕ) (high : (i : ℕ) → i < 64 → bit y i ≡ blocked_at d (8 * 8 + i)) where
    low_blocked : (j : ℕ) → j < 64 → blocked_at d j ≡ true
    low_blocked j l = low_is j l true (full.below j l)

    high_is : (j : ℕ) → j < 64 → (v : Bool) → bit y j ≡ v → blocked_at d (j + 64) ≡ v
    high_is j l v e = let f : j + 64 ≡ 8 * 8 + j = omega arith in ap (blocked_at d) f ∙ sym (high j l) ∙ e

    pub found_high : (m : ℕ) → Lowest 64 (bit y) m → Lowest 128 (blocked_at d) (m + 64)
    found_high m first =
        record {
          most = omega (arith, first.most);
          below = λ j l. below j l (ltb j 64) refl;
          here = λ h. let l : m < 64 = omega arith in high_is m l false (first.here l);
        }
      where
        below : (j : ℕ) → j < m + 64 → (b : Bool) → ltb j 64 ≡ b → blocked_at d j ≡ true
        below j l true q = low_blocked j (ltb-true j 64 q)
        below j l false q =
            let h : 64 ≤ j = ltb-false j 64 q in
            let e : j ≡ j - 64 + 64 = omega arith in
            ap (blocked_at d) e ∙ high_is (j - 64) (omega (arith, first.most)) true (first.below (j - 64) (omega arith))
