-- A byte of a splice, and of a part that was lent and came back.
use Rattle.std.specs.Prelude.{◌≡◌, List, ◌++◌, ℕ, ◌+◌, ◌-◌, ◌<◌, ◌≤◌, length, get_or, take, drop}
use Rattle.std.proofs.Common.{sym, ap, ◌∙◌, append_assoc, arith, length-append, length-take, drop-drop, length-take-le, get_or-take, get_or-drop, get_or-append-add}
use Rattle.std.proofs.Math.ListN.{get_or-append}
use borrow.Rule.Slice.PartMut.{put_mid}
use Rattle.rows.specs.Splice.{splice}

module _ (d s : List ℕ) (at : ℕ) (room : at + length s ≤ length d) where
  pub byte_in : (i : ℕ) → i < length s → get_or (splice d at s) (at + i) 0 ≡ get_or s i 0
  byte_in i h =
      let n : length (take at d) ≡ at = length-take-le at d (omega arith) in
      ap (λ (l : List ℕ). get_or l (at + i) 0) (append_assoc (take at d) s (drop (at + length s) d))
      ∙ ap (λ (x : ℕ). get_or (take at d ++ (s ++ drop (at + length s) d)) (x + i) 0) (sym n)
      ∙ get_or-append-add (take at d) (s ++ drop (at + length s) d) i 0 ∙ get_or-append s (drop (at + length s) d) 0 i h

  pub byte_below : (i : ℕ) → i < at → get_or (splice d at s) i 0 ≡ get_or d i 0
  byte_below i h =
      get_or-append (take at d ++ s) (drop (at + length s) d) 0 i (simp (length-append, length-take) (omega arith))
      ∙ get_or-append (take at d) s 0 i (simp length-take (omega arith)) ∙ get_or-take at d i 0 h

  pub byte_above : (i : ℕ) → at + length s ≤ i → get_or (splice d at s) i 0 ≡ get_or d i 0
  byte_above i h =
      let n : length (take at d ++ s) ≡ at + length s = simp (length-append, length-take) (omega arith) in
      let k : ℕ = i - (at + length s) in
      let e : i ≡ at + length s + k = omega arith in
      ap (λ (x : ℕ). get_or (splice d at s) x 0) e ∙ ap (λ (x : ℕ). get_or (splice d at s) (x + k) 0) (sym n)
      ∙ get_or-append-add (take at d ++ s) (drop (at + length s) d) k 0 ∙ get_or-drop (at + length s) d k 0 ∙ ap (λ (x : ℕ). get_or d x 0) (sym e)

-- a part that was lent and came back is a splice
pub lent_part : (d : List ℕ) (a e : ℕ) (ys : List ℕ) → a ≤ e → e ≤ length d → length ys ≡ e - a → put_mid a (e - a) d ys ≡ splice d a ys
lent_part d a e ys h k l =
    let t : drop (e - a) (drop a d) ≡ drop (a + length ys) d = rw l (drop-drop (e - a) a d) in
    ap (λ (z : List ℕ). take a d ++ (ys ++ z)) t ∙ sym (append_assoc (take a d) ys (drop (a + length ys) d))
