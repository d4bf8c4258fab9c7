-- A copy in two halves that may overlap.
use Rattle.std.specs.Prelude.{◌≡◌, List, ◌++◌, ℕ, ◌+◌, ◌-◌, ◌≤◌, length, take, drop}
use Rattle.std.proofs.Common.{sym, ap, ◌∙◌, append_assoc, arith, length-drop, take-append-drop, drop-drop, take_all, take-take, take-add, length-take-le, drop_at, take_at}
use Rattle.std.proofs.lemmas.List.{take-append-le}
use Rattle.std.proofs.Math.Seq.{length_paste_head}
use Rattle.rows.specs.Splice.{cut, splice}

-- the first m bytes of s are copied, then the last m, from byte k on: all of s is
pub halves : (d d₁ d₂ s : List ℕ) (at k m : ℕ) → at + length s ≤ length d → k ≤ m → k + m ≡ length s
    → d₁ ≡ splice d at (take m s) → d₂ ≡ splice d₁ (at + k) (cut s k (k + m)) → d₂ ≡ splice d at s
halves d d₁ d₂ s at k m room h e p q =
    let A : List ℕ = take at d in
    let M : List ℕ = take m s in
    let R : List ℕ = drop (at + m) d in
    let la : length A ≡ at = length-take-le at d (omega arith) in
    let lm : length M ≡ m = length-take-le m s (omega arith) in
    let first : d₁ ≡ A ++ (M ++ R) = p ∙ rw (lm, append_assoc) in
    let front : take (at + k) d₁ ≡ A ++ take k s =
    take-add at k d₁
    ∙ rw (first, take_at A (M ++ R) at la, drop_at A (M ++ R) at la, take-append-le k M R (omega arith), take-take k m s h) in
    let n : at + k + length (drop k s) ≡ at + m + k = simp length-drop (omega arith) in
    let behind : drop (at + m + k) d₁ ≡ drop (at + m + k) d =
    sym (drop-drop k (at + m) d₁)
    ∙ ap (drop k) (ap (drop (at + m)) p ∙ drop_at (A ++ M) _ (at + m) (length_paste_head d at s m (omega arith) (omega arith)) ∙ rw lm)
    ∙ drop-drop k (at + m) d in
    let last : cut s k (k + m) ≡ drop k s = take_all (k + m - k) (drop k s) (simp length-drop (omega arith)) in
    let o : at + length s ≡ at + m + k = omega arith in
    q ∙ rw (last, front, n, behind, o, append_assoc A (take k s) (drop k s), take-append-drop)
