-- The answer block: the answer's length, the answer, and the bytes behind it as they were.
use Rattle.std.specs.Prelude.{◌≡◌, refl, Bool, true, false, cond, leb, drop}
use Rattle.std.proofs.Math.Path.{sym, ap}
use Rattle.std.proofs.Common.{◌∙◌, leb-true, leb-false, length-append, length-take, take_at, drop_at, drop-drop, take-take, take_all}
use mathlib.Core.List.{List, [], ◌∷◌, ◌++◌}
use Prim.Native.Nat.{ℕ, suc, ◌+◌, ◌-◌, ◌*◌, ◌≤◌}
use native.Mathlib.Omega.{arith}
use Rattle.std.proofs.Math.ListN.{length, take}
use Rattle.rows.specs.Splice.{cut, splice}
use Rattle.rows.specs.Rows.{row_at}
use Rattle.tables.specs.Decode.{count_of}
use Rattle.ledger.specs.Ledger.{Outcome, entry}
use Rattle.ledger.specs.Session.{shown}
use Rattle.answer.specs.declared.Head.{Head}

-- the bytes of the block: the length, and the longest answer
abbrev pub answer_bytes : ℕ
answer_bytes = 21

unfoldable pub written : (answer old : List ℕ) → List ℕ
written a old = (length a ∷ a) ++ drop (suc (length a)) old

-- an answer, as what stands before the outcome, its kind and its value
abbrev pub parts : Head → (kind : ℕ) (value : List ℕ) → List ℕ
parts h k v = h.number ∷ h.running ∷ h.reissues ∷ k ∷ v

unfoldable pub line : Head → Outcome → List ℕ
line h o = h.number ∷ h.running ∷ h.reissues ∷ shown o

-- as many bytes of a slot of 16 as a width asks for
abbrev pub narrow : ℕ → ℕ
narrow w = count_of 16 w

-- a block's front, and then what follows it
followed : (old h v : List ℕ) (n : ℕ) → length h ≡ n → n + length v ≤ length old → splice (splice old 0 h) n v ≡ splice old 0 (h ++ v)
followed old h v n e l =
    let x : 0 + length h ≡ n = omega arith in
    let y : 0 + length (h ++ v) ≡ n + length v = simp length-append (omega arith) in
    let R : List ℕ = drop n old in
    let t : take n (h ++ R) ≡ h = take_at h R n e in
    let d : drop (n + length v) (h ++ R) ≡ drop (n + length v) old =
    sym (drop-drop (length v) n (h ++ R)) ∙ ap (drop (length v)) (drop_at h R n e) ∙ drop-drop (length v) n old in
    rw (x, t, d, y)

written_is : (a old : List ℕ) → written a old ≡ splice old 0 (length a ∷ a)
unfolding written
written_is a old = let x : 0 + suc (length a) ≡ suc (length a) = omega arith in rw x

-- the first five bytes, and then the value
pub valued : (old mid : List ℕ) (h : Head) (n k : ℕ) (v : List ℕ) → mid ≡ splice old 0 (n ∷ parts h k []) → n ≡ length v + 4 → 5 + length v ≤ length old
    → splice mid 5 v ≡ written (parts h k v) old
valued old mid h n k v e m l =
    let x : n ≡ length (parts h k v) = omega arith in
    ap (λ (d : List ℕ). splice d 5 v) e ∙ followed old (n ∷ parts h k []) v 5 refl l
    ∙ ap (λ (i : ℕ). splice old 0 (i ∷ parts h k v)) x ∙ sym (written_is (parts h k v) old)

-- the front of a slot: at most its 16 bytes
narrow_front : (w : ℕ) (s : List ℕ) → take w (take 16 s) ≡ take (narrow w) s
narrow_front w s = go (leb w 16) refl
  where
    go : (b : Bool) → leb w 16 ≡ b → take w (take 16 s) ≡ take (cond b w 16) s
    go true e = take-take w 16 s (leb-true w 16 e)
    go false e = take_all w (take 16 s) (simp length-take (omega (arith, leb-false w 16 e)))

-- an entry out of the slot of task t
pub entered : (old z : List ℕ) (h : Head) (width w t : ℕ) → w ≡ narrow width
    → written (parts h 3 (cut z ((t - 1) * 16) ((t - 1) * 16 + w))) old ≡ written (line h (entry (take width (row_at 16 (t - 1) z)))) old
unfolding line shown
entered old z h width w t e =
    let a : ℕ = (t - 1) * 16 in
    let i : a + w - a ≡ w = omega arith in
    let x : cut z a (a + w) ≡ take width (row_at 16 (t - 1) z) = ap (λ (j : ℕ). take j (drop a z)) (i ∙ e) ∙ sym (narrow_front width (drop a z)) in
    ap (λ (y : List ℕ). written (parts h 3 y) old) x
