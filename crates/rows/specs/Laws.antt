-- Laws of `cut` and `splice`, and the turns of the loops that copy and shift.
use Rattle.std.specs.Prelude.{◌≡◌, List, [], ◌∷◌, ◌++◌, ℕ, zero, suc, ◌+◌, ◌-◌, ◌<◌, ◌≤◌, length, get_or, take, drop, set, ◌⊎◌}
use Rattle.std.proofs.Common.{sym, ap, ◌∙◌, subst, append_assoc, append-nil, add_assoc, add-one, arith, drop_of_length-le, length-append, length-take, length-drop, take-append-drop, inl, inr, take_at, length-take-le, drop-cons, take-suc, get_or-take, get_or-drop, get_or-append-add, take-take, take-add, drop-drop, drop_at}
use Rattle.std.proofs.Math.ListN.{get_or-append}
use Rattle.std.proofs.lemmas.List.Edits.{sets-eq}
use Rattle.std.proofs.Math.Seq.{take-nil, take-length, paste, paste-zero, paste-suc, length_paste_head}
use Rattle.std.proofs.lemmas.List.{set_at, take-append-le, drop-append-le}
use borrow.Rule.Slice.PartMut.{put_mid}
use Rattle.rows.specs.Splice.{cut, splice}

pub length_cut : (d : List ℕ) (a e : ℕ) → e ≤ length d → length (cut d a e) ≡ e - a
length_cut d a e h = simp (length-take, length-drop) (omega arith)

pub get_d_cut : (d : List ℕ) (a e i : ℕ) → i < e - a → get_or (cut d a e) i 0 ≡ get_or d (a + i) 0
get_d_cut d a e i h = get_or-take (e - a) (drop a d) i 0 h ∙ get_or-drop a d i 0

pub length_splice : (d : List ℕ) (at : ℕ) (s : List ℕ) → at + length s ≤ length d → length (splice d at s) ≡ length d
length_splice d at s h = simp (length-append, length-take, length-drop) (omega arith)

pub paste_is : (d : List ℕ) (at : ℕ) (s : List ℕ) → paste d at s (length s) ≡ splice d at s
paste_is d at s = rw take-length

pub paste_cut : (d : List ℕ) (at a e : ℕ) → e ≤ length d → paste d at (drop a d) (e - a) ≡ splice d at (cut d a e)
paste_cut d at a e h = rw (length_cut d a e h)

-- what lies past the copied part is as it was
pub ahead : (d : List ℕ) (at : ℕ) (s : List ℕ) (j k : ℕ) → at + j ≤ length d → j ≤ length s → get_or (paste d at s j) (at + j + k) 0 ≡ get_or d (at + j + k) 0
ahead d at s j k hd hs =
    let e : length (take at d ++ take j s) ≡ at + j = length_paste_head d at s j (omega arith) hs in
    subst (λ (n : ℕ). get_or (paste d at s j) (n + k) 0 ≡ get_or d (at + j + k) 0) e
    (get_or-append-add (take at d ++ take j s) (drop (at + j) d) k 0 ∙ get_or-drop (at + j) d k 0)

-- a shift upwards, when all from index i on has been moved
abbrev pub raised : List ℕ → ℕ → ℕ → ℕ → List ℕ
raised d i to w = take (i + w) d ++ cut d i to ++ drop (to + w) d

pub raised_zero : (d : List ℕ) (to w : ℕ) → d ≡ raised d to to w
raised_zero d to w =
    let z : to - to ≡ 0 = omega arith in
    sym (rw (z, append-nil, take-append-drop))

pub raised_is : (d : List ℕ) (i to w : ℕ) → i ≤ to → to + w ≤ length d → raised d i to w ≡ splice d (i + w) (cut d i to)
raised_is d i to w h k =
    let e : i + w + length (cut d i to) ≡ to + w = rw (length_cut d i to (omega arith)) (omega arith) in
    rw e

pub raised_step : (d : List ℕ) (j to w : ℕ) → j < to → to + w ≤ length d
    → set (raised d (suc j) to w) (j + w) (get_or (raised d (suc j) to w) j 0) ≡ raised d j to w
raised_step d j to w h k =
    let y = get_or d (j + w) 0 in
    let v = get_or d j 0 in
    let P = take (j + w) d in
    let B = take (to - suc j) (drop (suc j) d) in
    let C = drop (to + w) d in
    let A = take (suc j + w) d in
    let a : j < length A = simp length-take (omega arith) in
    let g : get_or (raised d (suc j) to w) j 0 ≡ v =
    get_or-append (A ++ B) C 0 j (simp length-append (omega arith)) ∙ get_or-append A B 0 j a ∙ get_or-take (suc j + w) d j 0 (omega arith) in
    let n : suc j + w ≡ suc (j + w) = omega arith in
    let t : A ≡ P ++ (y ∷ []) = rw n (take-suc d (j + w) 0 (omega arith)) in
    let o : A ++ B ++ C ≡ P ++ (y ∷ (B ++ C)) = rw t (simp append_assoc) in
    let q : set (P ++ (y ∷ (B ++ C))) (j + w) v ≡ P ++ (v ∷ (B ++ C)) = set_at P y (B ++ C) v (j + w) (length-take-le (j + w) d (omega arith)) in
    let m : to - j ≡ suc (to - suc j) = omega arith in
    let r : P ++ (v ∷ (B ++ C)) ≡ raised d j to w = rw (m, drop-cons d j 0 (omega arith), append_assoc) in
    ap (λ (x : ℕ). set (raised d (suc j) to w) (j + w) x) g ∙ ap (λ (l : List ℕ). set l (j + w) v) o ∙ q ∙ r

-- ---- the loops' turns and ends, in the form in which the needs ask them

module _ (d₀ d s : List ℕ) (at j : ℕ) (room : at + length s ≤ length d₀) (now : d ≡ paste d₀ at s j) where
  pub copied_turn : j < length s → set d (at + j) (get_or s j 0) ≡ paste d₀ at s (j + 1)
  copied_turn h = rw (now, add-one) (paste-suc d₀ at s j 0 (omega arith) h)

  pub copied_end : j ≤ length s → length s ≤ j → d ≡ splice d₀ at s
  copied_end h k = let e : j ≡ length s = omega arith in now ∙ rw e (paste_is d₀ at s)

module _ (d₀ d : List ℕ) (i to w : ℕ) (room : to + w ≤ length d₀) (now : d ≡ raised d₀ i to w) where
  pub raised_turn : 0 < i → i ≤ to → set d (i - 1 + w) (get_or d (i - 1) 0) ≡ raised d₀ (i - 1) to w
  raised_turn h k =
      let e : i ≡ suc (i - 1) = omega arith in
      let t : d ≡ raised d₀ (suc (i - 1)) to w = now ∙ ap (λ (n : ℕ). raised d₀ n to w) e in
      rw t (raised_step d₀ (i - 1) to w (omega arith) room)

  pub raised_end : (from : ℕ) → from ≤ i → i ≤ from → i ≤ to → d ≡ splice d₀ (from + w) (cut d₀ from to)
  raised_end from h k l = let e : i ≡ from = omega arith in now ∙ rw e (raised_is d₀ from to w (omega arith) room)

pub lowered_zero : (d : List ℕ) (from w : ℕ) → d ≡ paste d from (drop (from + w) d) (from - from)
lowered_zero d from w =
    let z : from - from ≡ 0 = omega arith in
    rw z (paste-zero d from (drop (from + w) d))

module _ (d₀ d : List ℕ) (from to w i : ℕ) (room : to ≤ length d₀) (fits : from + w ≤ to) (now : d ≡ paste d₀ from (drop (from + w) d₀) (i - from)) where
  pub lowered_turn : from ≤ i → i < to - w → set d i (get_or d (i + w) 0) ≡ paste d₀ from (drop (from + w) d₀) (i + 1 - from)
  lowered_turn f h =
      let j : ℕ = i - from in
      let len : j < length (drop (from + w) d₀) = simp length-drop (omega arith) in
      let at : i ≡ from + j = omega arith in
      let e : from + j + w ≡ from + w + j = omega arith in
      let s : i + 1 - from ≡ suc j = omega arith in
      let g : get_or d (from + j + w) 0 ≡ get_or (drop (from + w) d₀) j 0 =
      rw now (ahead d₀ from (drop (from + w) d₀) j w (omega arith) (omega arith)) ∙ ap (λ (n : ℕ). get_or d₀ n 0) e ∙ sym (get_or-drop (from + w) d₀ j 0) in
      ap (λ (k : ℕ). set d k (get_or d (k + w) 0)) at
      ∙ ap (λ (v : ℕ). set d (from + j) v) g
      ∙ ap (λ (l : List ℕ). set l (from + j) (get_or (drop (from + w) d₀) j 0)) now
      ∙ paste-suc d₀ from (drop (from + w) d₀) j 0 (omega arith) len
      ∙ ap (paste d₀ from (drop (from + w) d₀)) (sym s)

  pub lowered_end : to - w ≤ i → i ≤ to - w → d ≡ splice d₀ from (cut d₀ (from + w) to)
  lowered_end h k = let e : i - from ≡ to - (from + w) = omega arith in now ∙ rw e (paste_cut d₀ from (from + w) to room)

-- ---- a splice into a splice: the part behind is moved first, then the part before it is written
pub splice_splice : (d : List ℕ) (a w : ℕ) (s m : List ℕ) → length s ≡ w → a + w + length m ≤ length d → splice (splice d (a + w) m) a s ≡ splice d a (s ++ m)
splice_splice d a w s m e h =
    let X : List ℕ = take (a + w) d in
    let R : List ℕ = drop (a + w + length m) d in
    let lx : length X ≡ a + w = length-take-le (a + w) d (omega arith) in
    let t : take a (splice d (a + w) m) ≡ take a d =
    rw append_assoc (take-append-le a X (m ++ R) (omega arith) ∙ take-take a (a + w) d (omega arith)) in
    let u : drop (a + length s) (splice d (a + w) m) ≡ m ++ R =
    rw (e, append_assoc) (drop_at X (m ++ R) (a + w) lx) in
    let v : a + length (s ++ m) ≡ a + w + length m = simp length-append (omega arith) in
    rw (t, u, v) (simp append_assoc)

-- a splice within the part of w elements from index a on is that part's splice
pub splice_in : (d : List ℕ) (a w j : ℕ) (s : List ℕ) → a + w ≤ length d → j + length s ≤ w
    → splice d (a + j) s ≡ splice d a (splice (take w (drop a d)) j s)
splice_in d a w j s room h =
    let X : List ℕ = drop a d in
    let r : List ℕ = take w X in
    let m : ℕ = j + length s in
    let lr : length r ≡ w = simp (length-take, length-drop) (omega arith) in
    let lr' : m ≤ length r = omega arith in
    let ls : length (splice r j s) ≡ w = length_splice r j s lr' ∙ lr in
    let t : take (a + j) d ≡ take a d ++ take j r = take-add a j d ∙ ap (λ (z : List ℕ). take a d ++ z) (sym (take-take j w X (omega arith))) in
    let x : X ≡ r ++ drop w X = sym (take-append-drop w X) in
    let u : drop (a + j + length s) d ≡ drop m r ++ drop w X =
    ap (λ (z : ℕ). drop z d) (add_assoc a j (length s)) ∙ sym (drop-drop m a d) ∙ ap (drop m) x ∙ drop-append-le m r (drop w X) lr' in
    let v : drop (a + length (splice r j s)) d ≡ drop w X = rw ls (sym (drop-drop w a d)) in
    rw (t, u, v) (simp append_assoc)

-- a part `&mut d[a..e]` that was lent, and came back with a splice in it
pub lent_back : (d : List ℕ) (a e j : ℕ) (s ys : List ℕ) → a ≤ e → e ≤ length d → j + length s ≤ e - a → ys ≡ splice (cut d a e) j s
    → put_mid a (e - a) d ys ≡ splice d (a + j) s
lent_back d a e j s ys h k l ey =
    let lc : length (cut d a e) ≡ e - a = length_cut d a e k in
    let ly : length ys ≡ e - a = ap length ey ∙ length_splice (cut d a e) j s (omega arith) ∙ lc in
    let t : drop (e - a) (drop a d) ≡ drop (a + length ys) d = rw ly (drop-drop (e - a) a d) in
    ap (λ (z : List ℕ). take a d ++ (ys ++ z)) t
    ∙ sym (append_assoc (take a d) ys (drop (a + length ys) d))
    ∙ ap (splice d a) ey
    ∙ sym (splice_in d a (e - a) j s (omega arith) l)

-- ---- a part that a splice does not reach
pub cut_before : (d : List ℕ) (a e at : ℕ) (s : List ℕ) → a ≤ e → e ≤ at → at ≤ length d → cut (splice d at s) a e ≡ cut d a e
cut_before d a e at s h k l =
    let P : List ℕ = take at d in
    let R : List ℕ = s ++ drop (at + length s) d in
    let n : length P ≡ at = length-take-le at d l in
    let p : splice d at s ≡ P ++ R = append_assoc P s (drop (at + length s) d) in
    let q : drop a (P ++ R) ≡ drop a P ++ R = drop-append-le a P R (omega arith) in
    let r : take (e - a) (drop a P ++ R) ≡ take (e - a) (drop a P) = take-append-le (e - a) (drop a P) R (simp length-drop (omega arith)) in
    let x : drop a d ≡ drop a P ++ drop at d =
    ap (drop a) (sym (take-append-drop at d)) ∙ drop-append-le a P (drop at d) (omega arith) in
    let y : take (e - a) (drop a P ++ drop at d) ≡ take (e - a) (drop a P) = take-append-le (e - a) (drop a P) (drop at d) (simp length-drop (omega arith)) in
    ap (λ (z : List ℕ). cut z a e) p ∙ ap (take (e - a)) q ∙ r ∙ sym (ap (take (e - a)) x ∙ y)

pub cut_behind : (d : List ℕ) (a e at : ℕ) (s : List ℕ) → at + length s ≤ a → at + length s ≤ length d → cut (splice d at s) a e ≡ cut d a e
cut_behind d a e at s h l =
    let P : List ℕ = take at d ++ s in
    let n : length P ≡ at + length s = simp (length-append, length-take) (omega arith) in
    let m : a ≡ at + length s + (a - (at + length s)) = omega arith in
    let q : drop a (splice d at s) ≡ drop a d =
    ap (λ (z : ℕ). drop z (splice d at s)) m
    ∙ sym (drop-drop (a - (at + length s)) (at + length s) (splice d at s))
    ∙ ap (drop (a - (at + length s))) (drop_at P (drop (at + length s) d) (at + length s) n)
    ∙ drop-drop (a - (at + length s)) (at + length s) d
    ∙ ap (λ (z : ℕ). drop z d) (sym m) in
    ap (take (e - a)) q

-- the whole part, replaced
pub cut_whole : (d : List ℕ) (a e : ℕ) (s : List ℕ) → a ≤ e → e ≤ length d → length s ≡ e - a → cut (splice d a s) a e ≡ s
cut_whole d a e s h k l =
    let p : splice d a s ≡ take a d ++ (s ++ drop (a + length s) d) = append_assoc (take a d) s (drop (a + length s) d) in
    let q : drop a (take a d ++ (s ++ drop (a + length s) d)) ≡ s ++ drop (a + length s) d = drop_at (take a d) (s ++ drop (a + length s) d) a (length-take-le a d (omega arith)) in
    ap (λ (z : List ℕ). take (e - a) (drop a z)) p ∙ ap (take (e - a)) q ∙ take_at s (drop (a + length s) d) (e - a) l

-- ---- a part that a splice lies within
pub cut_inside : (d : List ℕ) (a e i : ℕ) (s : List ℕ) → a ≤ e → e ≤ length d → i + length s ≤ e - a → cut (splice d (a + i) s) a e ≡ splice (cut d a e) i s
cut_inside d a e i s h k l =
    let lc : length (cut d a e) ≡ e - a = length_cut d a e k in
    ap (λ (z : List ℕ). cut z a e) (splice_in d a (e - a) i s (omega arith) l)
    ∙ cut_whole d a e (splice (cut d a e) i s) h k (length_splice (cut d a e) i s (omega arith) ∙ lc)

-- a part that a splice does not reach, on either side
pub cut_apart : (d : List ℕ) (a e at : ℕ) (s : List ℕ) → a ≤ e → at + length s ≤ length d → (e ≤ at) ⊎ (at + length s ≤ a) → cut (splice d at s) a e ≡ cut d a e
cut_apart d a e at s h k (inl l) = cut_before d a e at s h l (omega arith)
cut_apart d a e at s h k (inr l) = cut_behind d a e at s l k

-- one element is replaced
pub set_is_splice : (d : List ℕ) (i v : ℕ) → i < length d → set d i v ≡ splice d i (v ∷ [])
set_is_splice d i v h = sets-eq (v ∷ []) d i (omega arith)

-- all of it is replaced
pub splice_whole : (d s : List ℕ) → length s ≡ length d → splice d 0 s ≡ s
splice_whole d s h =
    let e : drop (0 + length s) d ≡ [] = drop_of_length-le d {i = 0 + length s} (omega arith) in
    rw e (append-nil s)

drop_take : (n m : ℕ) (l : List ℕ) → drop n (take m l) ≡ take (m - n) (drop n l)
drop_take zero m l = let e : m - 0 ≡ m = omega arith in rw e
drop_take (suc n) zero l = let e : 0 - suc n ≡ 0 = omega arith in rw e
drop_take (suc n) (suc m) [] = sym (take-nil (suc m - suc n))
drop_take (suc n) (suc m) (x ∷ xs) = let e : suc m - suc n ≡ m - n = omega arith in rw e (drop_take n m xs)

-- a part of a part
pub cut_cut : (d : List ℕ) (a e x y : ℕ) → a + y ≤ e → cut (cut d a e) x y ≡ cut d (a + x) (a + y)
cut_cut d a e x y h =
    let n : a + y - (a + x) ≡ y - x = omega arith in
    ap (take (y - x)) (drop_take x (e - a) (drop a d)) ∙ take-take (y - x) (e - a - x) (drop x (drop a d)) (omega arith)
    ∙ ap (take (y - x)) (drop-drop x a d) ∙ ap (λ (m : ℕ). take m (drop (a + x) d)) (sym n)
