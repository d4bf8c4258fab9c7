-- What marking, keeping and lending a part make of a block: its marks, its part, its frame, and the bytes that stay.
use Rattle.std.specs.Prelude.{◌≡◌, refl, ◌⊎◌, true, ◌&&◌, ℕ, suc, ◌+◌, ◌-◌, ◌*◌, ◌/◌, ◌%◌, ◌^◌, ◌<◌, ◌≤◌, eqb, length, get_or, set}
use Rattle.std.proofs.Common.{sym, ap₂, ◌∙◌, inl, inr, arith}
use Rattle.std.proofs.Math.Path.{ap}
use mathlib.Core.List.{List, [], ◌∷◌}
use Rattle.std.proofs.lemmas.List.Edits.{sets-eq}
use borrow.Author.Tests.{eq-eqb}
use Rattle.ledger.specs.Lists.{byte, word}
use Rattle.rows.specs.Splice.{cut, splice}
use Rattle.rows.specs.Laws.{length_cut, length_splice, splice_splice, cut_whole, cut_behind}
use Rattle.rows.specs.Four.{le4, bytes4, four_back}
use borrow.Rule.Slice.PartMut.{put_mid, put_same}
use Rattle.rows.specs.Bytes.{byte_in, byte_below, byte_above, lent_part}
use Rattle.parts.specs.Parts.{part_at, frame_at, marked_by, ends, part, kept_frame, kept, Stays, Spares}

-- ---- four bytes of a block of which only others are new

same4 : (b b' : List ℕ) (i : ℕ) → ((j : ℕ) → i ≤ j → j < i + 4 → get_or b' j 0 ≡ get_or b j 0) → le4 b' i ≡ le4 b i
same4 b b' i h = rw (h i (omega arith) (omega arith), h (i + 1) (omega arith) (omega arith), h (i + 2) (omega arith) (omega arith), h (i + 3) (omega arith) (omega arith))

put4_is : (b : List ℕ) (i x : ℕ) → i + 4 ≤ length b → x < 2 ^ 32 → le4 (splice b i (bytes4 x)) i ≡ x
put4_is b i x h f =
    let z : i + 0 ≡ i = omega arith in
    let e : (j : ℕ) → j < 4 → get_or (splice b i (bytes4 x)) (i + j) 0 ≡ get_or (bytes4 x) j 0 = λ j l. byte_in b (bytes4 x) i h j l in
    let e0 : get_or (splice b i (bytes4 x)) i 0 ≡ x % 256 = ap (λ (k : ℕ). get_or (splice b i (bytes4 x)) k 0) (sym z) ∙ e 0 (omega arith) in
    rw (e0, e 1 (omega arith), e 2 (omega arith), e 3 (omega arith)) (four_back x f)

-- ---- a block with both marks

module _ (b : List ℕ) (size k : ℕ) (least : 8 ≤ size) (room : size ≤ length b) where
  abbrev front : List ℕ
  front = splice b 0 (bytes4 k)

  length_front : length front ≡ length b
  length_front = length_splice b 0 (bytes4 k) (omega arith)

  pub length_ends : length (ends k size b) ≡ length b
  length_ends = length_splice front (size - 4) (bytes4 k) (omega (arith, length_front)) ∙ length_front

  ends_stand : k < 2 ^ 32 → marked_by k size (ends k size b) ≡ true
  unfolding marked_by
  ends_stand f =
      let p : le4 (ends k size b) 0 ≡ k = same4 front (ends k size b) 0 (λ j a l. byte_below front (bytes4 k) (size - 4) (omega (arith, length_front)) j (omega arith)) ∙ put4_is b 0 k (omega arith) f in
      let q : le4 (ends k size b) (size - 4) ≡ k = put4_is front (size - 4) k (omega (arith, length_front)) f in
      rw (eq-eqb _ _ p, eq-eqb _ _ q)

  -- no byte between the marks, and none behind the block's size, is new
  ends_spare : (i : ℕ) → part_at ≤ i → (i < size - 4) ⊎ (size ≤ i) → get_or (ends k size b) i 0 ≡ get_or b i 0
  ends_spare i h (inl l) =
      byte_below front (bytes4 k) (size - 4) (omega (arith, length_front)) i l ∙ byte_above b (bytes4 k) 0 (omega arith) i (omega arith)
  ends_spare i h (inr l) =
      byte_above front (bytes4 k) (size - 4) (omega (arith, length_front)) i (omega arith) ∙ byte_above b (bytes4 k) 0 (omega arith) i (omega arith)

-- ---- bytes that stay keep the marks

pub marks_kept : (b b' : List ℕ) (n size k : ℕ) → part_at + n + 4 ≤ size → Stays n b b' → marked_by k size b' ≡ marked_by k size b
unfolding marked_by
marks_kept b b' n size k h s =
    ap₂ (λ (x y : ℕ). eqb x k && eqb y k)
    (same4 b b' 0 (λ j a l. s j (inl (omega arith))))
    (same4 b b' (size - 4) (λ j a l. s j (inr (omega arith))))

-- a block that was marked, and then had a new part
module _ (b b' : List ℕ) (size k n : ℕ) (fits : part_at + n + 4 ≤ size) (room : size ≤ length b) (s : Stays n (ends k size b) b') where
  pub marks_after : k < 2 ^ 32 → marked_by k size b' ≡ true
  marks_after f = marks_kept (ends k size b) b' n size k fits s ∙ ends_stand b size k (omega arith) room f

  pub spares_after : Spares n size b b'
  spares_after i h l = s i (inr h) ∙ ends_spare b size k (omega arith) room i (omega arith) l

-- ---- a block with a new part

pub part_stays : (b : List ℕ) (n : ℕ) (ys : List ℕ) → length ys ≡ n → part_at + n ≤ length b → Stays n b (splice b part_at ys)
part_stays b n ys ny room i (inl h) = byte_below b ys part_at (omega arith) i h
part_stays b n ys ny room i (inr h) = byte_above b ys part_at (omega arith) i (omega arith)

-- the part was lent, and is back
module _ (b : List ℕ) (n : ℕ) (ys : List ℕ) (ny : length ys ≡ length (cut b part_at (part_at + n))) (room : part_at + n ≤ length b) where
  abbrev pub back : List ℕ
  back = put_mid part_at (part_at + n - part_at) b ys

  back_length : length ys ≡ n
  back_length = ny ∙ length_cut b part_at (part_at + n) room ∙ omega arith

  back_is : back ≡ splice b part_at ys
  back_is = lent_part b part_at (part_at + n) ys (omega arith) room (omega (arith, back_length))

  pub back_part : part n back ≡ ys
  unfolding part
  back_part = ap (λ (x : List ℕ). cut x part_at (part_at + n)) back_is ∙ cut_whole b part_at (part_at + n) ys (omega arith) room (omega (arith, back_length))

  pub back_stays : Stays n b back
  back_stays i h = ap (λ (x : List ℕ). get_or x i 0) back_is ∙ part_stays b n ys back_length room i h

  pub back_same : ys ≡ part n b → back ≡ b
  unfolding part
  back_same e = ap (put_mid part_at (part_at + n - part_at) b) e ∙ put_same part_at (part_at + n - part_at) b

-- ---- the frame that is kept

-- the frame is copied first, and then its two bytes of length are set
kept_is : (b f : List ℕ) → frame_at + length f ≤ length b → splice (splice b frame_at f) part_at (length f / 256 ∷ length f % 256 ∷ []) ≡ splice b part_at (kept f)
kept_is b f room = splice_splice b part_at 2 (length f / 256 ∷ length f % 256 ∷ []) f refl room

pub keeping : (b f d : List ℕ) (n : ℕ) → n ≡ length f → frame_at + length f ≤ length b → d ≡ splice b frame_at f → set (set d part_at (n / 256)) (part_at + 1) (n % 256) ≡ splice b part_at (kept f)
keeping b f d n e room h =
    ap₂ (λ (l : List ℕ) (x : ℕ). set (set l part_at (x / 256)) (part_at + 1) (x % 256)) h e
    ∙ sets-eq (length f / 256 ∷ length f % 256 ∷ []) (splice b frame_at f) part_at (omega (arith, length_splice b frame_at f room))
    ∙ kept_is b f room

pub kept_frame_lem : (b f : List ℕ) → length f ≤ 65535 → frame_at + length f ≤ length b → kept_frame (splice b part_at (kept f)) ≡ f
unfolding kept_frame
kept_frame_lem b f few room =
    let z : part_at + 0 ≡ part_at = omega arith in
    let h : byte part_at (splice b part_at (kept f)) ≡ length f / 256 = ap (λ (i : ℕ). get_or (splice b part_at (kept f)) i 0) (sym z) ∙ byte_in b (kept f) part_at (omega arith) 0 (omega arith) in
    let l : byte (suc part_at) (splice b part_at (kept f)) ≡ length f % 256 = byte_in b (kept f) part_at (omega arith) 1 (omega arith) in
    let n : word part_at (splice b part_at (kept f)) ≡ length f = ap₂ (λ (x y : ℕ). 256 * x + y) h l ∙ omega arith in
    ap (λ (x : ℕ). cut (splice b part_at (kept f)) frame_at (frame_at + x)) n
    ∙ ap (λ (d : List ℕ). cut d frame_at (frame_at + length f)) (sym (kept_is b f room))
    ∙ cut_behind (splice b frame_at f) frame_at (frame_at + length f) part_at (length f / 256 ∷ length f % 256 ∷ []) (omega arith) (omega (arith, length_splice b frame_at f room))
    ∙ cut_whole b frame_at (frame_at + length f) f (omega arith) room (omega arith)
