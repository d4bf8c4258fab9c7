-- The reader's passes are the ledger's reading: a line that stands for a frame is all digits in pairs, and its frame their bytes.
use Prim.Native.Nat.{ℕ, zero, suc, ◌+◌, ◌*◌, ◌-◌, ◌/◌, ◌%◌, ◌<◌, ◌≤◌}
use mathlib.Core.Path.{◌≡◌, refl, sym, ◌∙◌}
use mathlib.Core.Bool.{Bool, true, false, ◌&&◌, and-true, and_assoc, and-eq-true_iff}
use mathlib.Core.List.{List, [], ◌∷◌}
use mathlib.Core.Option.{Option, none, some}
use native.Mathlib.Omega.{arith}
use lib.ListN.{length, get_or, take}
use lib.Dec.{leb, eqb}
use lib.Seq.{take_all}
use borrow.Author.Tests.{le-leb, lt-leb, leb-true, leb-false, eqb-true, eqb-false}
use Rattle.ledger.specs.Lists.{all}
use Rattle.ledger.specs.Config.{twos}
use Rattle.ledger.proofs.Theorems.Twos.{twos_length, twos_at}
use Rattle.ledger.specs.Lines.{longest_frame, digit_value, joined, bytes_of, frame_of}
use Rattle.ledger.proofs.Theorems.Lines.{Kind, decimal, letter, another, kind}
use Rattle.line.specs.Digits.{is_some, is_digit, nibble, pairs}

-- ---- one character

value_is : (d : ℕ) → is_digit d ≡ true → digit_value d ≡ some (nibble d)
unfolding is_digit
value_is d e = go (kind d)
  where
    go : Kind d → digit_value d ≡ some (nibble d)
    go (decimal lo hi g) =
        let q : d / 64 ≡ 0 = omega arith in
        let r : d % 16 ≡ d - 0x30 = omega arith in
        let p : nibble d ≡ d - 0x30 = rw (q, r) (omega arith) in
        cc
    go (letter lo hi g) =
        let q : d / 64 ≡ 1 = omega arith in
        let r : d % 16 ≡ d - 0x40 = omega arith in
        let p : nibble d ≡ d - 0x37 = rw (q, r) (omega arith) in
        cc
    go (another g) = let z : ◌≡◌ {A = ℕ} 0 1 = cc in absurd (omega arith)

pub none_there : {A : Type 0} (o : Option A) → is_some o ≡ false → o ≡ none
none_there none e = refl
none_there (some v) e = let z : ◌≡◌ {A = ℕ} 0 1 = cc in absurd (omega arith)

value_none : (d : ℕ) → is_digit d ≡ false → digit_value d ≡ none
unfolding is_digit
value_none d e = none_there (digit_value d) e

-- ---- the first pass

module _ (p : ℕ → Bool) where
  pub all_more : (l : List ℕ) (i : ℕ) → i < length l → all p (take (i + 1) l) ≡ all p (take i l) && p (get_or l i 0)
  unfolding all
  all_more [] i h = absurd (omega arith)
  all_more (x ∷ xs) zero h = and-true (p x)
  all_more (x ∷ xs) (suc i) h =
      let n : suc i + 1 ≡ suc (i + 1) = omega arith in
      rw (n, all_more xs i (omega arith)) (sym (and_assoc (p x) (all p (take i xs)) (p (get_or xs i 0))))

  pub all_whole : (l : List ℕ) (i : ℕ) → length l ≤ i → all p (take i l) ≡ all p l
  all_whole l i h = rw (take_all i l h)

-- a turn that tests the next character
pub digits_more : (l : List ℕ) (i : ℕ) (good x : Bool) → good ≡ all is_digit (take i l) → x ≡ is_digit (get_or l i 0) → i < length l → good && x ≡ all is_digit (take (i + 1) l)
digits_more l i good x e f h = rw (e, f) (sym (all_more is_digit l i h))

-- ---- the second pass

pub length_pairs : (ds : List ℕ) → length (pairs ds) ≡ length ds / 2
unfolding pairs
length_pairs ds = twos_length _ ds (length ds / 2) (omega arith) (omega arith)

pub get_d_pairs : (ds : List ℕ) (i : ℕ) → i < length ds / 2 → get_or (pairs ds) i 0 ≡ 16 * nibble (get_or ds (2 * i) 0) + nibble (get_or ds (2 * i + 1) 0)
unfolding pairs
get_d_pairs ds i b = twos_at _ i ds 0 (omega arith)

-- ---- the bytes of the digits: none of an odd line or one with another character

no_low : (x : Option ℕ) (z : Option (List ℕ)) → joined x none z ≡ none
unfolding joined
no_low none z = refl
no_low (some h) z = refl

no_rest : (x y : Option ℕ) → joined x y none ≡ none
unfolding joined
no_rest none y = refl
no_rest (some h) none = refl
no_rest (some h) (some l) = refl

odd_line : (ds : List ℕ) → length ds % 2 ≡ 1 → bytes_of ds ≡ none
unfolding bytes_of
odd_line [] e = absurd (omega arith)
odd_line (h ∷ []) e = refl
odd_line (h ∷ l ∷ ds) e = rw (odd_line ds (omega arith)) (no_rest (digit_value h) (digit_value l))

other_character : (ds : List ℕ) → all is_digit ds ≡ false → bytes_of ds ≡ none
unfolding bytes_of joined all
other_character [] e = let z : ◌≡◌ {A = ℕ} 0 1 = cc in absurd (omega arith)
other_character (h ∷ []) e = refl
other_character (h ∷ l ∷ ds) e = go (is_digit h) (is_digit l) refl refl e (other_character ds)
  where
    go : (a b : Bool) → is_digit h ≡ a → is_digit l ≡ b → a && (b && all is_digit ds) ≡ false → (all is_digit ds ≡ false → bytes_of ds ≡ none) → bytes_of (h ∷ l ∷ ds) ≡ none
    go false b p q g rest = rw (value_none h p)
    go true false p q g rest = rw (value_none l q) (no_low (digit_value h) (bytes_of ds))
    go true true p q g rest = rw (rest g) (no_rest (digit_value h) (digit_value l))

good_line : (ds : List ℕ) → length ds % 2 ≡ 0 → all is_digit ds ≡ true → bytes_of ds ≡ some (pairs ds)
unfolding bytes_of joined all pairs twos
good_line [] e a = refl
good_line (h ∷ []) e a = absurd (omega arith)
good_line (h ∷ l ∷ ds) e a =
    let t = (and-eq-true_iff (is_digit h) (is_digit l && all is_digit ds)).0 a in
    let u = (and-eq-true_iff (is_digit l) (all is_digit ds)).0 t.1 in
    rw (value_is h t.0, value_is l u.0, good_line ds (omega arith) u.1)

-- ---- the line

module _ (ds : List ℕ) where
  pub long_line : 2 * longest_frame < length ds → frame_of ds ≡ none
  unfolding frame_of
  long_line h = rw (lt-leb (length ds) (2 * longest_frame) h)

  module _ (short : length ds ≤ 2 * longest_frame) where
    pub odd_number : (length ds % 2 ≡ 0 → ⊥) → frame_of ds ≡ none
    unfolding frame_of
    odd_number h = rw (le-leb (length ds) (2 * longest_frame) short) (odd_line ds (omega arith))

    module _ (even : length ds % 2 ≡ 0) where
      good_frame : all is_digit ds ≡ true → frame_of ds ≡ some (pairs ds)
      unfolding frame_of
      good_frame a = rw (le-leb (length ds) (2 * longest_frame) short) (good_line ds even a)

      no_frame : all is_digit ds ≡ false → frame_of ds ≡ none
      unfolding frame_of
      no_frame a = rw (le-leb (length ds) (2 * longest_frame) short) (other_character ds a)

      pub digits_decide : all is_digit ds ≡ is_some (frame_of ds)
      digits_decide = go (all is_digit ds) refl
        where
          go : (b : Bool) → all is_digit ds ≡ b → b ≡ is_some (frame_of ds)
          go true e = rw (good_frame e)
          go false e = rw (no_frame e)

  -- the frame of a line that stands for one
  pub frame_is_pairs : is_some (frame_of ds) ≡ true → frame_of ds ≡ some (pairs ds)
  frame_is_pairs e = go (leb (length ds) (2 * longest_frame)) (eqb (length ds % 2) 0) refl refl
    where
      never : frame_of ds ≡ none → frame_of ds ≡ some (pairs ds)
      never g = let z : ◌≡◌ {A = ℕ} 0 1 = cc in absurd (omega arith)

      go : (a b : Bool) → leb (length ds) (2 * longest_frame) ≡ a → eqb (length ds % 2) 0 ≡ b → frame_of ds ≡ some (pairs ds)
      go false b p q = never (long_line (leb-false (length ds) (2 * longest_frame) p))
      go true false p q = never (odd_number (leb-true (length ds) (2 * longest_frame) p) (eqb-false (length ds % 2) 0 q))
      go true true p q =
          let short = leb-true (length ds) (2 * longest_frame) p in
          let even = eqb-true (length ds % 2) 0 q in
          good_frame short even (digits_decide short even ∙ e)
