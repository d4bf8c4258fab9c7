-- Reading and writing lines are inverse to each other: a frame's line reads back as that frame, and a line that reads is the
-- line of its frame. So no two frames have one line, and no two lines one frame.
use Rattle.std.specs.Prelude.{ℕ, zero, suc, ◌+◌, ◌*◌, ◌-◌, ◌/◌, ◌%◌, ◌≤◌, ◌<◌, ◌≡◌, refl, Bool, true, false, cond, List, [], ◌∷◌, ltb, leb, length, get_or}
use Rattle.std.proofs.Common.{sym, ◌∙◌, ap, subst, arith, ltb-true, ltb-false, leb-true, lt-ltb, le-ltb, le-leb}
use Rattle.std.proofs.Math.Bool.{and-eq-true_iff}
use Rattle.std.proofs.Math.Option.{Option, none, some}
use Rattle.std.proofs.lemmas.Bool.{lt-leb}
use Rattle.ledger.specs.Lists.{within}
use Rattle.ledger.specs.Lines.{longest_frame, digit_value, digit_of, joined, bytes_of, digits_of, frame_of, line_of, number, result, written_into, read_line, write_line}

-- each item of a frame is a byte
abbrev pub Bytes : List ℕ → Type 0
Bytes f = (i : ℕ) → get_or f i 0 < 256

-- ---- one digit

pub digit_reads_back : (v : ℕ) → v < 16 → digit_value (digit_of v) ≡ some v
unfolding digit_value digit_of
digit_reads_back v h = go (ltb v 10) refl
  where
    go : (b : Bool) → ltb v 10 ≡ b → digit_value (digit_of v) ≡ some v
    go true e =
        let s = ltb-true v 10 e in
        let p : 0x30 + v - 0x30 ≡ v = omega arith in
        rw (e, le-leb 0x30 (0x30 + v) (omega arith), le-leb (0x30 + v) 0x39 (omega arith), p)
    go false e =
        let s = ltb-false v 10 e in
        let p : 0x37 + v - 0x37 ≡ v = omega arith in
        rw (e, le-leb 0x30 (0x37 + v) (omega arith), lt-leb (0x37 + v) 0x39 (omega arith), le-leb 0x41 (0x37 + v) (omega arith), le-leb (0x37 + v) 0x46 (omega arith), p)

-- a character is one of three kinds
pub data Kind (d : ℕ) : Type 0 where
  decimal : 0x30 ≤ d → d ≤ 0x39 → digit_value d ≡ some (d - 0x30) → Kind d
  letter : 0x41 ≤ d → d ≤ 0x46 → digit_value d ≡ some (d - 0x37) → Kind d
  another : digit_value d ≡ none → Kind d

pub kind : (d : ℕ) → Kind d
unfolding digit_value
kind d = go (within 0x30 0x39 d) refl (within 0x41 0x46 d) refl
  where
    go : (a : Bool) → within 0x30 0x39 d ≡ a → (b : Bool) → within 0x41 0x46 d ≡ b → Kind d
    go true e b g =
        let t = (and-eq-true_iff (leb 0x30 d) (leb d 0x39)).0 e in
        decimal (leb-true 0x30 d t.0) (leb-true d 0x39 t.1) (rw e)
    go false e true g =
        let t = (and-eq-true_iff (leb 0x41 d) (leb d 0x46)).0 g in
        letter (leb-true 0x41 d t.0) (leb-true d 0x46 t.1) (rw (e, g))
    go false e false g = another (rw (e, g))

-- a digit's value is below 16, and the digit is that value's
pub record Digit (d v : ℕ) : Type 0 where
  pub small : v < 16
  pub is : digit_of v ≡ d

pub digit_of_value : (d v : ℕ) → digit_value d ≡ some v → Digit d v
unfolding digit_of
digit_of_value d v e = go (kind d)
  where
    go : Kind d → Digit d v
    go (decimal lo hi g) =
        let p : v ≡ d - 0x30 = cc in
        let q : 0x30 + v ≡ d = omega arith in
        record { small = omega arith; is = rw (lt-ltb v 10 (omega arith), q) }
    go (letter lo hi g) =
        let p : v ≡ d - 0x37 = cc in
        let q : 0x37 + v ≡ d = omega arith in
        record { small = omega arith; is = rw (le-ltb v 10 (omega arith), q) }
    go (another g) = let z : ◌≡◌ {A = ℕ} 0 1 = cc in absurd (omega arith)

-- ---- all digits

bytes_read_back : (f : List ℕ) → Bytes f → bytes_of (digits_of f) ≡ some f
unfolding bytes_of digits_of joined
bytes_read_back [] all = refl
bytes_read_back (b ∷ bs) all =
    let h = all 0 in
    let p : 16 * (b / 16) + b % 16 ≡ b = omega arith in
    rw (digit_reads_back (b / 16) (omega arith), digit_reads_back (b % 16) (omega arith), bytes_read_back bs (λ i. all (suc i)), p)

-- a line that reads: its digits are those of its bytes
pub record Line (ds f : List ℕ) : Type 0 where
  pub bytes : Bytes f
  pub digits : digits_of f ≡ ds

line_of_byte : (h l a b : ℕ) (ds r : List ℕ) → Digit h a → Digit l b → Line ds r → Line (h ∷ l ∷ ds) ((16 * a + b) ∷ r)
unfolding digits_of
line_of_byte h l a b ds r x y z =
    let p : (16 * a + b) / 16 ≡ a = omega (arith, x.small, y.small) in
    let q : (16 * a + b) % 16 ≡ b = omega (arith, x.small, y.small) in
    record { bytes = below; digits = rw (p, q, x.is, y.is, z.digits) }
  where
    below : Bytes ((16 * a + b) ∷ r)
    below zero = omega (arith, x.small, y.small)
    below (suc i) = z.bytes i

pub line_of_bytes : (ds f : List ℕ) → bytes_of ds ≡ some f → Line ds f
unfolding bytes_of digits_of joined
line_of_bytes [] f e =
    let p : [] ≡ f = cc in
    subst (Line []) p (record { bytes = λ i. omega arith; digits = refl })
line_of_bytes (h ∷ []) f e = let z : ◌≡◌ {A = ℕ} 0 1 = cc in absurd (omega arith)
line_of_bytes (h ∷ l ∷ ds) f e = go (digit_value h) (digit_value l) (bytes_of ds) refl refl refl e (line_of_bytes ds)
  where
    nothing : none ≡ some f → Line (h ∷ l ∷ ds) f
    nothing g = let z : ◌≡◌ {A = ℕ} 0 1 = cc in absurd (omega arith)

    go : (x y : Option ℕ) (z : Option (List ℕ)) → digit_value h ≡ x → digit_value l ≡ y → bytes_of ds ≡ z → joined x y z ≡ some f
        → ((r : List ℕ) → bytes_of ds ≡ some r → Line ds r) → Line (h ∷ l ∷ ds) f
    go none y z p q r g rest = nothing g
    go (some a) none z p q r g rest = nothing g
    go (some a) (some b) none p q r g rest = nothing g
    go (some a) (some b) (some bs) p q r g rest =
        let s : (16 * a + b) ∷ bs ≡ f = cc in
        subst (Line (h ∷ l ∷ ds)) s (line_of_byte h l a b ds bs (digit_of_value h a p) (digit_of_value l b q) (rest bs r))

pub length_digits : (f : List ℕ) → length (digits_of f) ≡ 2 * length f
unfolding digits_of
length_digits [] = refl
length_digits (b ∷ bs) = let h = length_digits bs in omega arith

-- ---- lines and frames

-- every frame that is not too long has a line, which reads back as that frame
pub record ReadsBack (f : List ℕ) : Type 0 where
  pub line : List ℕ
  pub written : line_of f ≡ some line
  pub read : frame_of line ≡ some f

pub written_reads_back : (f : List ℕ) → Bytes f → length f ≤ longest_frame → ReadsBack f
unfolding line_of frame_of
written_reads_back f all short =
    let n = length_digits f in
    record {
      line = digits_of f;
      written = rw (le-leb (length f) longest_frame short);
      read = rw (le-leb (length (digits_of f)) (2 * longest_frame) (omega arith)) (bytes_read_back f all);
    }

-- every line that reads to a frame is the line of that frame
pub read_is_the_line : (line f : List ℕ) → frame_of line ≡ some f → line_of f ≡ some line
unfolding line_of frame_of
read_is_the_line line f e = go (leb (length line) (2 * longest_frame)) refl e
  where
    go : (b : Bool) → leb (length line) (2 * longest_frame) ≡ b → cond b (bytes_of line) none ≡ some f → line_of f ≡ some line
    go false t g = let z : ◌≡◌ {A = ℕ} 0 1 = cc in absurd (omega arith)
    go true t g =
        let l = line_of_bytes line f g in
        let n : 2 * length f ≡ length line = sym (length_digits f) ∙ ap length l.digits in
        let m = leb-true (length line) (2 * longest_frame) t in
        rw (le-leb (length f) longest_frame (omega arith), l.digits)

-- ---- how long a result is

frame_of_line_is_short : (f line : List ℕ) → line_of f ≡ some line → length f ≤ longest_frame
unfolding line_of
frame_of_line_is_short f line e = go (leb (length f) longest_frame) refl e
  where
    go : (b : Bool) → leb (length f) longest_frame ≡ b → cond b (some (digits_of f)) none ≡ some line → length f ≤ longest_frame
    go false t g = let z : ◌≡◌ {A = ℕ} 0 1 = cc in absurd (omega arith)
    go true t g = leb-true (length f) longest_frame t

pub frame_is_short : (line f : List ℕ) → frame_of line ≡ some f → length f ≤ longest_frame
frame_is_short line f e = frame_of_line_is_short f line (read_is_the_line line f e)

pub line_is_short : (f line : List ℕ) → line_of f ≡ some line → length line ≤ 2 * longest_frame
unfolding line_of
line_is_short f line e =
    let h = frame_of_line_is_short f line e in
    let p : digits_of f ≡ line = some_of (rw (le-leb (length f) longest_frame h) at e) in
    let n : length line ≡ 2 * length f = sym (ap length p) ∙ length_digits f in
    omega arith
  where
    some_of : some (digits_of f) ≡ some line → digits_of f ≡ line
    some_of g = cc

-- ---- the calls: what the writer wrote, the reader reads back, and the other way round, where there is room for it

into_result : (room : ℕ) (o : Option (List ℕ)) (r : List ℕ) → written_into room o ≡ result r → o ≡ some r
unfolding written_into
into_result room none r e = let z : ◌≡◌ {A = ℕ} 0 1 = cc in absurd (omega arith)
into_result room (some x) r e = go (ltb room (length x)) e
  where
    go : (b : Bool) → cond b (number 11) (result x) ≡ result r → some x ≡ some r
    go true g = let z : ◌≡◌ {A = ℕ} 0 1 = cc in absurd (omega arith)
    go false g = let p : x ≡ r = cc in ap some p

into_room : (room : ℕ) (o : Option (List ℕ)) (r : List ℕ) → o ≡ some r → length r ≤ room → written_into room o ≡ result r
unfolding written_into
into_room room o r e h = rw (e, le-ltb room (length r) h)

pub write_then_read : (room room' : ℕ) (f line : List ℕ) → Bytes f → write_line room f ≡ result line → length f ≤ room' → read_line room' line ≡ result f
unfolding read_line write_line
write_then_read room room' f line all e h = into_room room' (frame_of line) f (reads (into_result room (line_of f) line e)) h
  where
    reads : line_of f ≡ some line → frame_of line ≡ some f
    reads g =
        let b = written_reads_back f all (frame_of_line_is_short f line g) in
        let p : b.line ≡ line = cc b.written in
        subst (λ (l : List ℕ). frame_of l ≡ some f) p b.read

pub read_then_write : (room room' : ℕ) (line f : List ℕ) → read_line room line ≡ result f → length line ≤ room' → write_line room' f ≡ result line
unfolding read_line write_line
read_then_write room room' line f e h = into_room room' (line_of f) line (read_is_the_line line f (into_result room (frame_of line) f e)) h
