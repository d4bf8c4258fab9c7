-- Where a queue's ring lies, and what it holds.
use Rattle.std.specs.Prelude.{Bool, ◌≡◌, refl, length, take}
use Rattle.std.proofs.Math.Path.{sym, ap}
use Rattle.std.proofs.Common.{◌∙◌, mul_comm, not-suc-le-zero}
use mathlib.Core.List.{List, [], ◌∷◌, map}
use Prim.Native.Nat.{ℕ, zero, suc, ◌+◌, ◌-◌, ◌*◌, ◌<◌, ◌≤◌}
use native.Mathlib.Omega.{arith}
use Rattle.std.proofs.Math.ListN.{get_or}
use Rattle.rows.specs.Splice.{cut}
use Rattle.rows.specs.Laws.{length_cut, cut_cut}
use Rattle.rings.specs.Ring.{holds}
use Rattle.rings.specs.Laws.{holds_length}
use Rattle.ledger.specs.Lists.{at, sum}
use Rattle.ledger.specs.Config as config
use Rattle.ledger.specs.Config.{Config}
use Rattle.ledger.specs.Ledger.{Ledger, queue, held}
use Rattle.ledger.specs.Services.{shape, take_entry}
use Rattle.tables.specs.declared.shape.Shape.{Shape}
use Rattle.tables.specs.Decode.{head_of, count_of}
use Rattle.tables.specs.Encoded.{head_in_lem, count_in_lem}
use Rattle.tables.specs.Layout.{OneOf, regions, region, named, bound, Fits, fitting, laid, region_at}
use Rattle.tables.specs.Shows.{bytes_of, begins, held_at, Of, ShowsAs, DoesIf, DoesWithSlotsIf, TellsIf}
use Rattle.tables.specs.Items.{queue_is}
use Rattle.queues.specs.declared.Ring.{Ring}

-- of queue 1 on; no queue has number 0
unfoldable pub ring_of : Config → Shape → ℕ → Ring
ring_of c s zero = record { width = 0; depth = 0; base = 0 }
ring_of c s (suc i) = record { width = (shape c (suc i)).width; depth = (shape c (suc i)).depth; base = s.bodyat + begins c i }

pub width_is : (c : Config) (s : Shape) (q : ℕ) → 1 ≤ q → (ring_of c s q).width ≡ (shape c q).width
unfolding ring_of
width_is c s zero h = absurd (not-suc-le-zero h)
width_is c s (suc i) h = refl

pub depth_is : (c : Config) (s : Shape) (q : ℕ) → 1 ≤ q → (ring_of c s q).depth ≡ (shape c q).depth
unfolding ring_of
depth_is c s zero h = absurd (not-suc-le-zero h)
depth_is c s (suc i) h = refl

-- a ring lies within the bodies
pub record RingFits (s : Shape) (r : Ring) : Type 0 where
  pub some : 1 ≤ r.depth
  pub few : r.depth ≤ 255
  pub wide : 1 ≤ r.width
  pub narrow : r.width ≤ 16
  pub behind : s.bodyat ≤ r.base
  pub room : r.base + r.depth * r.width ≤ s.end

-- the place of the oldest entry and the number of entries, of the ring in row i
unfoldable pub head_in : Shape → Ring → List ℕ → ℕ → ℕ
head_in s r d i = head_of r.depth (get_or (regions s d).rings (i * 2) 0)

unfoldable pub count_in : Shape → Ring → List ℕ → ℕ → ℕ
count_in s r d i = count_of r.depth (get_or (regions s d).rings (i * 2 + 1) 0)

-- the entries' bytes
unfoldable pub body_in : Ring → List ℕ → List ℕ
body_in r d = cut d r.base (r.base + r.depth * r.width)

-- ---- the two bytes, read
module _ {s : Shape} {n : ℕ} (f : Fits s n) (q : ℕ) (one : OneOf s.queues q) where
  pub rings_in : s.ringat + (q - 1) * 2 + 1 < n
  rings_in = go f
    where
      go : Fits s n → s.ringat + (q - 1) * 2 + 1 < n
      go (fitting l r) = omega arith

  pub head_byte : (d : List ℕ) → get_or d (s.ringat + (q - 1) * 2) 0 ≡ get_or (regions s d).rings ((q - 1) * 2) 0
  unfolding regions named bound
  head_byte d = sym (region_at s d 5 ((q - 1) * 2) (let l = laid f in omega arith))

  pub count_byte : (d : List ℕ) → get_or d (s.ringat + (q - 1) * 2 + 1) 0 ≡ get_or (regions s d).rings ((q - 1) * 2 + 1) 0
  unfolding regions named bound
  count_byte d =
      let e : s.ringat + (q - 1) * 2 + 1 ≡ s.ringat + ((q - 1) * 2 + 1) = omega arith in
      ap (λ (x : ℕ). get_or d x 0) e ∙ sym (region_at s d 5 ((q - 1) * 2 + 1) (let l = laid f in omega arith))

pub head_low : {s : Shape} {r : Ring} → RingFits s r → (d : List ℕ) (i : ℕ) → head_in s r d i < r.depth
unfolding head_in
head_low {s} {r} f d i = head_in_lem r.depth (get_or (regions s d).rings (i * 2) 0) f.some

pub count_low : {s : Shape} {r : Ring} → RingFits s r → (d : List ℕ) (i : ℕ) → count_in s r d i ≤ r.depth
unfolding count_in
count_low {s} {r} f d i = count_in_lem r.depth (get_or (regions s d).rings (i * 2 + 1) 0)

-- ---- where the rings begin
module _ where
  abbrev bytes_in : List config.QueueShape → ℕ → ℕ
  bytes_in l i = sum (map bytes_of (take i l))

  next : (l : List config.QueueShape) (i : ℕ) (z : config.QueueShape) → i < length l → bytes_in l (suc i) ≡ bytes_in l i + bytes_of (get_or l i z)
  unfolding sum
  next [] i z h = absurd (omega arith)
  next (x ∷ xs) zero z h = omega arith
  next (x ∷ xs) (suc i) z h = omega (arith, next xs i z (omega arith))

  up : (l : List config.QueueShape) (i j : ℕ) → i ≤ j → bytes_in l i ≤ bytes_in l j
  unfolding sum
  up [] zero j h = omega arith
  up [] (suc i) zero h = omega arith
  up [] (suc i) (suc j) h = omega arith
  up (x ∷ xs) zero j h = omega arith
  up (x ∷ xs) (suc i) zero h = absurd (omega arith)
  up (x ∷ xs) (suc i) (suc j) h = omega (arith, up xs i j (omega arith))

  whole : (l : List config.QueueShape) (i : ℕ) → bytes_in l i ≤ sum (map bytes_of l)
  unfolding sum
  whole [] zero = omega arith
  whole [] (suc i) = omega arith
  whole (x ∷ xs) zero = omega arith
  whole (x ∷ xs) (suc i) = omega (arith, whole xs i)

module _ (c : Config) (s : Shape) (o : Of c s) where
  -- a ring ends where the next begins
  ends : (i : ℕ) → i < c.Q → begins c (suc i) ≡ begins c i + (shape c (suc i)).depth * (shape c (suc i)).width
  unfolding begins shape at bytes_of
  ends i h =
      let z : config.QueueShape = record { width = 0; depth = 0 } in
      let k : config.QueueShape = get_or c.shapes i z in
      next c.shapes i z (omega (arith, o.shapes)) ∙ ap (λ (x : ℕ). bytes_in c.shapes i + x) (mul_comm k.width k.depth)

  pub apart_rings : (i j : ℕ) → i < j → j < c.Q → begins c i + (shape c (suc i)).depth * (shape c (suc i)).width ≤ begins c j
  unfolding begins
  apart_rings i j h k = omega (arith, ends i (omega arith), up c.shapes (suc i) j (omega arith))

  pub inside : (i : ℕ) → i < c.Q → s.bodyat + (begins c i + (shape c (suc i)).depth * (shape c (suc i)).width) ≤ s.end
  unfolding begins
  inside i h = omega (arith, ends i h, whole c.shapes (suc i), o.bodies)

  -- every ring of the configuration lies within the bodies
  pub ring_fits : (q : ℕ) → OneOf c.Q q → RingFits s (ring_of c s q)
  unfolding ring_of
  ring_fits zero (a, b) = absurd (not-suc-le-zero a)
  ring_fits (suc i) (a, b) =
      record {
        some = (o.depths (suc i) a b).0;
        few = (o.depths (suc i) a b).1;
        wide = (o.widths (suc i) a b).0;
        narrow = (o.widths (suc i) a b).1;
        behind = omega arith;
        room = omega (arith, inside i (omega arith));
      }

-- ---- what a queue holds, by its ring
pub body_is : (c : Config) (s : Shape) → Of c s → (d : List ℕ) (i : ℕ) → i < c.Q
    → cut (regions s d).bodies (begins c i) (begins c i + (shape c (suc i)).depth * (shape c (suc i)).width) ≡ body_in (ring_of c s (suc i)) d
unfolding body_in ring_of regions named bound region
body_is c s o d i b =
    let k : config.QueueShape = shape c (suc i) in
    let x : s.bodyat + begins c i + k.depth * k.width ≡ s.bodyat + (begins c i + k.depth * k.width) = omega arith in
    cut_cut d s.bodyat s.end (begins c i) (begins c i + k.depth * k.width) (inside c s o i b) ∙ ap (cut d (s.bodyat + begins c i)) (sym x)

module _ {tidy : Bool} (c : Config) (s : Shape) (L : Ledger) (d z w : List ℕ) (h : ShowsAs tidy c s L d z w) where
  held_at_lem : (i : ℕ) → i < c.Q → (r : Ring) → r ≡ ring_of c s (suc i) → held (queue L (suc i)) ≡ holds r.width r.depth (head_in s r d i) (count_in s r d i) (body_in r d)
  unfolding held_at head_in count_in ring_of
  held_at_lem i b r e =
      let k : config.QueueShape = shape c (suc i) in
      let m : suc i - 1 ≡ i = omega arith in
      queue_is c L (regions s d) z w h.shown (suc i) (omega arith, omega arith) ∙ ap (held_at c (regions s d)) m
      ∙ ap (holds k.width k.depth (head_of k.depth (get_or (regions s d).rings (i * 2) 0)) (count_of k.depth (get_or (regions s d).rings (i * 2 + 1) 0))) (body_is c s h.of d i b)
      ∙ ap (λ (u : Ring). holds u.width u.depth (head_in s u d i) (count_in s u d i) (body_in u d)) (sym e)

  pub held_is : (q : ℕ) → OneOf s.queues q → (r : Ring) → r ≡ ring_of c s q → held (queue L q) ≡ holds r.width r.depth (head_in s r d (q - 1)) (count_in s r d (q - 1)) (body_in r d)
  held_is zero o r e = absurd (not-suc-le-zero o.0)
  held_is (suc i) o r e =
      let m : i ≡ suc i - 1 = omega arith in
      held_at_lem i (omega (arith, h.of.queues)) r e ∙ ap (λ (j : ℕ). holds r.width r.depth (head_in s r d j) (count_in s r d j) (body_in r d)) m

  pub held_length : (q : ℕ) → OneOf s.queues q → (r : Ring) → r ≡ ring_of c s q → length (held (queue L q)) ≡ count_in s r d (q - 1)
  held_length q o r e = ap length (held_is q o r e) ∙ holds_length r.width r.depth (head_in s r d (q - 1)) (count_in s r d (q - 1)) (body_in r d)

pub body_length : (s : Shape) (d : List ℕ) (r : Ring) → RingFits s r → s.end ≤ length d → r.depth * r.width ≤ length (body_in r d)
unfolding body_in
body_length s d r f k = omega (arith, length_cut d r.base (r.base + r.depth * r.width) (omega (arith, f.room)))

-- ---- what a function does or tells, where r is the ring of queue q
abbrev pub TellsRing : {A : Type 0} → Shape → List ℕ → Ring → ℕ → (Config → Ledger → A) → A → Type 0
TellsRing s d r q f x = TellsIf s d (λ c L. r ≡ ring_of c s q) f x

abbrev pub DoesRing : Shape → (d d' : List ℕ) → Ring → ℕ → (Config → Ledger → Ledger) → Type 0
DoesRing s d d' r q f = DoesIf s d d' (λ c L. r ≡ ring_of c s q) f

abbrev pub DoesRingWithSlots : Shape → (d z d' z' : List ℕ) → Ring → ℕ → (Config → Ledger → Ledger) → Type 0
DoesRingWithSlots s d z d' z' r q f = DoesWithSlotsIf s d z d' z' (λ c L. r ≡ ring_of c s q) f

-- the queue is not full
abbrev pub HasRoom : Shape → Ring → ℕ → Config → Ledger → Type 0
HasRoom s r q c L = (r ≡ ring_of c s q) × (length (held (queue L q)) < r.depth)

-- it is not empty
abbrev pub HoldsSome : Shape → Ring → ℕ → Config → Ledger → Type 0
HoldsSome s r q c L = (r ≡ ring_of c s q) × (1 ≤ length (held (queue L q)))

-- the oldest entry of queue q is taken into the slot of task t, where the queue has one
abbrev pub Takes : Shape → (d z d' z' : List ℕ) → Ring → (t q : ℕ) → Type 0
Takes s d z d' z' r t q = (e : List ℕ) (es : List (List ℕ)) → DoesWithSlotsIf s d z d' z' (λ c L. (r ≡ ring_of c s q) × (held (queue L q) ≡ e ∷ es)) (λ c L. take_entry c t q e L)
