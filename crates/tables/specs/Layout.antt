-- The block `tables`: eight regions, one behind the other, and what a write within one of them is.
use Rattle.std.specs.Prelude.{◌≡◌, ◌⊎◌, Bool, List, [], ◌∷◌, get_or, set}
use Rattle.std.proofs.Math.Path.{refl}
use Rattle.std.proofs.Common.{sym, ap, ◌∙◌}
use Rattle.std.proofs.Math.Logic.{inl, inr}
use Rattle.std.proofs.Math.Bool.{true, false, cond}
use Prim.Native.Nat.{ℕ, zero, suc, ◌+◌, ◌-◌, ◌*◌, ◌<◌, ◌≤◌}
use native.Mathlib.Omega.{arith}
use Rattle.std.proofs.Math.Dec.{eqb, ltb}
use Rattle.std.proofs.Math.ListN.{length}
use borrow.Author.Tests.{eqb-true, eqb-false, ltb-true, ltb-false}
use Rattle.rows.specs.Splice.{cut, splice}
use Rattle.rows.specs.Laws.{length_cut, get_d_cut, cut_inside, cut_apart, set_is_splice}
use Rattle.rows.specs.Rows.{row_at, row_of_cut}
use Rattle.tables.specs.declared.shape.Shape.{Shape}

-- one of so many, counted from 1
abbrev pub OneOf : (n i : ℕ) → Type 0
OneOf n i = (1 ≤ i) × (i ≤ n)

-- where the first regions begin: the ticks left, the number of messages, the planes of the blocks, the records
abbrev pub ticks_at : ℕ
ticks_at = 0

abbrev pub count_at : ℕ
count_at = 1

abbrev pub planes_at : ℕ
planes_at = 2

abbrev pub records_at : ℕ
records_at = 66

-- a shape's numbers are a configuration's, and its regions follow each other
pub record Laid (s : Shape) : Type 0 where
  pub some : 1 ≤ s.tasks
  pub few : s.tasks ≤ 126
  pub semaphores : s.semaphores ≡ s.named + s.tasks + 2 * s.queues
  pub sum : s.semaphores ≤ 255
  pub queues : s.queues ≤ 32
  pub timers : s.timers ≤ 64
  pub messages : s.messages ≤ 64
  pub ticks : 1 ≤ s.ticks
  pub tocks : s.ticks ≤ 255
  pub records : s.recordat ≡ records_at
  pub states : s.semaphoreat ≡ s.recordat + 6 * s.tasks
  pub waiting : s.waitingat ≡ s.semaphoreat + s.semaphores
  pub rings : s.ringat ≡ s.waitingat + 16 * s.tasks
  pub mail : s.messageat ≡ s.ringat + 2 * s.queues
  pub bodies : s.bodyat ≡ s.messageat + 4 * s.messages
  pub after : s.bodyat ≤ s.end
  pub whole : s.end ≤ s.bodyat + 4096

-- n bytes have room for them. (No record, so that its many parts stay out of sight where one fact of it is wanted)
pub data Fits (s : Shape) (n : ℕ) : Type 0 where
  fitting : Laid s → s.end ≤ n → Fits s n

pub laid : {s : Shape} {n : ℕ} → Fits s n → Laid s
laid (fitting l r) = l

pub room : {s : Shape} {n : ℕ} → Fits s n → s.end ≤ n
room (fitting l r) = r

-- as many bytes as before
pub still_fits : {s : Shape} {m n : ℕ} → Fits s m → m ≡ n → Fits s n
still_fits (fitting l r) e = fitting l (omega arith)

-- just as many as it needs
pub fits_end : {s : Shape} {n : ℕ} → Fits s n → Fits s s.end
fits_end (fitting l r) = fitting l (omega arith)

-- where an item's bytes lie, all of them within the tables
pub semaphore_in : {s : Shape} {n : ℕ} → Fits s n → (b : ℕ) → OneOf s.semaphores b → s.semaphoreat + (b - 1) < n
semaphore_in (fitting l r) b i = omega arith

pub semaphores_in_lem : {s : Shape} {n : ℕ} → Fits s n → (s.semaphoreat ≤ s.waitingat) × (s.waitingat ≤ n)
semaphores_in_lem (fitting l r) = (omega arith, omega arith)

pub few : {s : Shape} {n : ℕ} → Fits s n → s.tasks ≤ 126
few (fitting l r) = l.few

pub planes_in : {s : Shape} {n : ℕ} → Fits s n → records_at ≤ n
planes_in (fitting l r) = omega arith

pub record_in_lem : {s : Shape} {n : ℕ} → Fits s n → (t : ℕ) → OneOf s.tasks t → s.recordat + (t - 1) * 6 + 6 ≤ n
record_in_lem (fitting l r) t i = omega arith

pub waiting_in_lem : {s : Shape} {n : ℕ} → Fits s n → (t : ℕ) → OneOf s.tasks t → s.waitingat + (t - 1) * 16 + 16 ≤ n
waiting_in_lem (fitting l r) t i = omega arith

-- region k lies from bound k up to the next
unfoldable pub bound : Shape → ℕ → ℕ
bound s zero = ticks_at
bound s (suc zero) = planes_at
bound s (suc (suc zero)) = s.recordat
bound s (suc (suc (suc zero))) = s.semaphoreat
bound s (suc (suc (suc (suc zero)))) = s.waitingat
bound s (suc (suc (suc (suc (suc zero))))) = s.ringat
bound s (suc (suc (suc (suc (suc (suc zero)))))) = s.messageat
bound s (suc (suc (suc (suc (suc (suc (suc zero))))))) = s.bodyat
bound s (suc (suc (suc (suc (suc (suc (suc (suc n)))))))) = s.end

unfoldable pub region : Shape → List ℕ → ℕ → List ℕ
region s d k = cut d (bound s k) (bound s (suc k))

-- the regions by name: ticks left and number of messages; planes of the blocks; outcomes and requests; semaphores; entries that wait to be put;
-- the rings' places; messages; the rings' entries
pub record Regions : Type 0 where
  pub clock : List ℕ
  pub blocks : List ℕ
  pub records : List ℕ
  pub semaphores : List ℕ
  pub waiting : List ℕ
  pub rings : List ℕ
  pub messages : List ℕ
  pub bodies : List ℕ

unfoldable pub named : (ℕ → List ℕ) → Regions
named r = record { clock = r 0; blocks = r 1; records = r 2; semaphores = r 3; waiting = r 4; rings = r 5; messages = r 6; bodies = r 7 }

unfoldable pub regions : Shape → List ℕ → Regions
regions s d = named (region s d)

-- the same but for one
unfoldable pub but : (ℕ → List ℕ) → ℕ → List ℕ → ℕ → List ℕ
but r k v j = cond (eqb j k) v (r j)

module _ (s : Shape) (l : Laid s) where
  bound_on : (k : ℕ) → bound s k ≤ bound s (suc k)
  unfolding bound
  bound_on zero = omega arith
  bound_on (suc zero) = omega arith
  bound_on (suc (suc zero)) = omega arith
  bound_on (suc (suc (suc zero))) = omega arith
  bound_on (suc (suc (suc (suc zero)))) = omega arith
  bound_on (suc (suc (suc (suc (suc zero))))) = omega arith
  bound_on (suc (suc (suc (suc (suc (suc zero)))))) = omega arith
  bound_on (suc (suc (suc (suc (suc (suc (suc zero))))))) = omega arith
  bound_on (suc (suc (suc (suc (suc (suc (suc (suc n)))))))) = omega arith

  bound_end : (k : ℕ) → bound s k ≤ s.end
  unfolding bound
  bound_end zero = omega arith
  bound_end (suc zero) = omega arith
  bound_end (suc (suc zero)) = omega arith
  bound_end (suc (suc (suc zero))) = omega arith
  bound_end (suc (suc (suc (suc zero)))) = omega arith
  bound_end (suc (suc (suc (suc (suc zero))))) = omega arith
  bound_end (suc (suc (suc (suc (suc (suc zero)))))) = omega arith
  bound_end (suc (suc (suc (suc (suc (suc (suc zero))))))) = omega arith
  bound_end (suc (suc (suc (suc (suc (suc (suc (suc n)))))))) = omega arith

  bound_up : (j i : ℕ) → bound s j ≤ bound s (i + j)
  bound_up j zero = let e : 0 + j ≡ j = omega arith in rw e (omega arith)
  bound_up j (suc i) = let e : suc i + j ≡ suc (i + j) = omega arith in rw e (omega (arith, bound_up j i, bound_on (i + j)))

  bound_below : (j k : ℕ) → j < k → bound s (suc j) ≤ bound s k
  bound_below j k h =
      let e : k - suc j + suc j ≡ k = omega arith in
      rw e at (bound_up (suc j) (k - suc j))

  -- a write within region k changes that region only
  module _ (d : List ℕ) (space : s.end ≤ length d) (k i : ℕ) (v : List ℕ) (inside : bound s k + i + length v ≤ bound s (suc k)) where
    here : region s (splice d (bound s k + i) v) k ≡ splice (region s d k) i v
    unfolding region
    here = cut_inside d (bound s k) (bound s (suc k)) i v (bound_on k) (omega (arith, bound_end (suc k))) (omega arith)

    apart : (j : ℕ) → (j ≡ k → ⊥) → region s (splice d (bound s k + i) v) j ≡ region s d j
    unfolding region
    apart j n =
        cut_apart d (bound s j) (bound s (suc j)) (bound s k + i) v (bound_on j) (omega (arith, bound_end (suc k)))
        (go (ltb j k) refl)
      where
        go : (b : Bool) → ltb j k ≡ b → (bound s (suc j) ≤ bound s k + i) ⊎ (bound s k + i + length v ≤ bound s j)
        go true e = inl (omega (arith, bound_below j k (ltb-true j k e)))
        go false e = let g : k ≤ j = ltb-false j k e in inr (omega (arith, bound_below k j (omega (arith, n))))

    each : (j : ℕ) → region s (splice d (bound s k + i) v) j ≡ but (region s d) k (splice (region s d k) i v) j
    unfolding but
    each j = go (eqb j k) refl
      where
        go : (b : Bool) → eqb j k ≡ b → region s (splice d (bound s k + i) v) j ≡ cond (eqb j k) (splice (region s d k) i v) (region s d j)
        go true e = rw e (ap (region s (splice d (bound s k + i) v)) (eqb-true j k e) ∙ here)
        go false e = rw e (apart j (eqb-false j k e))

    -- in the regions by name
    pub written : regions s (splice d (bound s k + i) v) ≡ named (but (region s d) k (splice (region s d k) i v))
    unfolding regions
    written = λ x. named (λ j. each j x)

  pub region_length : (d : List ℕ) → s.end ≤ length d → (k : ℕ) → length (region s d k) ≡ bound s (suc k) - bound s k
  unfolding region
  region_length d space k = length_cut d (bound s k) (bound s (suc k)) (omega (arith, bound_end (suc k)))

  -- one byte
  pub byte_written : (d : List ℕ) → s.end ≤ length d → (k i v : ℕ) → bound s k + i < bound s (suc k)
      → regions s (set d (bound s k + i) v) ≡ named (but (region s d) k (set (region s d k) i v))
  byte_written d space k i v inside =
      ap (regions s) (set_is_splice d (bound s k + i) v (omega (arith, bound_end (suc k))))
      ∙ written d space k i (v ∷ []) (omega arith)
      ∙ ap (λ (x : List ℕ). named (but (region s d) k x)) (sym (set_is_splice (region s d k) i v (omega (arith, region_length d space k))))

-- a byte of a region
pub region_at : (s : Shape) (d : List ℕ) (k i : ℕ) → i < bound s (suc k) - bound s k → get_or (region s d k) i 0 ≡ get_or d (bound s k + i) 0
unfolding region
region_at s d k i h = get_d_cut d (bound s k) (bound s (suc k)) i h

module _ {s : Shape} {n : ℕ} (f : Fits s n) (d : List ℕ) (t : ℕ) (i : OneOf s.tasks t) where
  pub record_at_lem : row_at 6 (t - 1) (regions s d).records ≡ cut d (s.recordat + (t - 1) * 6) (s.recordat + (t - 1) * 6 + 6)
  unfolding regions named bound region
  record_at_lem = row_of_cut 6 (t - 1) d s.recordat s.semaphoreat (let l = laid f in omega arith)

pub semaphore_at_lem : {s : Shape} {n : ℕ} → Fits s n → (d : List ℕ) (b : ℕ) → OneOf s.semaphores b → get_or (regions s d).semaphores (b - 1) 0 ≡ get_or d (s.semaphoreat + (b - 1)) 0
unfolding regions named bound
semaphore_at_lem {s} f d b i = region_at s d 3 (b - 1) (let l = laid f in omega arith)

-- the planes, lent
pub planes_are : {s : Shape} {n : ℕ} → Fits s n → (d : List ℕ) → (regions s d).blocks ≡ cut d planes_at records_at
unfolding regions named region bound
planes_are f d = ap (cut d planes_at) (laid f).records

-- and one byte of them
pub plane_at : {s : Shape} {n : ℕ} → Fits s n → (d : List ℕ) (i : ℕ) → i < 64 → get_or (regions s d).blocks i 0 ≡ get_or d (planes_at + i) 0
unfolding regions named bound
plane_at {s} f d i h = region_at s d 1 i (let l = laid f in omega arith)
