-- Whether a dequeue or an enqueue would wait, and where.
use Rattle.std.specs.Prelude.{◌≡◌, refl, Bool, true, false, cond, List, [], ◌∷◌, ℕ, ◌+◌, ◌-◌, ◌*◌, ◌<◌, ◌≤◌, length}
use Rattle.std.proofs.Common.{sym, ◌∙◌, arith}
use Rattle.std.proofs.Math.Path.{ap}
use borrow.Author.Tests.{eq-eqb, ne_eqb, le-leb, lt-leb}
use Rattle.tables.specs.declared.shape.Shape.{Shape}
use Rattle.tables.specs.Layout.{OneOf, Fits, fitting}
use Rattle.tables.specs.Shows.{ShowsAs, Tells}
use Rattle.ledger.specs.Lists.{at}
use Rattle.ledger.specs.Config.{Config}
use Rattle.ledger.specs.Ledger.{Ledger, queue, held, semaphore_of}
use Rattle.ledger.specs.Services.{not_empty, not_full, shape, empty, full}
use Rattle.ledger.specs.Refusals.{on_not_empty, on_not_full, would_wait_on, is_waiting, meets21}
use Rattle.queues.specs.declared.Ring.{Ring}
use Rattle.queues.specs.Rings.{ring_of, TellsRing, HasRoom, HoldsSome, depth_is, count_in, held_length}

-- the semaphore not-full of a queue; not-empty is the one before it
abbrev pub not_full_of : Shape → ℕ → ℕ
not_full_of s q = s.named + s.tasks + 2 * q

pub not_full_in : {s : Shape} {n : ℕ} → Fits s n → (q : ℕ) → OneOf s.queues q
    → OneOf s.semaphores (not_full_of s q) × OneOf s.semaphores (not_full_of s q - 1) × (s.semaphores ≤ 255)
not_full_in (fitting l r) q o = ((omega arith, omega arith), (omega arith, omega arith), l.sum)

-- ---- the queue's semaphores
module _ {tidy : Bool} (c : Config) (s : Shape) (L : Ledger) (d z w : List ℕ) (h : ShowsAs tidy c s L d z w) (q b : ℕ) (eb : b ≡ not_full_of s q) where
  pub full_is : b ≡ not_full c q
  unfolding not_full
  full_is = omega (arith, h.of.named, h.of.tasks)

  pub empty_is : b - 1 ≡ not_empty c q
  unfolding not_empty
  empty_is = omega (arith, h.of.named, h.of.tasks)

-- ---- what it holds
no_entry_lem : (l : List (List ℕ)) → length l ≡ 0 → l ≡ []
no_entry_lem [] h = refl
no_entry_lem (x ∷ xs) h = absurd (omega arith)

module _ (c : Config) (s : Shape) (L : Ledger) (q : ℕ) (one : OneOf s.queues q) (r : Ring) where
  deep : r ≡ ring_of c s q → r.depth ≡ (shape c q).depth
  deep er = ap (λ (x : Ring). x.depth) er ∙ depth_is c s q one.0

  pub room_is : HasRoom s r q c L → full c L q ≡ false
  unfolding full
  room_is k = lt-leb (shape c q).depth (length (held (queue L q))) (omega (arith, k.1, deep k.0))

-- ---- by its count
module _ {tidy : Bool} (c : Config) (s : Shape) (L : Ledger) (d z w : List ℕ) (h : ShowsAs tidy c s L d z w) (q : ℕ) (one : OneOf s.queues q) (r : Ring) (er : r ≡ ring_of c s q)
    (many : ℕ) (em : many ≡ count_in s r d (q - 1)) where
  holding : length (held (queue L q)) ≡ many
  holding = held_length c s L d z w h q one r er ∙ sym em

  pub holds_none : many ≡ 0 → held (queue L q) ≡ []
  holds_none e = no_entry_lem (held (queue L q)) (holding ∙ e)

  pub holds_some : (many ≡ 0 → ⊥) → HoldsSome s r q c L
  holds_some n = (er, omega (arith, holding))

  pub room_left : many < r.depth → HasRoom s r q c L
  room_left l = (er, omega (arith, holding))

  not_empty_lem : (many ≡ 0 → ⊥) → empty L q ≡ false
  unfolding empty
  not_empty_lem n = ne_eqb (length (held (queue L q))) 0 (λ e. n (sym holding ∙ e))

  is_empty : many ≡ 0 → empty L q ≡ true
  unfolding empty
  is_empty e = eq-eqb (length (held (queue L q))) 0 (holding ∙ e)

  pub is_full : r.depth ≤ many → full c L q ≡ true
  unfolding full
  is_full l = le-leb (shape c q).depth (length (held (queue L q))) (omega (arith, holding, deep c s L q one r er))

-- ---- as the code asks
module _ (s : Shape) (d : List ℕ) (q : ℕ) (one : OneOf s.queues q) (r : Ring) (many : ℕ) (em : many ≡ count_in s r d (q - 1)) where
  pub take_goes : (many ≡ 0 → ⊥) → TellsRing s d r q (λ c L. meets21 c L on_not_empty q 0) false
  unfolding meets21 would_wait_on semaphore_of is_waiting at
  take_goes n c L z w er h = rw (not_empty_lem c s L d z w h q one r er many em n)

  pub take_waits : (b : ℕ) → b ≡ not_full_of s q → many ≡ 0 → (x : Bool) → Tells s d (λ c L. is_waiting (semaphore_of L (b - 1))) x → TellsRing s d r q (λ c L. meets21 c L on_not_empty q 0) x
  unfolding meets21 would_wait_on
  take_waits b eb e x f c L z w er h =
      f c L z w h ∙ ap (λ (k : ℕ). is_waiting (semaphore_of L k)) (empty_is c s L d z w h q b eb)
      ∙ ap (λ (v : Bool). is_waiting (semaphore_of L (cond v (not_empty c q) 0))) (sym (is_empty c s L d z w h q one r er many em e))

  pub put_goes : many < r.depth → TellsRing s d r q (λ c L. meets21 c L on_not_full q 0) false
  unfolding meets21 would_wait_on semaphore_of is_waiting at
  put_goes l c L z w er h = rw (room_is c s L q one r (room_left c s L d z w h q one r er many em l))

  pub put_waits : (b : ℕ) → b ≡ not_full_of s q → r.depth ≤ many → (x : Bool) → Tells s d (λ c L. is_waiting (semaphore_of L b)) x → TellsRing s d r q (λ c L. meets21 c L on_not_full q 0) x
  unfolding meets21 would_wait_on
  put_waits b eb l x f c L z w er h =
      f c L z w h ∙ ap (λ (k : ℕ). is_waiting (semaphore_of L k)) (full_is c s L d z w h q b eb)
      ∙ ap (λ (v : Bool). is_waiting (semaphore_of L (cond v (not_full c q) 0))) (sym (is_full c s L d z w h q one r er many em l))
