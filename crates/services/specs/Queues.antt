-- Dequeue and enqueue issued: by what the queue holds, the entry moves or the task waits.
use Rattle.std.specs.Prelude.{◌≡◌, refl, Bool, true, false, length}
use Rattle.std.proofs.Common.{sym, ◌∙◌, arith}
use Rattle.std.proofs.Math.Path.{ap}
use mathlib.Core.List.{List, [], ◌∷◌}
use Prim.Native.Nat.{ℕ, ◌-◌, ◌≤◌}
use Rattle.tables.specs.declared.shape.Shape.{Shape}
use Rattle.tables.specs.Shows.{ShowsAs, Does, moved}
use Rattle.queues.specs.Waits.{not_full_of, full_is, empty_is}
use Rattle.ledger.specs.Config.{Config}
use Rattle.ledger.specs.Ledger as ledger
use Rattle.ledger.specs.Ledger.{Ledger, queue, held, set_request}
use Rattle.ledger.specs.Services.{wait_for, wake_waiter, full, take_entry, put_entry, dequeued, enqueued, issue}

first_entry : (l : List (List ℕ)) → 1 ≤ length l → (e : List ℕ) × ((es : List (List ℕ)) × (l ≡ e ∷ es))
first_entry [] h = absurd (omega arith)
first_entry (x ∷ xs) h = (x, (xs, refl))

-- b is the semaphore not-full
module _ {tidy : Bool} (c : Config) (s : Shape) (L : Ledger) (d z w : List ℕ) (h : ShowsAs tidy c s L d z w) (q t b : ℕ) (eb : b ≡ not_full_of s q) where
  pub dequeue_completes : {d₁ d' z' : List ℕ} → 1 ≤ length (held (queue L q))
      → ((e : List ℕ) (es : List (List ℕ)) → held (queue L q) ≡ e ∷ es → ShowsAs tidy c s (take_entry c t q e L) d₁ z' w)
      → Does s d₁ d' (λ c L. wake_waiter b L) → ShowsAs tidy c s (issue c t (ledger.dequeue q) L) d' z' w
  unfolding issue dequeued
  dequeue_completes {z' = z'} some f g =
      let p = first_entry (held (queue L q)) some in
      let e : List ℕ = p.0 in
      let es : List (List ℕ) = p.1.0 in
      let n : held (queue L q) ≡ e ∷ es = p.1.1 in
      moved (ap (λ (k : ℕ). wake_waiter k (take_entry c t q e L)) (full_is c s L d z w h q b eb) ∙ ap (λ (y : List (List ℕ)). dequeued c t q y L) (sym n))
      (g tidy c (take_entry c t q e L) z' w (f e es n))

  pub dequeue_waits : {d₁ d' : List ℕ} → held (queue L q) ≡ [] → Does s d d₁ (λ c L. wait_for t (b - 1) L) → Does s d₁ d' (λ c L. set_request t (ledger.dequeue q) L)
      → ShowsAs tidy c s (issue c t (ledger.dequeue q) L) d' z w
  unfolding issue dequeued
  dequeue_waits n f g =
      moved (ap (λ (k : ℕ). set_request t (ledger.dequeue q) (wait_for t k L)) (empty_is c s L d z w h q b eb) ∙ ap (λ (y : List (List ℕ)). dequeued c t q y L) (sym n))
      (g tidy c (wait_for t (b - 1) L) z w (f tidy c L z w h))

  pub enqueue_completes : {d₁ d' : List ℕ} (e : List ℕ) → full c L q ≡ false → ShowsAs tidy c s (put_entry q e L) d₁ z w
      → Does s d₁ d' (λ c L. wake_waiter (b - 1) L) → ShowsAs tidy c s (issue c t (ledger.enqueue q e) L) d' z w
  unfolding issue enqueued
  enqueue_completes e n f g =
      moved (ap (λ (k : ℕ). wake_waiter k (put_entry q e L)) (empty_is c s L d z w h q b eb) ∙ ap (λ (y : Bool). enqueued c t q e y L) (sym n))
      (g tidy c (put_entry q e L) z w f)

  pub enqueue_waits : {d₁ d' : List ℕ} (e : List ℕ) → full c L q ≡ true → Does s d d₁ (λ c L. wait_for t b L)
      → ((tidy : Bool) (L : Ledger) → ShowsAs tidy c s L d₁ z w → ShowsAs tidy c s (set_request t (ledger.enqueue q e) L) d' z w) → ShowsAs tidy c s (issue c t (ledger.enqueue q e) L) d' z w
  unfolding issue enqueued
  enqueue_waits e n f g =
      moved (ap (λ (k : ℕ). set_request t (ledger.enqueue q e) (wait_for t k L)) (full_is c s L d z w h q b eb) ∙ ap (λ (y : Bool). enqueued c t q e y L) (sym n))
      (g tidy (wait_for t b L) (f tidy c L z w h))
