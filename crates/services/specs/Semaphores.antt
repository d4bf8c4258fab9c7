-- Signal, wake and wait, by what the semaphore is: each law takes what the calls of one case ensure.
use Rattle.std.specs.Prelude.{Bool, ◌≡◌, refl, List}
use Rattle.std.proofs.Math.Path.{sym, ap, subst}
use Rattle.std.proofs.Common.{◌∙◌, arith}
use Prim.Native.Nat.{ℕ, zero, suc, ◌<◌, ◌≤◌}
use Rattle.std.proofs.Math.ListN.{length, get_or, get_or-eq_default}
use Rattle.std.proofs.Math.Seq.{set_out}
use Rattle.rows.specs.Tab.{tab_length}
use Rattle.tables.specs.declared.shape.Shape.{Shape}
use Rattle.tables.specs.declared.semaphores.Semaphore as state
use Rattle.tables.specs.declared.semaphores.Semaphore.TheVariants.{Waiting}
use Rattle.tables.specs.Layout.{OneOf, regions}
use Rattle.tables.specs.Decode.{view_semaphore}
use Rattle.tables.specs.Encoded.{Waiter}
use Rattle.tables.specs.Shows.{semaphore_count, semaphore_at, semaphores_in, ShowsAs, loosely, Does, Tells, moved}
use Rattle.tables.specs.Semaphores.{known}
use Rattle.ledger.specs.Lists.{at, put}
use Rattle.ledger.specs.Config.{Config}
use Rattle.ledger.specs.Ledger as ledger
use Rattle.ledger.specs.Ledger.{Ledger, Semaphore, woke, set_semaphore, set_semaphores, set_outcome}
use Rattle.ledger.specs.Services.{signalled, signal, woken, wake_waiter, waited}

-- ---- by what a semaphore is: v is the case that the match found
module _ (s : Shape) (d : List ℕ) (b : ℕ) (x v : state.Semaphore) (p : Tells s d (λ c L. ledger.semaphore_of L b) (view_semaphore x)) (q : x ≡ v) where
  pub signal_arm : {d' : List ℕ} → Does s d d' (λ c L. (signalled (view_semaphore v) b L).ledger) → Does s d d' (λ c L. (signal b L).ledger)
  unfolding signal
  signal_arm f tidy c L z w h = moved (ap (λ (y : Semaphore). (signalled y b L).ledger) (known b p q c L z w (loosely h))) (f tidy c L z w h)

  pub signal_told : (t : ℕ) → ((L : Ledger) → t ≡ (signalled (view_semaphore v) b L).woke) → Tells s d (λ c L. (signal b L).woke) t
  unfolding signal
  signal_told t e c L z w h = e L ∙ ap (λ (y : Semaphore). (signalled y b L).woke) (known b p q c L z w h)

  pub wake_arm : {d' : List ℕ} → Does s d d' (λ c L. woken (view_semaphore v) b L) → Does s d d' (λ c L. wake_waiter b L)
  unfolding wake_waiter
  wake_arm f tidy c L z w h = moved (ap (λ (y : Semaphore). woken y b L) (known b p q c L z w (loosely h))) (f tidy c L z w h)

  pub waited_arm : (t : ℕ) {d' : List ℕ} → Does s d d' (λ c L. waited (view_semaphore v) t b L) → Does s d d' (λ c L. waited (ledger.semaphore_of L b) t b L)
  waited_arm t f tidy c L z w h = moved (ap (λ (y : Semaphore). waited y t b L) (known b p q c L z w (loosely h))) (f tidy c L z w h)

pub waiter : {T t : ℕ} {s : state.Semaphore} → s ≡ Waiting t → Waiter T s → OneOf T t
waiter {T} e w = subst (Waiter T) e w

-- ---- the request: a signal, then the outcome with whom it woke
pub signal_shown : (s : Shape) (d d₁ d' : List ℕ) (t b n : ℕ) → Does s d d₁ (λ c L. (signal b L).ledger) → Tells s d (λ c L. (signal b L).woke) n → Does s d₁ d' (λ c L. set_outcome t (woke n) L)
    → Does s d d' (λ c L. let k = signal b L in set_outcome t (woke k.woke) k.ledger)
signal_shown s d d₁ d' t b n does tells shows tidy c L z w h =
    moved (ap (λ (m : ℕ). set_outcome t (woke m) (signal b L).ledger) (tells c L z w (loosely h))) (shows tidy c (signal b L).ledger z w (does tidy c L z w h))

-- ---- a number that no semaphore has
-- signals nothing
module _ (s : Shape) (d : List ℕ) where
  pub none_signalled : (b : ℕ) → b ≡ 0 → Does s d d (λ c L. (signal b L).ledger) × Tells s d (λ c L. (signal b L).woke) 0
  unfolding signal signalled set_semaphore set_semaphores ledger.semaphore_of at put
  none_signalled b e = subst (λ (n : ℕ). Does s d d (λ c L. (signal n L).ledger) × Tells s d (λ c L. (signal n L).woke) 0) (sym e) ((λ tidy c L z w h. h), (λ c L z w h. refl))

  beyond : {tidy : Bool} (c : Config) (L : Ledger) (z w : List ℕ) → ShowsAs tidy c s L d z w → (b : ℕ) → s.semaphores < suc b → length L.semaphores ≤ b
  unfolding semaphores_in semaphore_count
  beyond c L z w h b g = let l = h.of.laid in omega (arith, ap length h.shown.semaphores, tab_length (semaphore_count c) (semaphore_at c (regions s d)), h.of.tasks, h.of.named, h.of.queues, l.semaphores)

  pub past_signalled : (b : ℕ) → s.semaphores < b → Does s d d (λ c L. (signal b L).ledger) × Tells s d (λ c L. (signal b L).woke) 0
  unfolding signal signalled set_semaphore set_semaphores ledger.semaphore_of at put
  past_signalled zero g = absurd (omega arith)
  past_signalled (suc b) g = (
    (λ tidy c L z w h.
        let n : length L.semaphores ≤ b = beyond c L z w h b g in
        let e : get_or L.semaphores b ledger.PENDING ≡ ledger.PENDING = get_or-eq_default L.semaphores ledger.PENDING {n = b} n in
        let x : (signal (suc b) L).ledger ≡ L =
        ap (λ (y : Semaphore). (signalled y (suc b) L).ledger) e
        ∙ (λ i. record { N = L.N; ticks = L.ticks; tasks = L.tasks; semaphores = set_out L.semaphores b ledger.DONE n i; mailboxes = L.mailboxes; queues = L.queues; timers = L.timers }) in
        moved (sym x) h),
    (λ c L z w h. sym (ap (λ (y : Semaphore). (signalled y (suc b) L).woke) (get_or-eq_default L.semaphores ledger.PENDING {n = b} (beyond c L z w h b g)))),
  )
