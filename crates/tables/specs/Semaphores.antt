-- What a byte of the semaphores' region is on the ledgers that the memory shows: read, and stored.
use Rattle.std.specs.Prelude.{Bool, false, ◌≡◌, refl, List, ℕ, ◌+◌, ◌-◌, ◌<◌, eqb, length, get_or, set}
use Rattle.std.proofs.Common.{sym, ap, ◌∙◌, subst, eqb-true, arith, length-set, get_or-set_same, get_or-set_other}
use Rattle.std.proofs.lemmas.Bool.{eqb-false}
use Rattle.ledger.specs.Config.{Config}
use Rattle.ledger.specs.Ledger.{Ledger, semaphore_of, set_semaphore}
use Rattle.ledger.specs.Refusals.{is_waiting}
use Rattle.tables.specs.declared.shape.Shape.{Shape}
use Rattle.tables.specs.declared.semaphores.Semaphore as state
use Rattle.tables.specs.declared.semaphores.Semaphore.TheVariants.{Pending, Done, Waiting}
use Rattle.tables.specs.Layout.{OneOf, Fits, bound, Regions, named, regions, but, byte_written, region_length, semaphore_at_lem}
use Rattle.tables.specs.Decode.{state_of, state_byte, view_semaphore, state_as}
use Rattle.tables.specs.Encoded.{Waiter, case, state_back, state_as_lem}
use Rattle.tables.specs.Shows.{semaphore_count, semaphore_at, ShowsAs, Tells}
use Rattle.tables.specs.Items.{with_semaphores, semaphore_is, semaphore_shown}
use Rattle.tables.specs.Stored.{shows_as}

pub semaphore_told : {s : Shape} {n : ℕ} → Fits s n → (d : List ℕ) (b : ℕ) → OneOf s.semaphores b → (x : state.Semaphore)
    → x ≡ state_of s.tasks (get_or d (s.semaphoreat + (b - 1)) 0) → Tells s d (λ c L. semaphore_of L b) (view_semaphore x)
unfolding semaphore_at semaphore_count
semaphore_told {s} f d b o x e c L z w h =
    let l = h.of.laid in
    ap view_semaphore e ∙ ap (λ (y : ℕ). view_semaphore (state_of s.tasks y)) (sym (semaphore_at_lem f d b o))
    ∙ ap (λ (y : ℕ). view_semaphore (state_of y (get_or (regions s d).semaphores (b - 1) 0))) h.of.tasks
    ∙ sym (semaphore_is c L (regions s d) z w h.shown b (o.0, omega (arith, h.of.tasks, h.of.named, h.of.queues, l.semaphores)))

-- the state that a match found
pub known : {s : Shape} {d : List ℕ} {x v : state.Semaphore} (b : ℕ) → Tells s d (λ c L. semaphore_of L b) (view_semaphore x) → x ≡ v → Tells s d (λ c L. semaphore_of L b) (view_semaphore v)
known b e q c L z w h = ap view_semaphore (sym q) ∙ e c L z w h

pub waiting_told : {s : Shape} {d : List ℕ} {x v : state.Semaphore} (b : ℕ) → Tells s d (λ c L. semaphore_of L b) (view_semaphore x) → x ≡ v
    → Tells s d (λ c L. is_waiting (semaphore_of L b)) (is_waiting (view_semaphore v))
waiting_told b e q c L z w h = ap is_waiting (known b e q c L z w h)

-- what is not WAITING is PENDING or DONE
pub not_waiting_told : {s : Shape} {d : List ℕ} (x : state.Semaphore) (b : ℕ) → Tells s d (λ c L. semaphore_of L b) (view_semaphore x) → ((t : ℕ) → x ≡ Waiting t → ⊥)
    → Tells s d (λ c L. is_waiting (semaphore_of L b)) false
unfolding is_waiting view_semaphore
not_waiting_told Pending b e n = waiting_told {x = Pending} b e refl
not_waiting_told Done b e n = waiting_told {x = Done} b e refl
not_waiting_told (Waiting t) b e n = absurd (n t refl)

pub semaphore_stored : {tidy : Bool} (c : Config) (s : Shape) (L : Ledger) (d z w : List ℕ) → ShowsAs tidy c s L d z w → (b : ℕ) → OneOf s.semaphores b → (x : state.Semaphore) → Waiter s.tasks x
    → ShowsAs tidy c s (set_semaphore b (view_semaphore x) L) (set d (s.semaphoreat + (b - 1)) (state_byte x)) z w
unfolding semaphore_at regions named but bound with_semaphores
semaphore_stored c s L d z w h b (lo, hi) x q =
    let l = h.of.laid in
    let p : Regions = regions s d in
    let v : List ℕ = set p.semaphores (b - 1) (state_byte x) in
    let n : length p.semaphores ≡ s.waitingat - s.semaphoreat = region_length s l d h.room 3 in
    let here : get_or v (b - 1) 0 ≡ state_byte x = get_or-set_same p.semaphores (b - 1) (state_byte x) 0 (omega arith) in
    let new : view_semaphore x ≡ view_semaphore (state_of c.T (get_or v (b - 1) 0)) =
    sym (ap (λ (y : ℕ). view_semaphore (state_of c.T y)) here ∙ ap view_semaphore (state_back c.T x (omega (arith, h.of.tasks)) (subst (λ (k : ℕ). Waiter k x) h.of.tasks q))) in
    let other : (j : ℕ) → j < semaphore_count c → (j ≡ b - 1 → ⊥) → view_semaphore (state_of c.T (get_or p.semaphores j 0)) ≡ view_semaphore (state_of c.T (get_or v j 0)) =
    λ j g ne. ap (λ (y : ℕ). view_semaphore (state_of c.T y)) (sym (get_or-set_other p.semaphores (b - 1) j (state_byte x) 0 ne)) in
    shows_as c s L d z w (set d (s.semaphoreat + (b - 1)) (state_byte x)) z (with_semaphores v p) h (length-set d (s.semaphoreat + (b - 1)) (state_byte x)) refl
    (byte_written s l d h.room 3 (b - 1) (state_byte x) (omega arith))
    (set_semaphore b (view_semaphore x) L)
    (semaphore_shown c L p z w h.shown v b (view_semaphore x) lo new other
    (λ e j g. case (eqb j (b - 1))
    (λ a. subst (λ (i : ℕ). get_or v i 0 ≡ state_as (view_semaphore (state_of c.T (get_or v i 0)))) (sym (eqb-true j (b - 1) a)) (here ∙ state_as_lem x ∙ ap state_as new))
    (λ a. let ne = eqb-false j (b - 1) a in get_or-set_other p.semaphores (b - 1) j (state_byte x) 0 ne ∙ (h.shown.tidily e).semaphores j g ∙ ap state_as (other j g ne))))
