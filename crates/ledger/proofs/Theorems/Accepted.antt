-- What an accepted frame says of the task, the semaphore, the queue, the message and the tock value that it means: each of its checks has passed.
use Rattle.ledger.specs.Good.{Accepted, Good, GoodA, GoodB, GoodEntry, GoodNumber, GoodTocks, GoodX, Numbered, TaskRuns}
use Rattle.std.specs.Prelude.{ℕ, ◌+◌, ◌≤◌, ◌≡◌, refl, ◌⊎◌, Bool, true, false, cond, not, ◌&&◌, List, eqb, leb, length}
use Rattle.std.proofs.Common.{inl, inr, arith, leb-true, leb-false, eqb-true, ne_eqb}
use Rattle.std.proofs.lemmas.Bool.{eqb-false, not-false}
use Rattle.ledger.specs.Lists.{first, within, byte}
use Rattle.ledger.specs.Config.{Config}
use Rattle.ledger.specs.Ledger.{Ledger, running}
use Rattle.ledger.specs.Services.{Code, WAIT, SIGNAL, PEND, SEND, SENDW, RECEIVE, DEQUEUE, ENQUEUE, RESUME, SUSPEND, TERMINATE, EXECUTE, DELAY, TIMER, PURGE, TICK, EXIT, SEASON_TIMER, codes}
use Rattle.ledger.specs.Refusals.{FieldA, no_a, a_task, to_start, self_or_task, any_or_task, a_queue, FieldB, no_b, of_self, of_task, or_none, FieldX, no_x, a_message, a_tock_value, a_switch, Fields, fields, Follows, x_alone, x_and_entry, long_x, meant_task, meant_semaphore, code_at, call, wrong_task, wrong_semaphore, wrong_queue, is_message, is_tock_value, wrong_entry, inamailbox, have_timer, from_input, from_state, refusal}
use Rattle.ledger.proofs.Theorems.Checks.{or_left, asked, within_numbered, passes, passes_joined, Numbers}
use Rattle.ledger.proofs.Theorems.Lowest.{NullRuns, lowest_runs}

-- ---- each from its checks

or_own : (c : Config) (t b : ℕ) → Numbered c.T t → b ≤ c.S + c.T → Numbered (c.S + c.T) (cond (eqb b 0) (c.S + t) b)
or_own c t b n h = go (eqb b 0) refl
  where
    go : (z : Bool) → eqb b 0 ≡ z → Numbered (c.S + c.T) (cond z (c.S + t) b)
    go true e = omega arith
    go false e = record { from = omega (arith, eqb-false b 0 e); upto = h }

good_a : (c : Config) (A : FieldA) (self a : ℕ) → Numbered c.T self → wrong_task c A self a ≡ false → wrong_queue c A a ≡ false → GoodA c A (meant_task A self a)
unfolding wrong_task wrong_queue meant_task
good_a c no_a self a s t q = tt
good_a c a_task self a s t q = within_numbered c.T a (not-false _ t)
good_a c to_start self a s t q = within_numbered c.T a (not-false _ (or_left _ (eqb a self) t))
good_a c self_or_task self a s t q = go (eqb a 0) refl (leb-true a c.T (not-false _ t))
  where
    go : (b : Bool) → eqb a 0 ≡ b → a ≤ c.T → Numbered c.T (cond b self a)
    go true e h = s
    go false e h = record { from = omega (arith, eqb-false a 0 e); upto = h }
good_a c any_or_task self a s t q = leb-true a c.T (not-false _ t)
good_a c a_queue self a s t q = within_numbered c.Q a (not-false _ q)

-- the task whose semaphore 0 means
abbrev Owner : Config → FieldB → (self a : ℕ) → Type 0
Owner c no_b self a = Unit {0}
Owner c of_self self a = Numbered c.T self
Owner c of_task self a = Numbered c.T a
Owner c or_none self a = Unit {0}

good_b : (c : Config) (B : FieldB) (self a b : ℕ) → Owner c B self a → wrong_semaphore c B b ≡ false → GoodB c B (meant_semaphore c B self a b)
unfolding wrong_semaphore meant_semaphore
good_b c no_b self a b o w = tt
good_b c of_self self a b o w = or_own c self b o (leb-true b (c.S + c.T) (not-false _ w))
good_b c of_task self a b o w = or_own c a b o (leb-true b (c.S + c.T) (not-false _ w))
good_b c or_none self a b o w = leb-true b (c.S + c.T) (not-false _ w)

-- only services mean self
module _ (c : Config) (self a b : ℕ) where
  record Used (u : Fields) : Type 0 where
    A : GoodA c u.A (meant_task u.A self a)
    B : GoodB c u.B (meant_semaphore c u.B self (meant_task u.A self a) b)

  service : (u : Fields) → Numbered c.T self → Owner c u.B self (meant_task u.A self a)
      → wrong_task c u.A self a ≡ false → wrong_queue c u.A a ≡ false → wrong_semaphore c u.B b ≡ false → Used u
  service u s o t q w = record { A = good_a c u.A self a s t q; B = good_b c u.B self (meant_task u.A self a) b o w }

  used : (k : Code) → ((fields k).service ≡ true → Numbered c.T self)
      → wrong_task c (fields k).A self a ≡ false → wrong_queue c (fields k).A a ≡ false → wrong_semaphore c (fields k).B b ≡ false → Used (fields k)
  unfolding fields
  used WAIT s t q w = service (fields WAIT) (s refl) (s refl) t q w
  used SIGNAL s t q w = service (fields SIGNAL) (s refl) (s refl) t q w
  used PEND s t q w = service (fields PEND) (s refl) (s refl) t q w
  used SEND s t q w = service (fields SEND) (s refl) (s refl) t q w
  used SENDW s t q w = service (fields SENDW) (s refl) (s refl) t q w
  used RECEIVE s t q w = service (fields RECEIVE) (s refl) tt t q w
  used DEQUEUE s t q w = service (fields DEQUEUE) (s refl) tt t q w
  used ENQUEUE s t q w = service (fields ENQUEUE) (s refl) tt t q w
  used RESUME s t q w = service (fields RESUME) (s refl) tt t q w
  used SUSPEND s t q w = service (fields SUSPEND) (s refl) tt t q w
  used TERMINATE s t q w = service (fields TERMINATE) (s refl) tt t q w
  used EXECUTE s t q w = service (fields EXECUTE) (s refl) tt t q w
  used DELAY s t q w = service (fields DELAY) (s refl) (good_a c self_or_task self a (s refl) t q) t q w
  used TIMER s t q w = service (fields TIMER) (s refl) (good_a c self_or_task self a (s refl) t q) t q w
  used PURGE s t q w = service (fields PURGE) (s refl) (good_a c self_or_task self a (s refl) t q) t q w
  used TICK s t q w = record { A = tt; B = tt }
  used EXIT s t q w = record { A = tt; B = good_b c or_none self (meant_task no_a self a) b tt w }
  used SEASON_TIMER s t q w = service (fields SEASON_TIMER) (s refl) (good_a c self_or_task self a (s refl) t q) t q w

good_number : (c : Config) (X : FieldX) (x : ℕ) → (is_message X && not (within 1 c.G x)) ≡ false → (is_tock_value X && eqb x 0) ≡ false → GoodNumber c X x
unfolding is_message is_tock_value
good_number c no_x x m t = tt
good_number c a_message x m t = within_numbered c.G x (not-false _ m)
good_number c a_tock_value x m t = eqb-false x 0 t
good_number c a_switch x m t = tt

good_entry : (c : Config) (u : Follows) (q : ℕ) (e : List ℕ) → wrong_entry c u q e ≡ false → GoodEntry c u q e
unfolding wrong_entry
good_entry c x_alone q e h = tt
good_entry c x_and_entry q e h = eqb-true _ _ (not-false _ h)
good_entry c long_x q e h = tt

good_x : (c : Config) (l : Ledger) (X : FieldX) (a b x : ℕ) → GoodNumber c X x
    → (is_message X && inamailbox l x) ≡ false → (is_tock_value X && have_timer l a b) ≡ false → (is_tock_value X && leb c.R (length l.timers)) ≡ false → GoodX c l X a b x
unfolding is_message is_tock_value
good_x c l no_x a b x g n p r = tt
good_x c l a_message a b x g n p r = record { number = g; nowhere = n }
good_x c l a_tock_value a b x g n p r = record { some = g; single = p; free = leb-false c.R (length l.timers) r }
good_x c l a_switch a b x g n p r = tt

running_low : (c : Config) (l : Ledger) → length l.tasks ≡ c.T → running l ≤ c.T
running_low c l h = go (lowest_runs c.T l h)
  where
    go : TaskRuns c.T l (running l) ⊎ NullRuns c.T l (running l) → running l ≤ c.T
    go (inl r) = r.number.upto
    go (inr r) = omega (arith, r.null)

runs : (c : Config) (l : Ledger) → length l.tasks ≡ c.T → eqb (running l) 0 ≡ false → TaskRuns c.T l (running l)
runs c l h e = go (lowest_runs c.T l h)
  where
    go : TaskRuns c.T l (running l) ⊎ NullRuns c.T l (running l) → TaskRuns c.T l (running l)
    go (inl r) = r
    go (inr r) = absurd (eqb-false (running l) 0 e r.null)

-- ---- by the input, and by the ledger too

input_numbers : (c : Config) (self : ℕ) (f : List ℕ) → Numbers (from_input c self f) ≡ true
unfolding from_input
input_numbers c self f = refl

pub good : (c : Config) (self : ℕ) (f : List ℕ) → self ≤ c.T → first (from_input c self f) ≡ 0 → Good c (call c self f)
unfolding from_input call
good c self f h e =
    let (short, (code, (long, (null, (task, (sem, (queue, (message, (tocks, (width, done)))))))))) = passes _ refl e in
    let k = code_at (byte 0 f) in
    let s : (fields k).service ≡ true → Numbered c.T self = λ v. record { from = omega (arith, eqb-false self 0 (asked (fields k).service _ null v)); upto = h } in
    let u = used c self (byte 1 f) (byte 2 f) k s task queue sem in
    record { self = s; A = u.A; B = u.B; X = good_number c _ _ message tocks; entry = good_entry c _ _ _ width }

-- 4, and of a frame with a tock value 9, 24 and 23, whatever the number of tasks
pub accepted_code : (c : Config) (l : Ledger) (f : List ℕ) → refusal c l f ≡ 0 → Numbered (length codes) (byte 0 f)
unfolding refusal from_input
accepted_code c l f e =
    let (short, (code, rest)) = passes _ refl (passes_joined (from_input c (running l) f) _ (input_numbers c (running l) f) e).0 in
    within_numbered (length codes) (byte 0 f) (not-false _ code)

pub accepted_tocks : (c : Config) (l : Ledger) (f : List ℕ) → refusal c l f ≡ 0 → is_tock_value (fields (code_at (byte 0 f))).X ≡ true
    → let k = call c (running l) f in GoodTocks c l k.a k.b k.x
unfolding refusal from_input from_state call
accepted_tocks c l f e v =
    let p = passes_joined (from_input c (running l) f) (from_state c l (call c (running l) f)) (input_numbers c (running l) f) e in
    let (short, (code, (long, (null, (task, (sem, (queue, (message, (tocks, (width, done)))))))))) = passes _ refl p.0 in
    let (busy, (before, (lies, (waits, (timer, (full, none)))))) = passes _ refl p.1 in
    record { some = eqb-false _ 0 (asked _ _ tocks v); single = asked _ _ timer v; free = leb-false _ _ (asked _ _ full v) }

pub accepted : (c : Config) (l : Ledger) (f : List ℕ) → length l.tasks ≡ c.T → refusal c l f ≡ 0 → Accepted c l (call c (running l) f)
unfolding refusal from_state call
accepted c l f h e =
    let k = call c (running l) f in
    let p = passes_joined (from_input c (running l) f) (from_state c l k) (input_numbers c (running l) f) e in
    let g = good c (running l) f (running_low c l h) p.0 in
    let (busy, (before, (lies, (waits, (timer, (full, done)))))) = passes _ refl p.1 in
    record {
      self = λ v. runs c l h (ne_eqb (running l) 0 (λ z. omega (arith, g.self v)));
      A = g.A;
      B = g.B;
      X = good_x c l _ _ _ _ g.X lies timer full;
      entry = g.entry;
      not25 = busy;
      not26 = before;
      not21 = waits;
    }
