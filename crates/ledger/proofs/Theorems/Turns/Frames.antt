-- A frame and the timers, in five ways: it leaves them, starts one, keeps those that it doesn't end, counts a tick, or lets a tock pass.
use Prim.Native.Nat.{ℕ, suc, ◌+◌, ◌%◌, ◌≤◌, ◌<◌}
use Rattle.std.specs.Prelude.{◌≡◌, Bool, ◌&&◌, ◌||◌}
use Rattle.std.proofs.Math.Path.{refl, ap, subst}
use Rattle.std.proofs.Common.{sym, ◌∙◌, arith}
use Rattle.std.proofs.Math.Bool.{true, false, cond, not, and-true, and-false}
use mathlib.Core.List.{List, []}
use borrow.Author.Tests.{eqb-true, ltb-true, ltb-false, lt-ltb, le-ltb, not-true}
use Rattle.std.proofs.Math.Dec.{eqb, ltb}
use Rattle.ledger.specs.Lists.{byte, word, long_word, Bytes, at, any, keep, insert_by}
use Rattle.ledger.specs.Config.{Config}
use Rattle.ledger.specs.Time.{TockValue, tock_value, long_tock_value, tocks}
use Rattle.ledger.specs.Ledger.{Timer, Ledger, running, set_timers, set_clock}
use Rattle.ledger.specs.Services.{Code, WAIT, SIGNAL, PEND, SEND, SENDW, RECEIVE, DEQUEUE, ENQUEUE, RESUME, SUSPEND, TERMINATE, EXECUTE, DELAY, TIMER, PURGE, TICK, EXIT, SEASON_TIMER, signal_all, due, due_now, expire_all, tock, tick, effect}
use Rattle.ledger.specs.Refusals.{fields, is_tock_value, code_at, value_x, asked_by, call, is_of, have_timer, refusal}
use Rattle.ledger.specs.Session.{accept, step}
use Rattle.ledger.specs.Turns.{accepted_as, Starts, ends, passes_tock, removed, has_turn}
use Rattle.ledger.proofs.Theorems.Checks.{and_left, and_right, or_left, or_right}
use Rattle.ledger.specs.Good.{GoodTocks}
use Rattle.ledger.proofs.Theorems.Accepted.{accepted_code, accepted_tocks}
use Rattle.ledger.proofs.Theorems.TockValues.{some_tocks}
use Rattle.ledger.proofs.Theorems.Tocks.{due_at, renewed, signalled_by, tock_is}
use Rattle.ledger.proofs.Theorems.Told.{accept_as}
use Rattle.ledger.proofs.Theorems.Keeps.{keep_alike}
use Rattle.ledger.proofs.Theorems.Turns.Codes.{number_of, number_of_code}
use Rattle.ledger.proofs.Theorems.Turns.Clock.{clock, timer_for, started, ticked, clock_after, of_step}

module _ (c : Config) (l : Ledger) (f : List ℕ) where
  -- it is no accepted tick: no time passes
  pub record Timeless (m : Ledger) : Type 0 where
    pub N : m.N ≡ l.N
    pub ticks : m.ticks ≡ l.ticks
    pub no_tick : accepted_as (refusal c l f) f 0x10 ≡ false

  -- each says what the timers are afterwards, which it removes as due, and which it ends
  pub record Leaves (m : Ledger) : Type 0 where
    pub time : Timeless m
    pub timers : m.timers ≡ l.timers
    pub spares : (a b : ℕ) → ends c (running l) (refusal c l f) f a b ≡ false

  pub record Inserts (a b : ℕ) (v : TockValue) (m : Ledger) : Type 0 where
    pub time : Timeless m
    pub timers : m.timers ≡ insert_by (λ t. t.due) (timer_for a b v l.N) l.timers
    pub free : have_timer l a b ≡ false
    pub one : Bytes f → 1 ≤ tocks v
    pub spares : (a b : ℕ) → ends c (running l) (refusal c l f) f a b ≡ false

  pub record Stops (m : Ledger) : Type 0 where
    pub time : Timeless m
    pub timers : m.timers ≡ keep (λ t. not (ends c (running l) (refusal c l f) f t.task t.semaphore)) l.timers

  pub record Counts (m : Ledger) : Type 0 where
    pub tick : accepted_as (refusal c l f) f 0x10 ≡ true
    pub N : m.N ≡ l.N
    pub ticks : m.ticks ≡ suc l.ticks
    pub more : suc l.ticks < c.K
    pub timers : m.timers ≡ l.timers
    pub removes : removed c l f ≡ []
    pub spares : (a b : ℕ) → ends c (running l) (refusal c l f) f a b ≡ false

  pub record Passes (m : Ledger) : Type 0 where
    pub tick : accepted_as (refusal c l f) f 0x10 ≡ true
    pub N : m.N ≡ suc l.N
    pub ticks : m.ticks ≡ 0
    pub last : c.K ≤ suc l.ticks
    pub timers : m.timers ≡ renewed (suc l.N) l.timers
    pub removes : removed c l f ≡ keep (due_at (suc l.N)) l.timers
    pub spares : (a b : ℕ) → ends c (running l) (refusal c l f) f a b ≡ false

  pub data Way (m : Ledger) : Type 0 where
    leaves : Leaves m → Way m
    inserts : (a b : ℕ) (v : TockValue) → Starts c (running l) (refusal c l f) f a b v → Inserts a b v m → Way m
    stops : Stops m → Way m
    counts : Counts m → Way m
    passes : Passes m → Way m

  -- ---- the tests of the codes

  abbrev task_meant : ℕ
  task_meant = (call c (running l) f).a

  abbrev semaphore_meant : ℕ
  semaphore_meant = (call c (running l) f).b

  refuses : (n : ℕ) → eqb (refusal c l f) 0 ≡ false → accepted_as (refusal c l f) f n ≡ false
  unfolding accepted_as
  refuses n e = rw e

  accepts_is : (i n : ℕ) → refusal c l f ≡ 0 → byte 0 f ≡ i → accepted_as (refusal c l f) f n ≡ eqb i n
  unfolding accepted_as
  accepts_is i n e h = rw (e, h)

  accepts_both : (n : ℕ) → accepted_as (refusal c l f) f n ≡ true → (refusal c l f ≡ 0) × (byte 0 f ≡ n)
  unfolding accepted_as
  accepts_both n h = (eqb-true _ _ (and_left _ (eqb (byte 0 f) n) h), eqb-true _ _ (and_right (eqb (refusal c l f) 0) _ h))

  no_end : accepted_as (refusal c l f) f 0x0B ≡ false → accepted_as (refusal c l f) f 0x0F ≡ false → (a b : ℕ) → ends c (running l) (refusal c l f) f a b ≡ false
  unfolding ends
  no_end t p a b = rw (t, p) (and-false (eqb a task_meant))

  pub none_removed : accepted_as (refusal c l f) f 0x10 ≡ false → removed c l f ≡ []
  unfolding removed passes_tock
  none_removed t = rw t

  tick_removes : (b : Bool) → accepted_as (refusal c l f) f 0x10 ≡ true → ltb (suc l.ticks) c.K ≡ b → removed c l f ≡ cond b [] (keep (due_at (suc l.N)) l.timers)
  unfolding removed passes_tock due due_at set_clock
  tick_removes true h e = rw (h, e)
  tick_removes false h e = rw (h, e)

  -- ---- an accepted frame of each code

  -- the codes that may end a timer
  abbrev may_end : ℕ → Bool
  may_end n = eqb n 0x0B || eqb n 0x0F

  module _ (k : Code) (e : refusal c l f ≡ 0) (h : byte 0 f ≡ number_of k) where
    spares_all : may_end (number_of k) ≡ false → (a b : ℕ) → ends c (running l) (refusal c l f) f a b ≡ false
    spares_all t =
        no_end (accepts_is (number_of k) 0x0B e h ∙ or_left (eqb (number_of k) 0x0B) (eqb (number_of k) 0x0F) t)
        (accepts_is (number_of k) 0x0F e h ∙ or_right (eqb (number_of k) 0x0B) (eqb (number_of k) 0x0F) t)

    timeless : {m : Ledger} {t : List Timer} → eqb (number_of k) 0x10 ≡ false → clock m ≡ record { N = l.N; ticks = l.ticks; timers = t } → Timeless m
    timeless i g = record { N = ap (λ k. k.N) g; ticks = ap (λ k. k.ticks) g; no_tick = accepts_is (number_of k) 0x10 e h ∙ i }

    -- N, the ticks and the timers afterwards
    clock_is : code_at (byte 0 f) ≡ k → clock (step c f l).ledger ≡ clock_after k c task_meant semaphore_meant (value_x (fields k).follows f) (clock l)
    unfolding call
    clock_is q = of_step c f l e ∙ ap (λ (z : Code). clock_after z c task_meant semaphore_meant (value_x (fields z).follows f) (clock l)) q

    same : {m : Ledger} → may_end (number_of k) ≡ false → eqb (number_of k) 0x10 ≡ false → clock m ≡ clock l → Way m
    same t i g = leaves (record { time = timeless i g; timers = ap (λ k. k.timers) g; spares = spares_all t })

    begun : {m : Ledger} {a b : ℕ} {v : TockValue} → may_end (number_of k) ≡ false → eqb (number_of k) 0x10 ≡ false → is_tock_value (fields (code_at (byte 0 f))).X ≡ true
        → clock m ≡ started task_meant semaphore_meant v (clock l) → (GoodTocks c l task_meant semaphore_meant (call c (running l) f).x → Bytes f → 1 ≤ tocks v)
        → task_meant ≡ a → semaphore_meant ≡ b → Inserts a b v m
    unfolding started
    begun t i x g one ta tb =
        record {
          time = timeless i g;
          timers = ap (λ k. k.timers) g ∙ rw (ta, tb);
          free = rw (ta, tb) at (accepted_tocks c l f e x).single;
          one = one (accepted_tocks c l f e x);
          spares = spares_all t;
        }

  code_is : (n : ℕ) → accepted_as (refusal c l f) f n ≡ true → code_at (byte 0 f) ≡ code_at n
  code_is n h = ap code_at (accepts_both n h).1

  -- with this number and this code, the timer that it starts is the one that its bytes ask for
  begun_by : {a b : ℕ} {v : TockValue} (k : Code) → code_at (number_of k) ≡ k → accepted_as (refusal c l f) f (number_of k) ≡ true → may_end (number_of k) ≡ false → eqb (number_of k) 0x10 ≡ false
      → is_tock_value (fields k).X ≡ true
      → ((a b : ℕ) → clock_after k c a b (value_x (fields k).follows f) (clock l) ≡ started a b (asked_by (number_of k) f) (clock l))
      → ((value_x (fields k).follows f ≡ 0 → ⊥) → Bytes f → 1 ≤ tocks (asked_by (number_of k) f)) → Starts c (running l) (refusal c l f) f a b v → Inserts a b v (step c f l).ledger
  unfolding call
  begun_by {v} k n h t i x g one s =
      let (e, j) = accepts_both (number_of k) h in
      let q : code_at (byte 0 f) ≡ k = code_is (number_of k) h ∙ n in
      let w : asked_by (number_of k) f ≡ v = ap (λ (z : ℕ). asked_by z f) (sym j) ∙ s.value in
      begun k e j t i (ap (λ (z : Code). is_tock_value (fields z).X) q ∙ x)
      (clock_is k e j q ∙ g task_meant semaphore_meant ∙ ap (λ (z : TockValue). started task_meant semaphore_meant z (clock l)) w)
      (λ p y. subst (λ (z : TockValue). 1 ≤ tocks z) w (one (λ z. p.some (ap (λ (z : Code). value_x (fields z).follows f) q ∙ z)) y)) s.task s.semaphore

  pub a_start : {a b : ℕ} {v : TockValue} → Starts c (running l) (refusal c l f) f a b v → Inserts a b v (step c f l).ledger
  unfolding code_at at fields is_tock_value clock_after value_x tock_value long_tock_value
  a_start {a} {b} {v} s = go (accepted_as (refusal c l f) f 0x0D) (accepted_as (refusal c l f) f 0x0E) refl refl s.code
    where
      -- at least a tock, of either width
      short : (word 3 f ≡ 0 → ⊥) → Bytes f → 1 ≤ tocks (tock_value (word 3 f))
      short z y = (some_tocks 0x8000 (word 3 f) (omega (arith, y 3, y 4)) z).from

      long : (long_word 3 f ≡ 0 → ⊥) → Bytes f → 1 ≤ tocks (long_tock_value (long_word 3 f))
      long z y = (some_tocks 0x80000000 (long_word 3 f) (omega (arith, y 3, y 4, y 5, y 6)) z).from

      go : (d t : Bool) → accepted_as (refusal c l f) f 0x0D ≡ d → accepted_as (refusal c l f) f 0x0E ≡ t → (d || t || accepted_as (refusal c l f) f 0x12) ≡ true → Inserts a b v (step c f l).ledger
      go true t d i h = begun_by DELAY refl d refl refl refl (λ a b. refl) short s
      go false true d i h = begun_by TIMER refl i refl refl refl (λ a b. refl) short s
      go false false d i h = begun_by SEASON_TIMER refl h refl refl refl (λ a b. refl) long s

  -- a tick, at the end of a tock or before
  tick_way : {m : Ledger} → accepted_as (refusal c l f) f 0x10 ≡ true → ((a b : ℕ) → ends c (running l) (refusal c l f) f a b ≡ false) → clock m ≡ ticked c (clock l) → Way m
  unfolding ticked
  tick_way {m} h s g = go (ltb (suc l.ticks) c.K) refl g
    where
      go : (b : Bool) → ltb (suc l.ticks) c.K ≡ b
          → clock m ≡ cond b (record { N = l.N; ticks = suc l.ticks; timers = l.timers }) (record { N = suc l.N; ticks = 0; timers = renewed (suc l.N) l.timers }) → Way m
      go true e k =
          counts (record { tick = h; N = ap (λ k. k.N) k; ticks = ap (λ k. k.ticks) k; more = ltb-true (suc l.ticks) c.K e; timers = ap (λ k. k.timers) k; removes = tick_removes true h e; spares = s })
      go false e k =
          passes (record { tick = h; N = ap (λ k. k.N) k; ticks = ap (λ k. k.ticks) k; last = ltb-false (suc l.ticks) c.K e; timers = ap (λ k. k.timers) k; removes = tick_removes false h e; spares = s })

  starts_as : (n : ℕ) → (eqb n 0x0D || eqb n 0x0E || eqb n 0x12) ≡ true → refusal c l f ≡ 0 → byte 0 f ≡ n → Starts c (running l) (refusal c l f) f task_meant semaphore_meant (asked_by (byte 0 f) f)
  starts_as n t e h = record { code = rw (accepts_is n 0x0D e h, accepts_is n 0x0E e h, accepts_is n 0x12 e h) t; task = refl; semaphore = refl; value = refl }

  terminate_ends : accepted_as (refusal c l f) f 0x0B ≡ true → (t : Timer) → not (eqb t.task task_meant) ≡ not (ends c (running l) (refusal c l f) f t.task t.semaphore)
  unfolding ends
  terminate_ends h t = rw h (ap not (sym (and-true (eqb t.task task_meant))))

  purge_ends : accepted_as (refusal c l f) f 0x0B ≡ false → accepted_as (refusal c l f) f 0x0F ≡ true
      → (t : Timer) → not (eqb t.task task_meant && (eqb ((call c (running l) f).x % 256) 0 || eqb t.semaphore semaphore_meant)) ≡ not (ends c (running l) (refusal c l f) f t.task t.semaphore)
  unfolding ends
  purge_ends n h t = rw (n, h)

  by_code : (k : Code) → refusal c l f ≡ 0 → byte 0 f ≡ number_of k → code_at (byte 0 f) ≡ k → Way (step c f l).ledger
  unfolding clock_after call
  by_code WAIT e h q = same WAIT e h refl refl (clock_is WAIT e h q)
  by_code SIGNAL e h q = same SIGNAL e h refl refl (clock_is SIGNAL e h q)
  by_code PEND e h q = same PEND e h refl refl (clock_is PEND e h q)
  by_code SEND e h q = same SEND e h refl refl (clock_is SEND e h q)
  by_code SENDW e h q = same SENDW e h refl refl (clock_is SENDW e h q)
  by_code RECEIVE e h q = same RECEIVE e h refl refl (clock_is RECEIVE e h q)
  by_code DEQUEUE e h q = same DEQUEUE e h refl refl (clock_is DEQUEUE e h q)
  by_code ENQUEUE e h q = same ENQUEUE e h refl refl (clock_is ENQUEUE e h q)
  by_code RESUME e h q = same RESUME e h refl refl (clock_is RESUME e h q)
  by_code SUSPEND e h q = same SUSPEND e h refl refl (clock_is SUSPEND e h q)
  by_code TERMINATE e h q =
      let g = clock_is TERMINATE e h q in
      stops (record { time = timeless TERMINATE e h refl g; timers = ap (λ k. k.timers) g ∙ keep_alike (terminate_ends (accepts_is 0x0B 0x0B e h)) l.timers })
  by_code EXECUTE e h q = same EXECUTE e h refl refl (clock_is EXECUTE e h q)
  by_code DELAY e h q = let s = starts_as 0x0D refl e h in inserts _ _ _ s (a_start s)
  by_code TIMER e h q = let s = starts_as 0x0E refl e h in inserts _ _ _ s (a_start s)
  by_code PURGE e h q =
      let g = of_step c f l e ∙ ap (λ (z : Code). clock_after z c task_meant semaphore_meant (call c (running l) f).x (clock l)) q in
      stops (record { time = timeless PURGE e h refl g; timers = ap (λ k. k.timers) g ∙ keep_alike (purge_ends (accepts_is 0x0F 0x0B e h) (accepts_is 0x0F 0x0F e h)) l.timers })
  by_code TICK e h q = tick_way (accepts_is 0x10 0x10 e h) (no_end (accepts_is 0x10 0x0B e h) (accepts_is 0x10 0x0F e h)) (clock_is TICK e h q)
  by_code EXIT e h q = same EXIT e h refl refl (clock_is EXIT e h q)
  by_code SEASON_TIMER e h q = let s = starts_as 0x12 refl e h in inserts _ _ _ s (a_start s)

  -- every frame, accepted or refused
  pub way : Way (step c f l).ledger
  unfolding step
  way = go (eqb (refusal c l f) 0) refl
    where
      go : (b : Bool) → eqb (refusal c l f) 0 ≡ b → Way (step c f l).ledger
      go true r = let e = eqb-true (refusal c l f) 0 r in by_code (code_at (byte 0 f)) e (number_of_code (byte 0 f) (accepted_code c l f e)) refl
      go false r = rw r (leaves (record { time = record { N = refl; ticks = refl; no_tick = refuses 0x10 r }; timers = refl; spares = no_end (refuses 0x0B r) (refuses 0x0F r) }))

  -- N grows by one with a tock, and never else
  pub step_tock : (step c f l).ledger.N ≡ l.N + cond (passes_tock c l.ticks (refusal c l f) f) 1 0
  unfolding passes_tock
  step_tock = go way
    where
      go : {m : Ledger} → Way m → m.N ≡ l.N + cond (passes_tock c l.ticks (refusal c l f) f) 1 0
      go (leaves w) = rw w.time.no_tick (omega (arith, w.time.N))
      go (inserts x y v i w) = rw w.time.no_tick (omega (arith, w.time.N))
      go (stops w) = rw w.time.no_tick (omega (arith, w.time.N))
      go (counts w) = rw (w.tick, lt-ltb (suc l.ticks) c.K w.more) (omega (arith, w.N))
      go (passes w) = rw (w.tick, le-ltb (suc l.ticks) c.K w.last) (omega (arith, w.N))

  -- ---- those removed are signalled for: a tick with which a tock passes is this, and so `removed` is what `expire_all` is given

  passes_tick : passes_tock c l.ticks (refusal c l f) f ≡ true → (accepted_as (refusal c l f) f 0x10 ≡ true) × (ltb (suc l.ticks) c.K ≡ false)
  unfolding passes_tock
  passes_tick h = (and_left (accepted_as (refusal c l f) f 0x10) _ h, not-true _ (and_right (accepted_as (refusal c l f) f 0x10) _ h))

  accepts_tock : passes_tock c l.ticks (refusal c l f) f ≡ true → accept c f l ≡ tock (set_clock (suc l.N) 0 l)
  unfolding accept call effect fields code_at at tick
  accepts_tock h = ap (accept_as c f l) (code_is 0x10 (passes_tick h).0) ∙ rw (passes_tick h).1

  pub removed_signals : passes_tock c l.ticks (refusal c l f) f ≡ true → let n = set_clock (suc l.N) 0 l in accept c f l ≡ expire_all (removed c l f) (set_timers (keep (λ t. not (due n t)) l.timers) n)
  unfolding removed tock set_clock
  removed_signals h = accepts_tock h ∙ rw h

  -- and so its signals come behind the timers' own changes
  pub signals_last : passes_tock c l.ticks (refusal c l f) f ≡ true → accept c f l ≡ signal_all (signalled_by (removed c l f)) (set_timers (renewed (suc l.N) l.timers) (set_clock (suc l.N) 0 l))
  unfolding set_clock
  signals_last h =
      let (t, e) = passes_tick h in
      accepts_tock h ∙ tock_is (set_clock (suc l.N) 0 l)
      ∙ ap (λ (ts : List Timer). signal_all (signalled_by ts) (set_timers (renewed (suc l.N) l.timers) (set_clock (suc l.N) 0 l))) (sym (tick_removes false t e))

  -- a turn is a tick that is accepted, with which a tock passes
  pub turn_passes : (a b : ℕ) → has_turn c l f a b ≡ true → passes_tock c l.ticks (refusal c l f) f ≡ true
  unfolding has_turn removed any
  turn_passes a b h = go (passes_tock c l.ticks (refusal c l f) f) h
    where
      go : (p : Bool) → any (is_of a b) (cond p (due_now (set_clock (suc l.N) 0 l)) []) ≡ true → p ≡ true
      go true k = refl
      go false k = k

  pub turn_accepted : (a b : ℕ) → has_turn c l f a b ≡ true → refusal c l f ≡ 0
  turn_accepted a b h = (accepts_both 0x10 (passes_tick (turn_passes a b h)).0).0
