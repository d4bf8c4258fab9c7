-- Turns: how often a timer has signalled in a list of frames. Definitions, and the statement at the end; its proof is in Theorems/Turns.
-- A timer is known by its task a and its semaphore b: no two that run have both the same (one-at-a-time), and none is started for a pair that has one, by 24 (no-second).
use Rattle.std.specs.Prelude.{ℕ, suc, ◌+◌, ◌-◌, ◌/◌, ◌%◌, ◌≡◌, Bool, true, cond, not, ◌&&◌, ◌||◌, List, [], ◌∷◌, ◌++◌, eqb, leb, ltb, length}
use Rattle.ledger.specs.Lists.{byte, Bytes, any}
use Rattle.ledger.specs.Config.{Config}
use Rattle.ledger.specs.Time.{TockValue, none, one_shot, cyclic}
use Rattle.ledger.specs.Ledger.{Semaphore, PENDING, DONE, WAITING, Timer, Ledger, running, set_clock}
use Rattle.ledger.specs.Services.{due_now}
use Rattle.ledger.specs.Refusals.{asked_by, call, is_of, have_timer, refusal}
use Rattle.ledger.specs.Session.{step, run}

-- ---- a frame and its number, which is 0 if it is accepted. `self` is the running task

-- it is accepted and has this code
unfoldable pub accepted_as : (number : ℕ) → List ℕ → (code : ℕ) → Bool
accepted_as number f code = eqb number 0 && eqb (byte 0 f) code

-- it starts the timer of task a on semaphore b with the tock value v: $0D delay, $0E timer or $12 season timer
pub record Starts (c : Config) (self number : ℕ) (f : List ℕ) (a b : ℕ) (v : TockValue) : Type 0 where
  pub code : (accepted_as number f 0x0D || accepted_as number f 0x0E || accepted_as number f 0x12) ≡ true
  pub task : (call c self f).a ≡ a
  pub semaphore : (call c self f).b ≡ b
  pub value : asked_by (byte 0 f) f ≡ v

-- it ends the timer of a on b: $0B terminates a, or $0F purges all of a's timers or a's on b
unfoldable pub ends : Config → (self number : ℕ) → List ℕ → (a b : ℕ) → Bool
ends c self number f a b =
    let k = call c self f in
    eqb a k.a && (accepted_as number f 0x0B || accepted_as number f 0x0F && (eqb (k.x % 256) 0 || eqb b k.b))

-- with it a tock passes: $10, the last tick of the present tock
unfoldable pub passes_tock : Config → (ticks number : ℕ) → List ℕ → Bool
passes_tock c ticks number f = accepted_as number f 0x10 && not (ltb (suc ticks) c.K)

-- semaphore b after signals of these semaphores, one after the other: at each of its own WAITING becomes PENDING, otherwise DONE
unfoldable pub signalled_once : Semaphore → Semaphore
signalled_once PENDING = DONE
signalled_once DONE = DONE
signalled_once (WAITING t) = PENDING

unfoldable pub after_signals : (b : ℕ) → List ℕ → Semaphore → Semaphore
after_signals b [] s = s
after_signals b (d ∷ ds) s = after_signals b ds (cond (eqb d b) (signalled_once s) s)

-- ---- a timer's moments: what a frame means for the timer of a on b

-- whether it has its turn, whether the frame ends it, and whether a has a timer on b afterwards
pub record Moment : Type 0 where
  pub turn : Bool
  pub ended : Bool
  pub there : Bool

-- the turns of this very timer: counted as long as it is there. One that is started later is another
unfoldable pub turns : List Moment → ℕ
turns [] = 0
turns (m ∷ ms) = cond m.turn 1 0 + cond m.there (turns ms) 0

-- no frame ends it as long as it is there
unfoldable pub spared : List Moment → Bool
spared [] = true
spared (m ∷ ms) = not m.ended && cond m.there (spared ms) true

-- the turns that n tocks ask for: one for each whole period; of a one-shot one, once its tocks have passed
unfoldable pub turns_in : TockValue → ℕ → ℕ
turns_in none n = 0
turns_in (one_shot p) n = cond (leb p n) 1 0
turns_in (cyclic p) n = n / p

-- ---- in the ledger

-- the timers that a frame removes as due and signals for: if a tock passes, those that are due when N has grown by one
unfoldable pub removed : Config → Ledger → List ℕ → List Timer
removed c l f = cond (passes_tock c l.ticks (refusal c l f) f) (due_now (set_clock (suc l.N) 0 l)) []

-- the timer of a on b has its turn: it is among them
unfoldable pub has_turn : Config → Ledger → List ℕ → (a b : ℕ) → Bool
has_turn c l f a b = any (is_of a b) (removed c l f)

unfoldable pub moments : Config → (a b : ℕ) → Ledger → List (List ℕ) → List Moment
moments c a b l [] = []
moments c a b l (f ∷ fs) =
    let m = (step c f l).ledger in
    record { turn = has_turn c l f a b; ended = ends c (running l) (refusal c l f) f a b; there = have_timer m a b } ∷ moments c a b m fs

-- the ticks among frames: those with code $10 and five bytes. None of them is refused, so N is this number divided by K, cut (tocks-are)
unfoldable pub is_tick : List ℕ → Bool
is_tick f = eqb (byte 0 f) 0x10 && eqb (length f) 5

unfoldable pub ticks_among : List (List ℕ) → ℕ
ticks_among [] = 0
ticks_among (f ∷ fs) = cond (is_tick f) 1 0 + ticks_among fs

-- ---- the statement

-- Take any list of frames from the fresh start, then a frame of bytes that starts a timer of a on b, then any list of frames, accepted or refused, of which none ends this timer as long as it is there.
-- If n tocks pass after its start, it has the turns that n tocks ask for
abbrev pub MissesNoTurn : Type 0
MissesNoTurn =
    (c : Config) (before : List (List ℕ)) (f : List ℕ) (after : List (List ℕ)) (a b : ℕ) (v : TockValue)
    → let l = (run c before).0 in
    let its = moments c a b (step c f l).ledger after in
    let n = (run c (before ++ (f ∷ after))).0.N - l.N in
    Bytes f → Starts c (running l) (refusal c l f) f a b v → spared its ≡ true → turns its ≡ turns_in v n
