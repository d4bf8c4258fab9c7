-- Settling, the answer, the step for each frame, and the run over a list of frames.
use Rattle.std.specs.Prelude.{ℕ, zero, suc, ◌-◌, ◌*◌, ◌≡◌, Bool, true, false, cond, List, [], ◌∷◌, map, eqb}
use Rattle.ledger.specs.Config.{Config, config_in, config_refusal}
use Rattle.ledger.specs.Ledger.{Semaphore, Task, Message, Timer, held, Outcome, plain, begin, message, entry, refused, semaphore, woke, Request, none, receive, dequeue, enqueue, Ledger, task, running, set_outcome, set_request, fresh}
use Rattle.ledger.specs.Services.{effect, issue}
use Rattle.ledger.specs.Refusals.{fields, call, refusal, on_not_empty, on_not_full, meets21}

-- ---- settling

-- the running task's open request
unfoldable pub open_request : Ledger → Request
open_request l = (task l (running l)).request

unfoldable pub is_open : Request → Bool
is_open none = false
is_open (receive a) = true
is_open (dequeue q) = true
is_open (enqueue q e) = true

unfoldable pub refused21 : Config → Request → Ledger → Bool
refused21 c none l = false
refused21 c (receive a) l = false
refused21 c (dequeue q) l = meets21 c l on_not_empty q 0
refused21 c (enqueue q e) l = meets21 c l on_not_full q 0

-- it completes, waits again, or meets 21, which ends it with outcome refused and changes nothing else
unfoldable pub issue_again : Config → ℕ → Request → Ledger → Ledger
issue_again c t r l = cond (refused21 c r l) (set_outcome t (refused 21) l) (issue c t r l)

-- the running task's request is closed and issued again
unfoldable pub reissue : Config → Ledger → Ledger
reissue c l = issue_again c (running l) (open_request l) (set_request (running l) none l)

-- settling: while the running task has an open request, that is issued again; each such issue counts one reissue.
-- n issues lead from the first ledger to the last, in which the running task has no open request
pub data Settles (c : Config) : Ledger → ℕ → Ledger → Type 0 where
  stops : {l : Ledger} → is_open (open_request l) ≡ false → Settles c l 0 l
  goes_on : {l l' : Ledger} {n : ℕ} → is_open (open_request l) ≡ true → Settles c (reissue c l) n l' → Settles c l (suc n) l'

pub record Settled : Type 0 where
  pub ledger : Ledger
  pub reissues : ℕ

-- the same, computed. The first argument bounds the count, so that the recursion ends: 2T cuts nothing off (Theorems/Settling)
unfoldable pub settle : ℕ → Config → Ledger → Settled
settle zero c l = record { ledger = l; reissues = 0 }
settle (suc k) c l = elim (is_open (open_request l)) [
  | false ↦ record { ledger = l; reissues = 0 }
  | true ↦ let s = settle k c (reissue c l) in record { ledger = s.ledger; reissues = suc s.reissues }
]

-- ---- the answer line

-- the kind of an outcome, and its value
unfoldable pub shown : Outcome → List ℕ
shown plain = 0x00 ∷ []
shown begin = 0x01 ∷ []
shown (message m s b) = 0x02 ∷ m ∷ s ∷ b ∷ []
shown (entry e) = 0x03 ∷ e
shown (refused n) = 0x04 ∷ n ∷ []
shown (semaphore b) = 0x05 ∷ b ∷ []
shown (woke t) = 0x06 ∷ t ∷ []

-- refusal, running task, reissues of this frame, outcome of the running task
unfoldable pub answer : (number reissues : ℕ) → Ledger → List ℕ
answer n r l = n ∷ running l ∷ r ∷ shown (task l (running l)).outcome

-- ---- a frame

-- accepted services first set the caller's outcome to plain
unfoldable pub accept : Config → List ℕ → Ledger → Ledger
accept c f l =
    let k = call c (running l) f in
    effect k.code c k.self k.a k.b k.x k.bytes (cond (fields k.code).service (set_outcome k.self plain l) l)

pub record Stepped : Type 0 where
  pub ledger : Ledger
  pub answered : List ℕ

-- a refused frame leaves the ledger as it was, with 0 reissues; settling follows every accepted one
unfoldable pub step : Config → List ℕ → Ledger → Stepped
step c f l =
    let n = refusal c l f in
    let s = settle (2 * c.T) c (accept c f l) in
    cond (eqb n 0)
    (record { ledger = s.ledger; answered = answer 0 s.reissues s.ledger })
    (record { ledger = l; answered = answer n 0 l })

-- ---- a list of frames

unfoldable pub run_from : Config → Ledger → List (List ℕ) → Ledger × List (List ℕ)
run_from c l [] = (l, [])
run_from c l (f ∷ fs) =
    let s = step c f l in
    let r = run_from c s.ledger fs in
    (r.0, s.answered ∷ r.1)

-- the ledger after the frames, and their answers, that to the configuration first
unfoldable pub run : Config → List (List ℕ) → Ledger × List (List ℕ)
run c fs = let r = run_from c (fresh c) fs in (r.0, answer 0 0 (fresh c) ∷ r.1)

-- a configuration that is refused is answered with its number and 000000, and the session ends
unfoldable pub refused_configuration : ℕ → List ℕ
refused_configuration n = n ∷ 0 ∷ 0 ∷ 0 ∷ []

unfoldable pub session : (configuration : List ℕ) → List (List ℕ) → List (List ℕ)
session g fs = let n = config_refusal g in cond (eqb n 0) (run (config_in g) fs).1 (refused_configuration n ∷ [])

-- ---- what demand 3 compares after the list: of a queue the entries that it holds, of a timer the tocks left in place of the due tock, N not at all

pub record TimerLeft : Type 0 where
  pub task : ℕ
  pub semaphore : ℕ
  pub left : ℕ
  pub period : ℕ

pub record Items : Type 0 where
  pub ticks : ℕ
  pub tasks : List Task
  pub semaphores : List Semaphore
  pub mailboxes : List (List Message)
  pub queues : List (List (List ℕ))
  pub timers : List TimerLeft

unfoldable pub timer_left : Ledger → Timer → TimerLeft
timer_left l t = record { task = t.task; semaphore = t.semaphore; left = t.due - l.N; period = t.period }

unfoldable pub items : Ledger → Items
items l = record {
  ticks = l.ticks;
  tasks = l.tasks;
  semaphores = l.semaphores;
  mailboxes = l.mailboxes;
  queues = map held l.queues;
  timers = map (timer_left l) l.timers;
}
