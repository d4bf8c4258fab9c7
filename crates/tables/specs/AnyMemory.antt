-- Every memory of the right sizes shows some ledger: N is 0, its queues took nothing yet and put what
-- they hold, and its timers are due at the tocks left.
use Rattle.std.specs.Prelude.{◌≡◌, refl, List, [], ◌∷◌, map, ℕ, zero, suc, ◌+◌, ◌-◌, ◌*◌, ◌≤◌, length, get_or}
use Rattle.std.proofs.Common.{ap, arith}
use Rattle.tables.specs.declared.shape.Shape.{Shape}
use Rattle.tables.specs.Layout.{regions}
use Rattle.tables.specs.Shows.{tasks_in, semaphores_in, mailboxes_in, queues_in, timers_of, ticks_in, Of, Shows, no_tidy}
use Rattle.ledger.specs.Lists.{at}
use Rattle.ledger.specs.Config.{Config}
use Rattle.ledger.specs.Ledger.{Ledger, Queue, Timer, empty_queue, queue, held}
use Rattle.ledger.specs.Session.{TimerLeft, timer_left}

-- a queue that took nothing yet
abbrev holder : List (List ℕ) → Queue
holder l = record { put = l; taken = 0; handed_out = [] }

-- a timer in a ledger whose N is 0
abbrev due_after : TimerLeft → Timer
due_after t = record { task = t.task; semaphore = t.semaphore; due = t.left; period = t.period }

unfoldable pub some : Config → Shape → (d z w : List ℕ) → Ledger
some c s d z w =
    let p = regions s d in
    record {
      N = 0;
      ticks = ticks_in c p;
      tasks = tasks_in c p z;
      semaphores = semaphores_in c p;
      mailboxes = mailboxes_in c p;
      queues = map holder (queues_in c p);
      timers = map due_after (timers_of c w);
    }

holders : (l : List (List (List ℕ))) → map held (map holder l) ≡ l
unfolding held
holders [] = refl
holders (x ∷ l) = ap (λ (r : List (List (List ℕ))). x ∷ r) (holders l)

took_nothing : (l : List (List (List ℕ))) (n : ℕ) → (get_or (map holder l) n empty_queue).taken ≡ 0
took_nothing [] n = refl
took_nothing (x ∷ l) zero = refl
took_nothing (x ∷ l) (suc n) = took_nothing l n

dues : (L : Ledger) → L.N ≡ 0 → (l : List TimerLeft) → map (timer_left L) (map due_after l) ≡ l
unfolding timer_left
dues L e [] = refl
dues L e (t ∷ l) =
    let n : t.left - L.N ≡ t.left = omega arith in
    λ i. record { task = t.task; semaphore = t.semaphore; left = n i; period = t.period } ∷ dues L e l i

pub shows_some : (c : Config) (s : Shape) (d z w : List ℕ) → Of c s → s.end ≤ length d → 16 * s.tasks ≤ length z → 11 + 10 * s.timers ≤ length w
    → Shows c s (some c s d z w) d z w
unfolding some queue at
shows_some c s d z w o r k h =
    let q = queues_in c (regions s d) in
    let nothing : (n : ℕ) → (queue (some c s d z w) n).taken ≡ 0 = λ n. elim n as (λ m. (queue (some c s d z w) m).taken ≡ 0) [ zero ↦ refl | suc n ↦ took_nothing q n ] in
    record {
      of = o;
      room = r;
      slots = k;
      counted = h;
      shown = record {
        ticks = refl;
        tasks = refl;
        semaphores = refl;
        mailboxes = refl;
        queues = holders q;
        taken = λ n. omega (arith, nothing n);
        timers = dues (some c s d z w) refl (timers_of c w);
        tidily = λ e. no_tidy e;
      };
    }
