-- One item of the memory is new: what the ledger is that the memory then shows. Every law takes the new regions and what they say.
use Rattle.std.specs.Prelude.{Bool, true, ◌≡◌, get_or}
use Rattle.std.proofs.Math.Path.{sym, ap, subst}
use Rattle.std.proofs.Common.{◌∙◌}
use mathlib.Core.List.{List, [], map}
use Prim.Native.Nat.{ℕ, suc, ◌-◌, ◌<◌, ◌≤◌}
use native.Mathlib.Omega.{arith}
use Rattle.std.proofs.Math.ListN.{length}
use Rattle.rows.specs.Tab.{tab_at, tab_put, at_map, map_put, at_every}
use Rattle.messages.specs.Pending.{addressed, pending_in, mailbox_of, mailboxes_of}
use Rattle.ledger.specs.Lists.{at, put}
use Rattle.ledger.specs.Config.{Config}
use Rattle.ledger.specs.Ledger as ledger
use Rattle.ledger.specs.Ledger.{Ledger, Task, Semaphore, Message, Queue, Timer, task, semaphore_of, mailbox, queue, held, set_task, set_semaphores, set_semaphore, set_mailbox, set_queue, set_timers, set_clock}
use Rattle.ledger.specs.Session.{timer_left}
use Rattle.tables.specs.Layout.{OneOf, Regions}
use Rattle.tables.specs.Decode.{count_of, left_of}
use Rattle.tables.specs.Shows.{task_at, tasks_in, semaphore_count, semaphore_at, semaphores_in, held_at, queues_in, pending_of, mailboxes_in, timers_of, ticks_in, TidyTasks, TidySemaphores, TidyMessages, TidyRings, TidyTimers, Shown}

-- ---- regions of which some are new

unfoldable pub with_tasks : (blocks records waiting : List ℕ) → Regions → Regions
with_tasks b r e p = record { clock = p.clock; blocks = b; records = r; semaphores = p.semaphores; waiting = e; rings = p.rings; messages = p.messages; bodies = p.bodies }

unfoldable pub with_semaphores : List ℕ → Regions → Regions
with_semaphores v p = record { clock = p.clock; blocks = p.blocks; records = p.records; semaphores = v; waiting = p.waiting; rings = p.rings; messages = p.messages; bodies = p.bodies }

unfoldable pub with_queues : (rings bodies : List ℕ) → Regions → Regions
with_queues r b p = record { clock = p.clock; blocks = p.blocks; records = p.records; semaphores = p.semaphores; waiting = p.waiting; rings = r; messages = p.messages; bodies = b }

unfoldable pub with_messages : (clock messages : List ℕ) → Regions → Regions
with_messages k m p = record { clock = k; blocks = p.blocks; records = p.records; semaphores = p.semaphores; waiting = p.waiting; rings = p.rings; messages = m; bodies = p.bodies }

module _ {tidy : Bool} (c : Config) (L : Ledger) (p : Regions) (z w : List ℕ) (h : Shown tidy c L p z w) where
  -- ---- what is shown of one item

  pub task_is : (t : ℕ) → OneOf c.T t → task L t ≡ task_at c p z (t - 1)
  unfolding task tasks_in
  task_is t (a, b) = ap (λ (l : List Task). at l t ledger.null_task) h.tasks ∙ tab_at c.T t (task_at c p z) ledger.null_task a b

  pub semaphore_is : (b : ℕ) → OneOf (semaphore_count c) b → semaphore_of L b ≡ semaphore_at c p (b - 1)
  unfolding semaphore_of semaphores_in
  semaphore_is b (x, y) = ap (λ (l : List Semaphore). at l b ledger.PENDING) h.semaphores ∙ tab_at (semaphore_count c) b (semaphore_at c p) ledger.PENDING x y

  -- ---- tasks

  pub task_shown : (b r e z' : List ℕ) (t : ℕ) (k : Task) → OneOf c.T t → k ≡ task_at c (with_tasks b r e p) z' (t - 1)
      → ((j : ℕ) → j < c.T → (j ≡ t - 1 → ⊥) → task_at c p z j ≡ task_at c (with_tasks b r e p) z' j) → (tidy ≡ true → TidyTasks c (with_tasks b r e p) z') → Shown tidy c (set_task t k L) (with_tasks b r e p) z' w
  unfolding set_task tasks_in semaphores_in semaphore_at queues_in held_at pending_of mailboxes_in ticks_in queue timer_left with_tasks
  task_shown b r e z' t k (x, y) new other neat =
      record {
        ticks = h.ticks;
        tasks = ap (λ (l : List Task). put l t k) h.tasks ∙ tab_put c.T t (task_at c p z) (task_at c (with_tasks b r e p) z') k x other (λ q. new);
        semaphores = h.semaphores;
        mailboxes = h.mailboxes;
        queues = h.queues;
        taken = h.taken;
        timers = h.timers;
        tidily = λ q. let o = h.tidily q in record { ticks = o.ticks; messages = o.messages; tasks = neat q; semaphores = o.semaphores; rings = o.rings; timers = o.timers };
      }

  -- ---- semaphores

  pub semaphores_shown : (v : List ℕ) (x : List Semaphore) → x ≡ semaphores_in c (with_semaphores v p) → (tidy ≡ true → TidySemaphores c (with_semaphores v p)) → Shown tidy c (set_semaphores x L) (with_semaphores v p) z w
  unfolding set_semaphores tasks_in task_at queues_in held_at pending_of mailboxes_in ticks_in queue timer_left with_semaphores
  semaphores_shown v x new neat =
      record {
        ticks = h.ticks;
        tasks = h.tasks;
        semaphores = new;
        mailboxes = h.mailboxes;
        queues = h.queues;
        taken = h.taken;
        timers = h.timers;
        tidily = λ q. let o = h.tidily q in record { ticks = o.ticks; messages = o.messages; tasks = o.tasks; semaphores = neat q; rings = o.rings; timers = o.timers };
      }

  pub semaphore_shown : (v : List ℕ) (b : ℕ) (x : Semaphore) → 1 ≤ b → x ≡ semaphore_at c (with_semaphores v p) (b - 1)
      → ((j : ℕ) → j < semaphore_count c → (j ≡ b - 1 → ⊥) → semaphore_at c p j ≡ semaphore_at c (with_semaphores v p) j) → (tidy ≡ true → TidySemaphores c (with_semaphores v p)) → Shown tidy c (set_semaphore b x L) (with_semaphores v p) z w
  unfolding set_semaphore semaphores_in
  semaphore_shown v b x y new other neat =
      semaphores_shown v (put L.semaphores b x)
      (ap (λ (l : List Semaphore). put l b x) h.semaphores ∙ tab_put (semaphore_count c) b (semaphore_at c p) (semaphore_at c (with_semaphores v p)) x y other (λ q. new))
      neat

  -- ---- queues

  pub queue_is : (q : ℕ) → OneOf c.Q q → held (queue L q) ≡ held_at c p (q - 1)
  unfolding queue queues_in
  queue_is q (a, b) =
      sym (at_map held L.queues q ledger.empty_queue) ∙ ap (λ (l : List (List (List ℕ))). at l q (held ledger.empty_queue)) h.queues
      ∙ tab_at c.Q q (held_at c p) (held ledger.empty_queue) a b

  pub queue_shown : (r b : List ℕ) (q : ℕ) (v : Queue) → 1 ≤ q → held v ≡ held_at c (with_queues r b p) (q - 1) → v.taken ≤ length v.put
      → ((j : ℕ) → j < c.Q → (j ≡ q - 1 → ⊥) → held_at c p j ≡ held_at c (with_queues r b p) j) → (tidy ≡ true → TidyRings c (set_queue q v L) (with_queues r b p)) → Shown tidy c (set_queue q v L) (with_queues r b p) z w
  unfolding set_queue tasks_in task_at semaphores_in semaphore_at queues_in pending_of mailboxes_in ticks_in queue timer_left with_queues
  queue_shown r b q v x new few other neat =
      record {
        ticks = h.ticks;
        tasks = h.tasks;
        semaphores = h.semaphores;
        mailboxes = h.mailboxes;
        queues = map_put held L.queues q v ∙ ap (λ (l : List (List (List ℕ))). put l q (held v)) h.queues ∙ tab_put c.Q q (held_at c p) (held_at c (with_queues r b p)) (held v) x other (λ e. new);
        taken = at_every (λ (k : Queue). k.taken ≤ length k.put) L.queues q v ledger.empty_queue few h.taken;
        timers = h.timers;
        tidily = λ q. let o = h.tidily q in record { ticks = o.ticks; messages = o.messages; tasks = o.tasks; semaphores = o.semaphores; rings = neat q; timers = o.timers };
      }

  -- ---- mailboxes. The ticks left are the same

  pub mailbox_is : (t : ℕ) → OneOf c.T t → mailbox L t ≡ mailbox_of t (pending_of c p)
  unfolding mailbox mailboxes_in mailboxes_of
  mailbox_is t (a, b) =
      let e : suc (t - 1) ≡ t = omega arith in
      ap (λ (l : List (List Message)). at l t []) h.mailboxes ∙ tab_at c.T t (λ i. mailbox_of (suc i) (pending_of c p)) [] a b ∙ ap (λ (i : ℕ). mailbox_of i (pending_of c p)) e

  pub mailbox_shown : (k m : List ℕ) (t : ℕ) (v : List Message) → get_or k 0 0 ≡ get_or p.clock 0 0 → 1 ≤ t → v ≡ mailbox_of t (pending_of c (with_messages k m p))
      → ((j : ℕ) → (j ≡ t → ⊥) → mailbox_of j (pending_of c p) ≡ mailbox_of j (pending_of c (with_messages k m p))) → (tidy ≡ true → TidyMessages c (with_messages k m p)) → Shown tidy c (set_mailbox t v L) (with_messages k m p) z w
  unfolding set_mailbox tasks_in task_at semaphores_in semaphore_at queues_in held_at mailboxes_in mailboxes_of ticks_in queue timer_left with_messages
  mailbox_shown k m t v same x new other neat =
      let f : ℕ → List Message = λ i. mailbox_of (suc i) (pending_of c p) in
      let g : ℕ → List Message = λ i. mailbox_of (suc i) (pending_of c (with_messages k m p)) in
      let e : suc (t - 1) ≡ t = omega arith in
      record {
        ticks = h.ticks ∙ ap (λ (n : ℕ). c.K - left_of c.K n) (sym same);
        tasks = h.tasks;
        semaphores = h.semaphores;
        mailboxes = ap (λ (l : List (List Message)). put l t v) h.mailboxes ∙ tab_put c.T t f g v x (λ j l ne. other (suc j) (λ q. ne (omega arith))) (λ l. new ∙ ap (λ (i : ℕ). mailbox_of i (pending_of c (with_messages k m p))) (sym e));
        queues = h.queues;
        taken = h.taken;
        timers = h.timers;
        tidily = λ q. let o = h.tidily q in record { ticks = subst (OneOf c.K) (sym same) o.ticks; messages = neat q; tasks = o.tasks; semaphores = o.semaphores; rings = o.rings; timers = o.timers };
      }

  -- ---- timers and the clock

  pub timers_shown : (w' : List ℕ) (v : List Timer) → map (timer_left L) v ≡ timers_of c w' → (tidy ≡ true → TidyTimers c w') → Shown tidy c (set_timers v L) p z w'
  unfolding set_timers queue timer_left
  timers_shown w' v new neat =
      record {
        ticks = h.ticks;
        tasks = h.tasks;
        semaphores = h.semaphores;
        mailboxes = h.mailboxes;
        queues = h.queues;
        taken = h.taken;
        timers = new;
        tidily = λ q. let o = h.tidily q in record { ticks = o.ticks; messages = o.messages; tasks = o.tasks; semaphores = o.semaphores; rings = o.rings; timers = neat q };
      }

  pub clock_shown : (k w' : List ℕ) (N ticks : ℕ) → get_or k 1 0 ≡ get_or p.clock 1 0 → ticks ≡ ticks_in c (with_messages k p.messages p)
      → map (timer_left (set_clock N ticks L)) L.timers ≡ timers_of c w' → (tidy ≡ true → OneOf c.K (get_or k 0 0)) → (tidy ≡ true → TidyTimers c w')
      → Shown tidy c (set_clock N ticks L) (with_messages k p.messages p) z w'
  unfolding set_clock tasks_in task_at semaphores_in semaphore_at queues_in held_at pending_of mailboxes_in queue timer_left with_messages
  clock_shown k w' N ticks same new left one neat =
      let e : pending_in c.T (count_of c.G (get_or p.clock 1 0)) p.messages ≡ pending_in c.T (count_of c.G (get_or k 1 0)) p.messages = ap (λ (n : ℕ). pending_in c.T (count_of c.G n) p.messages) (sym same) in
      record {
        ticks = new;
        tasks = h.tasks;
        semaphores = h.semaphores;
        mailboxes = h.mailboxes ∙ ap (mailboxes_of c.T) e;
        queues = h.queues;
        taken = h.taken;
        timers = left;
        tidily = λ q. let o = h.tidily q in record { ticks = one q; messages = subst (λ (n : ℕ). (n ≤ c.G) × (addressed c.T n p.messages ≡ true)) (sym same) o.messages; tasks = o.tasks; semaphores = o.semaphores; rings = o.rings; timers = neat q };
      }
