-- A dropped message frees its sender: nobody is left waiting on the semaphore of a message in the mailbox of a terminated task.
-- Each is signalled, after the terminated task's own wait was withdrawn; and settling lets only a task with an open request wait again, and on a queue's semaphore alone.
use Rattle.std.specs.Prelude.{ℕ, ◌≡◌, Bool}
use Rattle.std.proofs.Math.Path.{refl, ap, subst}
use Rattle.std.proofs.Common.{sym, ◌∙◌, ne_eqb, eqb-true}
use Rattle.std.proofs.Math.Bool.{true, false}
use mathlib.Core.List.{List, [], map}
use Rattle.std.proofs.lemmas.Bool.{eqb-false}
use Rattle.std.proofs.Math.Dec.{eqb}
use Rattle.ledger.specs.Lists.{at, put, byte}
use Rattle.ledger.specs.Config.{Config, config_in, config_refusal}
use Rattle.ledger.specs.Ledger.{PENDING, WAITING, plain, Task, Ledger, null_task, task, semaphore_of, mailbox, running, set_outcome}
use Rattle.ledger.specs.Services.{signal_all, not_waiting, drop_messages, terminate, TERMINATE, effect}
use Rattle.ledger.specs.Refusals.{self_or_task, fields, meant_task, code_at, call, refusal}
use Rattle.ledger.specs.Session.{Settles, is_open, accept, step, run}
use Rattle.ledger.proofs.Theorems.Items.{at_put_other, at_put_part, at_map, put_here}
use Rattle.ledger.proofs.Theorems.Parts.{Every, every_to, every_both, every_unmap}
use Rattle.ledger.proofs.Theorems.Changes.{updates}
use Rattle.ledger.proofs.Theorems.Configured.{configured}
use Rattle.ledger.proofs.Theorems.Sizes.{step_is_the_loop}
use Rattle.ledger.proofs.Theorems.Named.{Named}
use Rattle.ledger.proofs.Theorems.Terminated.{withdrawn, ended}
use Rattle.ledger.proofs.Theorems.Kept.{accept_named}
use Rattle.ledger.proofs.Theorems.HandedOver.{ready_run}
use Rattle.ledger.proofs.Theorems.Told.{waits, accept_as}
pub mod Tasks
pub mod Semaphores
pub mod Mailboxes
use Tasks.{of_signal_all, rests_on, all_woken}
use Semaphores.{Unwaited, all_unwaited, unwaited_on}
use Mailboxes.{empty_on}

-- an accepted terminate f of task a, in the ledger l
pub record Frees (c : Config) (f : List ℕ) (l : Ledger) (a : ℕ) : Type 0 where
  -- after the frame a's mailbox is empty, and no semaphore of a message that lay there is WAITING
  pub dropped : mailbox (step c f l).ledger a ≡ []
  pub unwaited : Every (λ m. Unwaited (step c f l).ledger m.semaphore) (mailbox l a)
  -- a task that such a semaphore was WAITING for has no event wait any more, before settling; nor has it after the frame, unless it had an open request, which settling may have issued again
  pub freed : Every (λ m. (t : ℕ) → semaphore_of l m.semaphore ≡ WAITING t → waits (accept c f l) t ≡ false) (mailbox l a)
  pub stays : Every (λ m. (t : ℕ) → semaphore_of l m.semaphore ≡ WAITING t → is_open (task l t).request ≡ false → waits (step c f l).ledger t ≡ false) (mailbox l a)

-- ---- terminate

module _ (a : ℕ) (l : Ledger) where
  abbrev semaphores : List ℕ
  semaphores = map (λ m. m.semaphore) (mailbox l a)

  -- of the tasks, a has the record of an ended one
  ends_with : (t : ℕ) (P : Task → Type 0) → P (ended (task l a)) → P null_task → ((t ≡ a → ⊥) → P (task (signal_all semaphores (withdrawn a l)) t)) → P (task (terminate a l) t)
  unfolding updates terminate drop_messages
  ends_with t P p q h = go (eqb t a) refl
    where
      go : (b : Bool) → eqb t a ≡ b → P (task (terminate a l) t)
      go true e = subst (λ n. P (at (put (signal_all semaphores (withdrawn a l)).tasks a (ended (task l a))) n null_task)) (sym (eqb-true t a e)) (put_here P (signal_all semaphores (withdrawn a l)).tasks a (ended (task l a)) null_task p q)
      go false e = subst P (sym (at_put_other (signal_all semaphores (withdrawn a l)).tasks a t (ended (task l a)) null_task (eqb-false t a e))) (h (eqb-false t a e))

  -- another task's wait is not withdrawn
  still : (b t : ℕ) → (t ≡ a → ⊥) → semaphore_of l b ≡ WAITING t → semaphore_of (withdrawn a l) b ≡ WAITING t
  unfolding updates not_waiting
  still b t n e = at_map (not_waiting a) l.semaphores b PENDING refl ∙ ap (not_waiting a) e ∙ rw (ne_eqb t a n)

  frees : Every (λ m. (t : ℕ) → semaphore_of l m.semaphore ≡ WAITING t → waits (terminate a l) t ≡ false) (mailbox l a)
  frees =
      every_to (λ m h t e. ends_with t (λ k. k.blocks.event_wait ≡ false) refl refl (λ n. h t (still m.semaphore t n e)))
      (every_unmap (λ m. m.semaphore) (mailbox l a) (all_woken semaphores (withdrawn a l)))

  closes : (t : ℕ) → is_open (task l t).request ≡ false → is_open (task (terminate a l) t).request ≡ false
  unfolding updates is_open
  closes t h = ends_with t (λ k. is_open k.request ≡ false) refl refl (λ n. of_signal_all t (λ k. is_open k.request ≡ false) (λ k p. p) semaphores (withdrawn a l) h)

  -- the semaphores and the mailbox are as the signals left them
  gone : Every (λ m. Unwaited (terminate a l) m.semaphore) (mailbox l a)
  unfolding updates terminate drop_messages
  gone = every_unmap (λ m. m.semaphore) (mailbox l a) (all_unwaited semaphores (withdrawn a l))

  emptied : mailbox (terminate a l) a ≡ []
  unfolding updates terminate drop_messages
  emptied = put_here (λ v. v ≡ []) (signal_all semaphores (withdrawn a l)).mailboxes a [] [] refl refl

-- ---- the frame

closed_still : (n t : ℕ) (l : Ledger) → is_open (task l t).request ≡ false → is_open (task (set_outcome n plain l) t).request ≡ false
unfolding updates
closed_still n t l o = at_put_part (λ (k : Task). is_open k.request) l.tasks n t _ null_task refl ∙ o

module _ (c : Config) (f : List ℕ) (l : Ledger) (named : Named c l) (z : refusal c l f ≡ 0) (e : code_at (byte 0 f) ≡ TERMINATE) where
  abbrev begun : Ledger
  begun = set_outcome (running l) plain l

  abbrev ending : ℕ
  ending = meant_task self_or_task (running l) (byte 1 f)

  is : accept c f l ≡ terminate ending begun
  unfolding accept call effect fields
  is = ap (accept_as c f l) e

  -- what settling makes of the ledger that the signals left
  settled : Settles c (accept c f l) (byte 2 (step c f l).answered) (step c f l).ledger
  settled = step_is_the_loop c f l named.tasks z

  free : Every (λ m. (t : ℕ) → semaphore_of l m.semaphore ≡ WAITING t → waits (accept c f l) t ≡ false) (mailbox l ending)
  unfolding updates
  free = every_to (λ m h t w. ap (λ k. waits k t) is ∙ h t w) (frees ending begun)

  rest : (t : ℕ) → waits (accept c f l) t ≡ false → is_open (task l t).request ≡ false → waits (step c f l).ledger t ≡ false
  rest t w o =
      let closed : is_open (task (accept c f l) t).request ≡ false = ap (λ k. is_open (task k t).request) is ∙ closes ending begun t (closed_still (running l) t l o) in
      (rests_on settled t (record { closed = closed; unblocked = w })).unblocked

  nobody_left : Every (λ m. Unwaited (step c f l).ledger m.semaphore) (mailbox l ending)
  unfolding updates
  nobody_left =
      every_both (λ m s g. unwaited_on c m.semaphore s.semaphore.upto settled (accept_named c f l named z) (subst (λ k. Unwaited k m.semaphore) (sym is) g))
      (named.messages ending) (gone ending begun)

  terminate_frees : Frees c f l (call c (running l) f).a
  unfolding call fields
  terminate_frees =
      subst (Frees c f l) (sym (ap (λ k. meant_task (fields k).A (running l) (byte 1 f)) e)) (record {
        dropped = empty_on c ending settled (ap (λ k. mailbox k ending) is ∙ emptied ending begun);
        unwaited = nobody_left;
        freed = free;
        stays = every_to (λ m h t w o. rest t (h t w) o) free;
      })

-- behind every list of frames
pub dropped_frees : (g : List ℕ) → config_refusal g ≡ 0 → (fs : List (List ℕ)) (f : List ℕ)
    → let c = config_in g in let l = (run c fs).0 in refusal c l f ≡ 0 → code_at (byte 0 f) ≡ TERMINATE → Frees c f l (call c (running l) f).a
dropped_frees g h fs f z e = let c = config_in g in terminate_frees c f (run c fs).0 (ready_run c (configured g h).states fs).named z e
