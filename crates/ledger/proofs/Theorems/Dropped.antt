-- Messages dropped one by one: to take the first message out, signal for it and then drop the rest comes to the same as to drop all, and to drop those of an empty mailbox changes nothing.
use Rattle.ledger.specs.Dropped.{drop_first}
use Prim.Native.Nat.{ℕ, suc}
use Rattle.std.proofs.Math.Path.{◌≡◌, refl, ap}
use Rattle.std.proofs.Common.{sym, ◌∙◌, arith}
use Rattle.std.specs.Prelude.{true, ltb, length}
use mathlib.Core.List.{List, [], ◌∷◌, map}
use Rattle.ledger.specs.Lists.{at, put}
use Rattle.ledger.specs.Ledger.{Semaphore, PENDING, DONE, WAITING, Message, Ledger, task, semaphore_of, mailbox, set_task, set_semaphores, set_semaphore, set_mailbox, set_blocks, set_event_wait}
use Rattle.ledger.specs.Services.{signalled, signal, signal_all, drop_messages}
use Rattle.ledger.proofs.Theorems.Signals.{signals_commute, signal_boxes}
use Rattle.ledger.proofs.Theorems.Items.{at_put_same, at_there, put_put, put_at}

-- ---- to set a mailbox before a signal is to set it after

module _ (t : ℕ) (v : List Message) where
  signalled_mailbox : (s : Semaphore) (b : ℕ) (l : Ledger) → (signalled s b (set_mailbox t v l)).ledger ≡ set_mailbox t v (signalled s b l).ledger
  unfolding signalled set_semaphore set_semaphores set_mailbox set_event_wait set_blocks set_task task
  signalled_mailbox PENDING b l = refl
  signalled_mailbox DONE b l = refl
  signalled_mailbox (WAITING w) b l = refl

  signal_mailbox : (b : ℕ) (l : Ledger) → (signal b (set_mailbox t v l)).ledger ≡ set_mailbox t v (signal b l).ledger
  unfolding signal semaphore_of set_mailbox
  signal_mailbox b l = signalled_mailbox (semaphore_of l b) b l

-- ---- one message

module _ (t : ℕ) (l : Ledger) where
  first_gone : (m : Message) (ms : List Message) → mailbox l t ≡ m ∷ ms → mailbox (drop_first t (m ∷ ms) l) t ≡ ms
  unfolding drop_first mailbox set_mailbox
  first_gone m ms e =
      ap (λ (v : List (List Message)). at v t []) (signal_boxes m.semaphore (set_mailbox t ms l))
      ∙ at_put_same l.mailboxes t ms [] (at_there l.mailboxes t [] (λ n. let z : ◌≡◌ {A = ℕ} 0 1 = cc in omega arith))

  twice : (v : List Message) (k : Ledger) → set_mailbox t [] (set_mailbox t v k) ≡ set_mailbox t [] k
  unfolding set_mailbox
  twice v k = ap (λ (b : List (List Message)). record { N = k.N; ticks = k.ticks; tasks = k.tasks; semaphores = k.semaphores; mailboxes = b; queues = k.queues; timers = k.timers }) (put_put k.mailboxes t v [])

  turn : (box : List Message) → mailbox l t ≡ box → drop_messages t (drop_first t box l) ≡ drop_messages t l
  unfolding drop_messages drop_first signal_all
  turn [] e = refl
  turn (m ∷ ms) e =
      let bs : List ℕ = map (λ m. m.semaphore) ms in
      ap (λ (v : List Message). set_mailbox t [] (signal_all (map (λ m. m.semaphore) v) (drop_first t (m ∷ ms) l))) (first_gone m ms e)
      ∙ ap (λ (k : Ledger). set_mailbox t [] (signal_all bs k)) (signal_mailbox t ms m.semaphore l)
      ∙ ap (set_mailbox t []) (signals_commute (set_mailbox t ms) (signal_mailbox t ms) bs (signal m.semaphore l).ledger)
      ∙ twice ms (signal_all bs (signal m.semaphore l).ledger)
      ∙ ap (λ (v : List Message). set_mailbox t [] (signal_all (map (λ m. m.semaphore) v) l)) (sym e)

  -- the turn: to drop the rest then comes to the same as to drop all
  pub drop_turn : drop_messages t (drop_first t (mailbox l t) l) ≡ drop_messages t l
  drop_turn = turn (mailbox l t) refl

  -- the end
  pub drop_none : mailbox l t ≡ [] → drop_messages t l ≡ l
  unfolding drop_messages signal_all set_mailbox mailbox
  drop_none e =
      ap (λ (v : List Message). set_mailbox t [] (signal_all (map (λ m. m.semaphore) v) l)) e
      ∙ ap (λ (b : List (List Message)). record { N = l.N; ticks = l.ticks; tasks = l.tasks; semaphores = l.semaphores; mailboxes = b; queues = l.queues; timers = l.timers }) (ap (put l.mailboxes t) (sym e) ∙ put_at l.mailboxes t [])

  -- one message fewer, where there was one
  pub drop_fewer : ltb 0 (length (mailbox l t)) ≡ true → suc (length (mailbox (drop_first t (mailbox l t) l) t)) ≡ length (mailbox l t)
  drop_fewer h = go (mailbox l t) refl h
    where
      go : (box : List Message) → mailbox l t ≡ box → ltb 0 (length box) ≡ true → suc (length (mailbox (drop_first t box l) t)) ≡ length box
      go [] e q = let z : ◌≡◌ {A = ℕ} 0 1 = cc in absurd (omega arith)
      go (m ∷ ms) e q = ap (λ v. suc (length v)) (first_gone m ms e)
