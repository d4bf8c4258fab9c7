-- The ledger's rules: they hold of the fresh ledger, every step keeps them, and so they hold after every list of frames.
use Rattle.std.specs.Prelude.{ℕ, ◌<◌, ◌≡◌, List}
use Rattle.std.proofs.Common.{◌∙◌, arith}
use Rattle.ledger.specs.Lists.{byte, word, long_word, Bytes}
use Rattle.ledger.specs.Config.{Config, config_in, config_refusal}
use Rattle.ledger.specs.Ledger.{Ledger, fresh}
use Rattle.ledger.specs.Time.{tock_value, long_tock_value}
use Rattle.ledger.specs.Refusals.{Follows, x_alone, x_and_entry, long_x, fields, value_x, code_at}
use Rattle.ledger.specs.Session.{step, run_from, run}
use Rattle.ledger.proofs.Theorems.Parts.{Every, nil, cons}
use Rattle.ledger.proofs.Theorems.Sizes.{sizes, sizes_of, of_step, of_fresh}
use Rattle.ledger.proofs.Theorems.Configured.{Configured, configured}
use Rattle.ledger.proofs.Theorems.TockValues.{Tocks, some_tocks, more_tocks}
use Rattle.ledger.proofs.Theorems.Changes.{Change}
use Rattle.ledger.proofs.Theorems.Steps.{Value}
use Rattle.ledger.proofs.Theorems.Named.{Named}
use Rattle.ledger.proofs.Theorems.Kept.{fresh_named, step_kept}
pub mod Ticks
pub mod Timers
pub mod Queues
pub mod Messages
pub mod Waits
pub mod Slots
use Ticks.{ticks_kept}
use Timers.{most_tocks, SoundTimers, timers_kept, timers_fresh}
use Queues.{SoundQueues, queues_kept, queues_fresh}
use Messages.{SoundMessages, messages_kept, messages_fresh}
use Waits.{SoundWaits, waits_kept, waits_fresh}
use Slots.{SoundSlots, slots_kept, slots_fresh}

pub record Sound (c : Config) (l : Ledger) : Type 0 where
  -- T tasks and mailboxes, S + T + 2Q semaphores, Q queues
  pub sized : sizes l ≡ sizes_of c
  -- open requests, timers and messages name what exists, and an enqueue's bytes have its queue's width
  pub named : Named c l
  -- fewer than K ticks in the present tock
  pub ticks : l.ticks < c.K
  -- at most R timers, in order, each due after N and within 2,147,483,648 tocks
  pub timers : SoundTimers c l.N l.timers
  -- entries have the queue's width, at most depth are held, and handed out followed by held is put
  pub queues : SoundQueues c l
  -- no message twice, each mailbox in order
  pub messages : SoundMessages l.mailboxes
  -- WAITING only for a task with event wait, one semaphore a task; queue semaphores never DONE
  pub waits : SoundWaits c l.tasks l.semaphores
  -- slots of 16 bytes, an entry outcome is the slot's front
  pub slots : SoundSlots c l.tasks

-- its tock value, of two bytes or of four
timed : (u : Follows) (f : List ℕ) → Bytes f → Value (Tocks most_tocks) u (value_x u f)
unfolding value_x tock_value long_tock_value
timed x_alone f h = λ z. more_tocks 0x8000 most_tocks _ (omega arith) (some_tocks 0x8000 (word 3 f) (omega (arith, h 3, h 4)) z)
timed x_and_entry f h = λ z. more_tocks 0x8000 most_tocks _ (omega arith) (some_tocks 0x8000 (word 3 f) (omega (arith, h 3, h 4)) z)
timed long_x f h = λ z. some_tocks most_tocks (long_word 3 f) (omega (arith, h 3, h 4, h 5, h 6)) z

-- the rule about slots relies on that about queues
abbrev Copied : Config → Ledger → Type 0
Copied c l = SoundWaits c l.tasks l.semaphores × SoundQueues c l × SoundSlots c l.tasks

copied_kept : {c : Config} → Configured c → (l l' : Ledger) → Change c (Tocks most_tocks) l l' → Copied c l → Copied c l'
copied_kept g l l' s h = (waits_kept l l' s h.0, queues_kept l l' s h.1, slots_kept g l l' s h.0.tasks h.1 h.2)

pub sound_fresh : (c : Config) → Configured c → Sound c (fresh c)
unfolding fresh
sound_fresh c g =
    let n = fresh_named c g.states in
    record {
      sized = of_fresh c g.states;
      named = n;
      ticks = g.ticks.from;
      timers = timers_fresh c;
      queues = queues_fresh c;
      messages = messages_fresh c;
      waits = waits_fresh c n.tasks;
      slots = slots_fresh c g.states;
    }

pub sound_step : (c : Config) → Configured c → (f : List ℕ) → Bytes f → (l : Ledger) → Sound c l → Sound c (step c f l).ledger
sound_step c g f b l s =
    let x = timed (fields (code_at (byte 0 f))).follows f b in
    let t = step_kept c (Tocks most_tocks) (Copied c) (copied_kept g) f l x (s.named, (s.waits, s.queues, s.slots)) in
    record {
      sized = of_step c f l ∙ s.sized;
      named = t.0;
      ticks = (step_kept c (Tocks most_tocks) (λ l. l.ticks < c.K) (ticks_kept g.ticks.from) f l x (s.named, s.ticks)).1;
      timers = (step_kept c (Tocks most_tocks) (λ l. SoundTimers c l.N l.timers) timers_kept f l x (s.named, s.timers)).1;
      queues = t.1.1;
      messages = (step_kept c (Tocks most_tocks) (λ l. SoundMessages l.mailboxes) messages_kept f l x (s.named, s.messages)).1;
      waits = t.1.0;
      slots = t.1.2;
    }

sound_from : (c : Config) → Configured c → (l : Ledger) {fs : List (List ℕ)} → Every Bytes fs → Sound c l → Sound c (run_from c l fs).0
unfolding run_from
sound_from c g l nil s = s
sound_from c g l (cons {x = f} b bs) s = sound_from c g (step c f l).ledger bs (sound_step c g f b l s)

pub sound : (g : List ℕ) → config_refusal g ≡ 0 → {fs : List (List ℕ)} → Every Bytes fs → Sound (config_in g) (run (config_in g) fs).0
unfolding run
sound g h bs = let k = configured g h in sound_from (config_in g) k (fresh (config_in g)) bs (sound_fresh (config_in g) k)
