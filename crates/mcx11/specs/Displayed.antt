-- What a memory that shows a ledger gives: its bytes are the ledger's items; and with full sizes, the rule of the configuration and no message twice it is lent well.
use Rattle.std.specs.Prelude.{ℕ, ◌*◌, ◌≤◌, ◌≡◌, ◌⊎◌, Bool, true, false, cond, List, eqb}
use Rattle.std.proofs.Common.{ap, ◌∙◌, inl, inr, arith}
use Rattle.std.proofs.Math.ListN.{length}
use Rattle.ledger.specs.Config.{Config, Limits}
use Rattle.ledger.specs.Ledger.{Ledger, running}
use Rattle.ledger.specs.Refusals.{refusal}
use Rattle.ledger.specs.Session.{answer, settle, accept, Stepped, step, Items, items}
use Rattle.ledger.specs.Good.{TaskRuns}
use Rattle.ledger.proofs.Theorems.Lowest.{NullRuns, lowest_runs}
use Rattle.rows.specs.Tab.{tab_length}
use Rattle.tables.specs.Layout.{regions}
use Rattle.tables.specs.Shows.{ticks_in, tasks_in, semaphores_in, mailboxes_in, queues_in, timers_of}
use Rattle.ledger.proofs.Theorems.Once.{Once}
use Rattle.mailboxes.specs.Room.{sound_in}
use Rattle.mailboxes.specs.Whole.{sound_shown}
use Rattle.configuration.specs.Block.{frame_rule}
use Rattle.parts.specs.Parts.{kept_frame}
use Rattle.configuration.specs.Layout.{shape_of}
use Rattle.answer.specs.Read as read
use Rattle.mcx11.specs.Contract.{Memory, sizes_of, full_size, is_marked, config_of, tables_part, slots_part, timers_part, messages_sound, lent_well, Displays}

-- the items that the memory's bytes are
unfoldable pub items_in : Config → Memory → Items
items_in c m =
    let p = regions (shape_of c) (tables_part c m) in
    record {
      ticks = ticks_in c p;
      tasks = tasks_in c p (slots_part c m);
      semaphores = semaphores_in c p;
      mailboxes = mailboxes_in c p;
      queues = queues_in c p;
      timers = timers_of c (timers_part c m);
    }

pub items_shown : (c : Config) (l : Ledger) (m : Memory) → Displays c l m → items l ≡ items_in c m
unfolding Displays items items_in
items_shown c l m h =
    let s = h.shown in
    λ i. record {
      ticks = s.ticks i;
      tasks = s.tasks i;
      semaphores = s.semaphores i;
      mailboxes = s.mailboxes i;
      queues = s.queues i;
      timers = s.timers i;
    }

-- ---- lent well

-- the messages' rule is kept where the ledger has none twice
pub displays_well : (k : Limits) (m : Memory) (l : Ledger) → full_size k m ≡ true → is_marked (sizes_of k) m ≡ true → frame_rule k (kept_frame m.config) ≡ true → Displays (config_of m) l m
    → Once (config_of m) l.mailboxes → lent_well k m ≡ true
unfolding lent_well messages_sound sound_in Displays
displays_well k m l f marked r h o = let c = config_of m in rw (f, marked, r) (sound_shown c (shape_of c) l (tables_part c m) (slots_part c m) (timers_part c m) h o)

-- ---- an answer has 4 to 20 bytes

module _ (c : Config) (l : Ledger) (m : Memory) (h : Displays c l m) where
  running_most : running l ≤ (shape_of c).tasks
  unfolding Displays tasks_in
  running_most = go (lowest_runs c.T l (ap length h.shown.tasks ∙ tab_length c.T _))
    where
      go : TaskRuns c.T l (running l) ⊎ NullRuns c.T l (running l) → running l ≤ (shape_of c).tasks
      go (inl t) = omega (arith, t.number.upto, h.of.tasks)
      go (inr t) = omega (arith, t.null)

  pub answer_short : (n r : ℕ) → (4 ≤ length (answer n r l)) × (length (answer n r l) ≤ 20)
  unfolding Displays
  answer_short n r = read.answer_short c (shape_of c) l (tables_part c m) (slots_part c m) (timers_part c m) h running_most n r

pub step_short : (c : Config) (f : List ℕ) (l : Ledger) (m : Memory) → Displays c (step c f l).ledger m → length (step c f l).answered ≤ 20
unfolding step
step_short c f l m = go (eqb (refusal c l f) 0)
  where
    go : (b : Bool) → let s = settle (2 * c.T) c (accept c f l) in
        let x : Stepped = cond b (record { ledger = s.ledger; answered = answer 0 s.reissues s.ledger }) (record { ledger = l; answered = answer (refusal c l f) 0 l }) in
        Displays c x.ledger m → length x.answered ≤ 20
    go true h = let s = settle (2 * c.T) c (accept c f l) in (answer_short c s.ledger m h 0 s.reissues).1
    go false h = (answer_short c l m h (refusal c l f) 0).1
