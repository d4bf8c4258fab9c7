-- Two executives with the same limits that meet the contract don't differ: what each call leaves is the same function of a ledger that the memory shows, every
-- memory that is lent well shows one, and whether a memory is lent well is told by what it shows.
use Rattle.std.specs.Prelude.{ℕ, ◌+◌, ◌≡◌, Bool, ◌&&◌, List, ◌∷◌, get_or}
use Rattle.std.proofs.Math.Path.{refl, ap}
use Rattle.std.proofs.Common.{ap₂, sym, ◌∙◌, subst}
use Rattle.std.proofs.Math.Bool.{true, false}
use Rattle.std.proofs.Math.Decide.{ℕ_discrete}
use Rattle.rows.specs.Splice.{cut}
use Rattle.ledger.specs.Config.{Config, Limits, config_in, config_refusal_by}
use Rattle.ledger.specs.Ledger.{Ledger, fresh}
use Rattle.ledger.specs.Session.{Items, step}
use Rattle.tables.specs.Shows.{no_tidy}
use Rattle.mailboxes.specs.Room.{sound_in}
use Rattle.mailboxes.specs.Whole.{sound_same}
use Rattle.configuration.specs.Limits.{Made}
use Rattle.configuration.specs.Block.{frame_rule}
use Rattle.parts.specs.Parts.{kept_frame}
use Rattle.configuration.specs.Layout.{shape_of}
use Rattle.answer.specs.Written.{written}
use Rattle.mcx11.specs.Contract.{Memory, sizes_of, full_size, is_marked, config_of, tables_part, slots_part, timers_part, messages_sound, lent_well, Displays, Configures, Goes, Frames}
use Rattle.mcx11.specs.Sizes.{full_kept, well_full, well_frame}
use Rattle.mcx11.specs.Kept.{marks_stay, config_stays, begins_config}
use Rattle.mcx11.specs.Answer.{answer_of}
use Rattle.mcx11.specs.Displayed.{items_in, items_shown}
use Rattle.theorems.specs.Calls.{FrameCalls, none, call}
use Rattle.theorems.specs.SomeLedger.{ledger_in, displays_ledger, displays_some}

-- the items of a memory, by its own configuration
unfoldable pub items_of : Memory → Items
items_of m = items_in (config_of m) m

-- two memories that show the same ledger have the same items
shown_both : (c : Config) (l : Ledger) (m₁ m₂ : Memory) → config_of m₁ ≡ c → config_of m₂ ≡ c → Displays c l m₁ → Displays c l m₂
    → items_of m₁ ≡ items_of m₂
unfolding items_of
shown_both c l m₁ m₂ e₁ e₂ h₁ h₂ =
    ap (λ (k : Config). items_in k m₁) e₁ ∙ sym (items_shown c l m₁ h₁) ∙ items_shown c l m₂ h₂ ∙ ap (λ (k : Config). items_in k m₂) (sym e₂)

-- ---- from memories that are alike

-- what the executive can tell of a memory: whether it has the sizes and the marks, its configuration's frame, its answer and its items
pub record Indistinct (k : Limits) (m₁ m₂ : Memory) : Type 0 where
  pub sizes : full_size k m₁ ≡ full_size k m₂
  pub marks : is_marked (sizes_of k) m₁ ≡ is_marked (sizes_of k) m₂
  pub frames : kept_frame m₁.config ≡ kept_frame m₂.config
  pub answers : m₁.answer ≡ m₂.answer
  pub items : items_of m₁ ≡ items_of m₂

alike_self : (k : Limits) (m : Memory) → Indistinct k m m
alike_self k m = record { sizes = refl; marks = refl; frames = refl; answers = refl; items = refl }

-- what the one shows, the other shows
displays_both : (c : Config) (l k : Ledger) (m₁ m₂ : Memory) → items_in c m₁ ≡ items_in c m₂ → Displays c l m₁ → Displays c k m₂ → Displays c l m₂
unfolding Displays items_in
displays_both c l k m₁ m₂ e h g =
    let s = h.shown in
    record {
      of = g.of;
      room = g.room;
      slots = g.slots;
      counted = g.counted;
      shown = record {
        ticks = s.ticks ∙ ap (λ (i : Items). i.ticks) e;
        tasks = s.tasks ∙ ap (λ (i : Items). i.tasks) e;
        semaphores = s.semaphores ∙ ap (λ (i : Items). i.semaphores) e;
        mailboxes = s.mailboxes ∙ ap (λ (i : Items). i.mailboxes) e;
        queues = s.queues ∙ ap (λ (i : Items). i.queues) e;
        taken = s.taken;
        timers = s.timers ∙ ap (λ (i : Items). i.timers) e;
        tidily = λ q. no_tidy q;
      };
    }

module _ (k : Limits) (made : Made k) {m m' : Memory} (a : Indistinct k m m') where
  abbrev c : Config
  c = config_of m

  configs : config_of m ≡ config_of m'
  unfolding config_of
  configs = ap config_in a.frames

  items_alike : items_in c m ≡ items_in c m'
  unfolding items_of
  items_alike = a.items ∙ ap (λ (x : Config). items_in x m') (sym configs)

  abbrev keeps : Bool
  keeps = frame_rule k (kept_frame m.config)

  module _ (full : full_size k m ≡ true) (kept : keeps ≡ true) where
    ledger_alike : Displays c (ledger_in m) m'
    ledger_alike =
        let v : Displays (config_of m') (ledger_in m') m' = displays_ledger k made m' (sym a.sizes ∙ full) (ap (frame_rule k) (sym a.frames) ∙ kept) in
        displays_both c (ledger_in m) (ledger_in m') m m' items_alike (displays_ledger k made m full kept) (subst (λ (x : Config). Displays x (ledger_in m') m') (sym configs) v)

    messages_alike : messages_sound c (tables_part c m) ≡ messages_sound c (tables_part c m')
    unfolding messages_sound sound_in Displays
    messages_alike =
        sound_same c (shape_of c) (ledger_in m) (tables_part c m) (slots_part c m) (timers_part c m) (tables_part c m') (slots_part c m') (timers_part c m') (displays_ledger k made m full kept) ledger_alike

  -- both are lent well, or neither is
  well_alike : lent_well k m ≡ lent_well k m'
  unfolding lent_well
  well_alike =
      go (full_size k m) refl (is_marked (sizes_of k) m) keeps refl
      ∙ (λ i. a.sizes i && a.marks i && frame_rule k (a.frames i) && messages_sound (configs i) (tables_part (configs i) m'))
    where
      go : (x : Bool) → full_size k m ≡ x → (b : Bool) (y : Bool) → keeps ≡ y → (x && b && y && messages_sound c (tables_part c m)) ≡ (x && b && y && messages_sound c (tables_part c m'))
      go false e b y q = refl
      go true e false y q = refl
      go true e true false q = refl
      go true e true true q = messages_alike e q

  pub frames_alike : {f : List ℕ} {m₁ m₂ : Memory} {r₁ r₂ : ℕ} → Frames k f m m₁ r₁ → Frames k f m' m₂ r₂ → (r₁ ≡ r₂) × Indistinct k m₁ m₂
  frames_alike {f} {m₁} {m₂} {r₁} {r₂} s₁ s₂ = go (lent_well k m) refl
    where
      go : (b : Bool) → lent_well k m ≡ b → (r₁ ≡ r₂) × Indistinct k m₁ m₂
      go false w =
          let x = s₁.bad w in
          let y = s₂.bad (sym well_alike ∙ w) in
          (x.0 ∙ sym y.0, subst (λ (n : Memory). Indistinct k m₁ n) (sym y.1) (subst (λ (n : Memory). Indistinct k n m') (sym x.1) a))
      go true w =
          let l = ledger_in m in
          let w' : lent_well k m' ≡ true = sym well_alike ∙ w in
          let h : Displays c l m' = ledger_alike (well_full k m w) (well_frame k m w) in
          let g₁ = s₁.good w l (displays_some k made m w) in
          let g₂ : Goes c l f m' m₂ r₂ = subst (λ (x : Config). Displays x l m' → Goes x l f m' m₂ r₂) (sym configs) (s₂.good w' l) h in
          let e₁ : config_of m₁ ≡ c = config_stays s₁ in
          let e₂ : config_of m₂ ≡ c = config_stays s₂ ∙ sym configs in (
            g₁.number ∙ sym g₂.number,
            record {
              sizes = full_kept k s₁.sizes ∙ a.sizes ∙ sym (full_kept k s₂.sizes);
              marks = marks_stay k made m (well_full k m w) (well_frame k m w) m₁ s₁.config (s₁.outside w) ∙ a.marks ∙ sym (marks_stay k made m' (well_full k m' w') (well_frame k m' w') m₂ s₂.config (s₂.outside w'));
              frames = ap kept_frame s₁.config ∙ a.frames ∙ sym (ap kept_frame s₂.config);
              answers = g₁.answered ∙ ap (written (step c f l).answered) a.answers ∙ sym g₂.answered;
              items = shown_both c (step c f l).ledger m₁ m₂ e₁ e₂ g₁.shown g₂.shown;
            },
          )

-- ---- one call

-- the number, the configuration's frame, the answer and every item
pub record Agree (m₁ m₂ : Memory) (r₁ r₂ : ℕ) : Type 0 where
  pub numbers : r₁ ≡ r₂
  pub frames : kept_frame m₁.config ≡ kept_frame m₂.config
  pub answers : m₁.answer ≡ m₂.answer
  pub items : items_of m₁ ≡ items_of m₂

same_memory : (m m₁ m₂ : Memory) (r r₁ r₂ : ℕ) → (r₁ ≡ r) × (m₁ ≡ m) → (r₂ ≡ r) × (m₂ ≡ m) → Agree m₁ m₂ r₁ r₂
same_memory m m₁ m₂ r r₁ r₂ a b =
    let e : m₁ ≡ m₂ = a.1 ∙ sym b.1 in
    record { numbers = a.0 ∙ sym b.0; frames = ap (λ (x : Memory). kept_frame x.config) e; answers = ap (λ (x : Memory). x.answer) e; items = ap items_of e }

-- for every frame and every memory, well lent or not
pub frames_agree : {k : Limits} → Made k → {f : List ℕ} {m m₁ m₂ : Memory} {r₁ r₂ : ℕ} → Frames k f m m₁ r₁ → Frames k f m m₂ r₂ → Agree m₁ m₂ r₁ r₂
frames_agree {k} made {m = m} s₁ s₂ =
    let a = frames_alike k made (alike_self k m) s₁ s₂ in
    record { numbers = a.0; frames = a.1.frames; answers = a.1.answers; items = a.1.items }

-- for every configuration, accepted or not, and every memory
pub configurations_agree : {k : Limits} {g : List ℕ} {m m₁ m₂ : Memory} {r₁ r₂ : ℕ} → Configures k g m m₁ r₁ → Configures k g m m₂ r₂ → Agree m₁ m₂ r₁ r₂
configurations_agree {k} {g} {m} {m₁} {m₂} {r₁} {r₂} s₁ s₂ = go (full_size k m) refl
  where
    fits : full_size k m ≡ true → config_refusal_by k g ≡ 0 → Agree m₁ m₂ r₁ r₂
    fits f h =
        let c = config_in g in
        let a₁ = s₁.accepted f h in
        let a₂ = s₂.accepted f h in
        record {
          numbers = a₁.number ∙ sym a₂.number;
          frames = a₁.frame ∙ sym a₂.frame;
          answers = a₁.answered ∙ sym a₂.answered;
          items = shown_both c (fresh c) m₁ m₂ (begins_config a₁) (begins_config a₂) a₁.shown a₂.shown;
        }

    go : (b : Bool) → full_size k m ≡ b → Agree m₁ m₂ r₁ r₂
    go false f = same_memory m m₁ m₂ 11 r₁ r₂ (s₁.short f) (s₂.short f)
    go true f = elim (ℕ_discrete (config_refusal_by k g) 0) [ yes h ↦ fits f h | no h ↦ same_memory _ m₁ m₂ _ r₁ r₂ (s₁.refused f h) (s₂.refused f h) ]

-- ---- a list of calls, from any memory

pub record AgreeOnLists (answered₁ answered₂ : List (List ℕ)) (returned₁ returned₂ : List ℕ) (m₁ m₂ : Memory) : Type 0 where
  pub numbers : returned₁ ≡ returned₂
  pub answers : answered₁ ≡ answered₂
  pub items : items_of m₁ ≡ items_of m₂

lists_alike : {k : Limits} → Made k → {m m' m₁ m₂ : Memory} {fs answered₁ answered₂ : List (List ℕ)} {returned₁ returned₂ : List ℕ} → Indistinct k m m'
    → FrameCalls k m fs answered₁ returned₁ m₁ → FrameCalls k m' fs answered₂ returned₂ m₂ → AgreeOnLists answered₁ answered₂ returned₁ returned₂ m₁ m₂
unfolding answer_of
lists_alike made a none none = record { numbers = refl; answers = refl; items = a.items }
lists_alike {k} made a (call s₁ more₁) (call s₂ more₂) =
    let x = frames_alike k made a s₁ s₂ in
    let rest = lists_alike made x.1 more₁ more₂ in
    record {
      numbers = ap₂ ◌∷◌ x.0 rest.numbers;
      answers = ap₂ ◌∷◌ (ap (λ (d : List ℕ). cut d 1 (1 + get_or d 0 0)) x.1.answers) rest.answers;
      items = rest.items;
    }

pub lists_agree : {k : Limits} → Made k → {m m₁ m₂ : Memory} {fs answered₁ answered₂ : List (List ℕ)} {returned₁ returned₂ : List ℕ}
    → FrameCalls k m fs answered₁ returned₁ m₁ → FrameCalls k m fs answered₂ returned₂ m₂ → AgreeOnLists answered₁ answered₂ returned₁ returned₂ m₁ m₂
lists_agree {k} made {m = m} s₁ s₂ = lists_alike made (alike_self k m) s₁ s₂
