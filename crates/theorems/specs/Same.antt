-- Demand 3, of every list of calls to an executive with the limits k, by their contracts: the answers, the numbers and the items are the
-- ledger's, whatever the limits are, and what is proved of the ledger holds of them.
use Rattle.std.specs.Prelude.{ℕ, ◌*◌, ◌≤◌, ◌≡◌, ◌⊎◌, true, List, [], ◌∷◌, ◌++◌, length, get_or, take}
use Rattle.std.proofs.Common.{ap, ap₂, sym, ◌∙◌, subst, inr, ne_eqb}
use Rattle.ledger.specs.Lists.{byte}
use Rattle.ledger.specs.Config.{Config, Limits, config_in, config_refusal, config_refusal_by}
use Rattle.ledger.specs.Ledger.{Task, running, fresh, queue, held}
use Rattle.ledger.specs.Session.{accept, answer, run, session, refused_configuration, Items, items}
use Rattle.ledger.proofs.Theorems.Parts.{Every}
use Rattle.ledger.specs.Good.{TaskRuns}
use Rattle.ledger.proofs.Theorems.Lowest.{NullRuns}
use Rattle.ledger.proofs.Theorems.Shown.{lowest_shown, reissues_shown}
use Rattle.ledger.proofs.Theorems.HandedOut.{handed_out}
use Rattle.ledger.proofs.Theorems.HandsOver.{Copy, Asked, HandsOver}
use Rattle.ledger.proofs.Theorems.HandedOver.{handed_over}
use Rattle.ledger.proofs.Theorems.Once.{Once, once_fresh}
use Rattle.ledger.proofs.Theorems.Within.{by_accepted, other_number}
use Rattle.configuration.specs.Limits.{Made}
use Rattle.parts.specs.Parts.{kept_frame}
use Rattle.mcx11.specs.Contract.{Memory, full_size, config_of, lent_well, Displays, Tidily, OutsideStays, OutsideSpared, answering, Configures}
use Rattle.mcx11.specs.Kept.{begins_config}
use Rattle.theorems.specs.Calls.{FrameCalls}
use Rattle.mcx11.specs.Answer.{answer_of, answer_is}
use Rattle.theorems.specs.Numbers.{numbers, Not11, none_11, configuration_never_11}
use Rattle.mcx11.specs.Displayed.{items_in, items_shown}
use Rattle.theorems.specs.Follows.{FollowsLedger, follows}

-- the calls for the configuration g, lent the memory m₀, and for the frames fs, with these answers and numbers, those of the configuration
-- first, left the memory m
pub record Same (k : Limits) (g : List ℕ) (m₀ : Memory) (fs answered : List (List ℕ)) (returned : List ℕ) (m : Memory) : Type 0 where
  -- byte by byte, the answers are the ledger's
  pub answers : answered ≡ session g fs
  -- each number is the ledger's, and none is 11
  pub numbers : returned ≡ numbers (config_in g) fs
  pub none_11 : Every Not11 returned
  -- the memory shows the ledger after the list: its bytes are, item by item, what the ledger keeps
  pub shown : Displays (config_in g) (run (config_in g) fs).0 m
  pub items : items (run (config_in g) fs).0 ≡ items_in (config_in g) m
  -- and tidily: each item has the one value that the executive writes (OneValue)
  pub tidy : Tidily (config_in g) (run (config_in g) fs).0 m
  -- it is lent well, so that the next frame doesn't meet 11 either
  pub well : lent_well k m ≡ true
  -- it still holds the accepted frame
  pub frame : kept_frame m.config ≡ g
  -- every byte outside that frame, the marks and the parts that the configuration needs is as it was before the configuration
  pub outside : OutsideSpared k g m₀ m
  -- the second byte of answer i, that after i frames, is the runnable task with the lowest number, or 0 if none is runnable
  pub lowest : (i : ℕ) → i ≤ length fs
      → let T = (config_in g).T in let l = (run (config_in g) (take i fs)).0 in let n = byte 1 (get_or answered i []) in TaskRuns T l n ⊎ NullRuns T l n
  -- the third byte of each answer is at most 2T reissues
  pub bound : (i : ℕ) → i ≤ length fs → byte 2 (get_or answered i []) ≤ 2 * (config_in g).T
  -- what a queue handed out, followed by what it holds, is all that was put into it, in order
  pub fifo : (q : ℕ) → let k = queue (run (config_in g) fs).0 q in k.handed_out ++ held k ≡ k.put
  -- what the last frame f added to what the queues handed out lies in the memory: each entry is the front of the slot of the task that took
  -- it and is its outcome, no task took two, and all else in the slots is as before f. A task that took is the one that ran before f, or has an
  -- open request where settling begins. The list may end after any frame
  pub handed : (before : List (List ℕ)) (f : List ℕ) → fs ≡ before ++ (f ∷ [])
      → let c = config_in g in
      let l = (run c before).0 in
      (copies : List Copy) × HandsOver c l (run c fs).0.queues (items_in c m).tasks copies × Every (Asked (running l) (accept c f l)) copies

session_is : (g : List ℕ) (fs : List (List ℕ)) → config_refusal g ≡ 0 → (run (config_in g) fs).1 ≡ session g fs
unfolding session
session_is g fs h = rw h

last_handed : (g : List ℕ) (m : Memory) (fs : List (List ℕ)) → config_refusal g ≡ 0 → Displays (config_in g) (run (config_in g) fs).0 m → (before : List (List ℕ)) (f : List ℕ)
    → fs ≡ before ++ (f ∷ []) → let c = config_in g in
    let l = (run c before).0 in
    (copies : List Copy) × HandsOver c l (run c fs).0.queues (items_in c m).tasks copies × Every (Asked (running l) (accept c f l)) copies
unfolding items
last_handed g m fs h d before f e =
    let c = config_in g in
    let k = handed_over g h before f in
    let tasks : (run c (before ++ (f ∷ []))).0.tasks ≡ (items_in c m).tasks = ap (λ (gs : List (List ℕ)). (run c gs).0.tasks) (sym e) ∙ ap (λ (i : Items). i.tasks) (items_shown c (run c fs).0 m d) in (
      k.0,
      subst (λ (ts : List Task). HandsOver c (run c before).0 (run c fs).0.queues ts k.0) tasks
          (subst (λ (gs : List (List ℕ)). HandsOver c (run c before).0 (run c gs).0.queues (run c (before ++ (f ∷ []))).0.tasks k.0) (sym e) k.1),
      k.2,
    )

whole : (k : Limits) (g : List ℕ) (m₀ : Memory) (fs answered : List (List ℕ)) (returned : List ℕ) (m : Memory) → config_refusal g ≡ 0
    → answered ≡ (run (config_in g) fs).1 → returned ≡ numbers (config_in g) fs → Displays (config_in g) (run (config_in g) fs).0 m → Tidily (config_in g) (run (config_in g) fs).0 m → lent_well k m ≡ true
    → kept_frame m.config ≡ g → OutsideSpared k g m₀ m → Same k g m₀ fs answered returned m
whole k g m₀ fs answered returned m h a n d t w e o =
    record {
      answers = a ∙ session_is g fs h;
      numbers = n;
      none_11 = rw n (none_11 (config_in g) fs);
      shown = d;
      items = items_shown (config_in g) (run (config_in g) fs).0 m d;
      tidy = t;
      well = w;
      frame = e;
      outside = o;
      lowest = rw a (lowest_shown g h fs);
      bound = rw a (reissues_shown (config_in g) fs);
      fifo = handed_out g h fs;
      handed = last_handed g m fs h d;
    }

-- what a configuration spares, and then every frame
spares : {k : Limits} {g : List ℕ} {m₀ m₁ m : Memory} → OutsideSpared k g m₀ m₁ → m.config ≡ m₁.config → OutsideStays (config_in g) m₁ m → OutsideSpared k g m₀ m
spares a e o =
    record {
      config = λ i h l. ap (λ (x : List ℕ). get_or x i 0) e ∙ a.config i h l;
      tables = λ i h l. o.tables i (inr h) ∙ a.tables i h l;
      slots = λ i h l. o.slots i (inr h) ∙ a.slots i h l;
      timers = λ i h l. o.timers i (inr h) ∙ a.timers i h l;
    }

-- for every accepted configuration, every memory of full size, whatever it held, and every list of frames, refused ones among them
pub every_list : {k : Limits} → Made k → {g : List ℕ} {m₀ m₁ m : Memory} {r₀ : ℕ} {fs answered : List (List ℕ)} {returned : List ℕ}
    → config_refusal_by k g ≡ 0 → full_size k m₀ ≡ true → Configures k g m₀ m₁ r₀ → FrameCalls k m₁ fs answered returned m
    → Same k g m₀ fs (answer_of m₁ ∷ answered) (r₀ ∷ returned) m
unfolding run numbers
every_list {k} made {g} {m₀} {m₁} {m} {r₀} {fs} {answered} {returned} h full s more =
    let c = config_in g in
    let a = s.accepted full h in
    let e : config_of m₁ ≡ c = begins_config a in
    let d : Displays (config_of m₁) (fresh c) m₁ = subst (λ (x : Config). Displays x (fresh c) m₁) (sym e) a.shown in
    let o : Once (config_of m₁) (fresh c).mailboxes = subst (λ (x : Config). Once x (fresh c).mailboxes) (sym e) (once_fresh c) in
    let rest : FollowsLedger k c (fresh c) m₁ fs answered returned m = subst (λ (x : Config). FollowsLedger k x (fresh c) m₁ fs answered returned m) e (follows made (fresh c) a.well d o more) in
    whole k g m₀ fs (answer_of m₁ ∷ answered) (r₀ ∷ returned) m (by_accepted k g h).0
    (ap₂ ◌∷◌ (answer_is m₁ (answer 0 0 (fresh c)) m₀.answer a.answered) rest.answers)
    (ap₂ ◌∷◌ a.number rest.numbers)
    rest.shown
    (rest.tidy a.tidy)
    rest.well
    (ap kept_frame rest.config ∙ a.frame)
    (spares a.outside rest.config rest.outside)

-- a configuration that is refused gives its number, which isn't 11, and is answered with it; what document 01 refuses is answered as the
-- session is
pub record Refused (k : Limits) (g answered : List ℕ) (r : ℕ) : Type 0 where
  pub number : r ≡ config_refusal_by k g
  pub not_11 : Not11 r
  pub answer : answered ≡ refused_configuration (config_refusal_by k g)
  pub session : (config_refusal g ≡ 0 → ⊥) → (fs : List (List ℕ)) → answered ∷ [] ≡ session g fs

refused_session : (g : List ℕ) → (config_refusal g ≡ 0 → ⊥) → (fs : List (List ℕ)) → refused_configuration (config_refusal g) ∷ [] ≡ session g fs
unfolding session
refused_session g h fs = rw (ne_eqb (config_refusal g) 0 h)

pub refused_configuration_lem : {k : Limits} {g : List ℕ} {m₀ m₁ : Memory} {r : ℕ} → (config_refusal_by k g ≡ 0 → ⊥) → full_size k m₀ ≡ true → Configures k g m₀ m₁ r → Refused k g (answer_of m₁) r
unfolding answering
refused_configuration_lem {k} {g} {m₀} {m₁} {r} h full s =
    let a = s.refused full h in
    let n = config_refusal_by k g in
    let e : answer_of m₁ ≡ refused_configuration n = answer_is m₁ (refused_configuration n) m₀.answer (ap (λ (m : Memory). m.answer) a.1) in
    record {
      number = a.0;
      not_11 = rw a.0 (configuration_never_11 k g);
      answer = e;
      session = λ z fs. ap (λ (x : List ℕ). x ∷ []) (e ∙ ap refused_configuration (other_number k g z)) ∙ refused_session g z fs;
    }
