-- A list of calls goes as the ledger goes, from any ledger that the memory shows and that has no message twice: each call finds the
-- memory lent well and showing the ledger, and leaves it so.
use Rattle.std.specs.Prelude.{ℕ, ◌≡◌, refl, true, List, ◌∷◌}
use Rattle.std.proofs.Common.{ap₂, sym, ◌∙◌, subst}
use Rattle.ledger.specs.Config.{Config, Limits}
use Rattle.ledger.specs.Ledger.{Ledger}
use Rattle.ledger.specs.Session.{step, run_from}
use Rattle.ledger.proofs.Theorems.Once.{Once, once_step}
use Rattle.configuration.specs.Limits.{Made}
use Rattle.mcx11.specs.Contract.{Memory, config_of, lent_well, Displays, Tidily, OutsideStays, Frames}
use Rattle.theorems.specs.Calls.{FrameCalls, none, call}
use Rattle.mcx11.specs.Answer.{answer_is}
use Rattle.theorems.specs.Numbers.{numbers_from}
use Rattle.mcx11.specs.Kept.{config_stays, well_again}

pub record FollowsLedger (k : Limits) (c : Config) (l : Ledger) (m : Memory) (fs answered : List (List ℕ)) (returned : List ℕ) (m' : Memory) : Type 0 where
  pub config : m'.config ≡ m.config
  pub answers : answered ≡ (run_from c l fs).1
  pub numbers : returned ≡ numbers_from c l fs
  pub shown : Displays c (run_from c l fs).0 m'
  pub tidy : Tidily c l m → Tidily c (run_from c l fs).0 m'
  pub well : lent_well k m' ≡ true
  pub outside : OutsideStays c m m'

-- one call: the next finds the memory lent well and showing the next ledger, which has no message twice
pub record Onward (k : Limits) (f : List ℕ) (l : Ledger) (m m₁ : Memory) : Type 0 where
  pub config : config_of m₁ ≡ config_of m
  pub well : lent_well k m₁ ≡ true
  pub shown : Displays (config_of m₁) (step (config_of m) f l).ledger m₁
  pub once : Once (config_of m₁) (step (config_of m) f l).ledger.mailboxes

pub onward : {k : Limits} → Made k → {f : List ℕ} {m m₁ : Memory} {r : ℕ} (l : Ledger)
    → lent_well k m ≡ true → Displays (config_of m) l m → Once (config_of m) l.mailboxes → Frames k f m m₁ r → Onward k f l m m₁
onward made {f} {m} {m₁} l w h o s =
    let c = config_of m in
    let next = (step c f l).ledger in
    let e : config_of m₁ ≡ c = config_stays s in
    record {
      config = e;
      well = well_again s made l w h o;
      shown = subst (λ (x : Config). Displays x next m₁) (sym e) (s.good w l h).shown;
      once = subst (λ (x : Config). Once x next.mailboxes) (sym e) (once_step c f l o);
    }

pub follows : {k : Limits} → Made k → {m m' : Memory} {fs answered : List (List ℕ)} {returned : List ℕ} (l : Ledger)
    → lent_well k m ≡ true → Displays (config_of m) l m → Once (config_of m) l.mailboxes → FrameCalls k m fs answered returned m' → FollowsLedger k (config_of m) l m fs answered returned m'
unfolding run_from numbers_from
follows made l w h o none = record { config = refl; answers = refl; numbers = refl; shown = h; tidy = λ t. t; well = w; outside = record { tables = λ i k. refl; slots = λ i k. refl; timers = λ i k. refl } }
follows {k} made l w h o (call {f} {m} {m₁} {m'} {r} {fs} {answers} {numbers} s more) =
    let c = config_of m in
    let next = step c f l in
    let g = s.good w l h in
    let n = onward made l w h o s in
    let rest : FollowsLedger k c next.ledger m₁ fs answers numbers m' =
    subst (λ (x : Config). FollowsLedger k x next.ledger m₁ fs answers numbers m') n.config (follows made next.ledger n.well n.shown n.once more) in
    let now = s.outside w in
    let later = rest.outside in
    record {
      config = rest.config ∙ s.config;
      answers = ap₂ ◌∷◌ (answer_is m₁ next.answered m.answer g.answered) rest.answers;
      numbers = ap₂ ◌∷◌ g.number rest.numbers;
      shown = rest.shown;
      tidy = λ t. rest.tidy (g.tidy t);
      well = rest.well;
      outside = record { tables = λ i k. later.tables i k ∙ now.tables i k; slots = λ i k. later.slots i k ∙ now.slots i k; timers = λ i k. later.timers i k ∙ now.timers i k };
    }
