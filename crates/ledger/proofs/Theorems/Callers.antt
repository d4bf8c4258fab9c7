-- Only a signal's caller is told: a task whose outcome is `woke` after a frame had it before, unless the frame is its own signal request.
use Rattle.std.specs.Prelude.{ℕ, ◌≡◌, false, List}
use Rattle.std.proofs.Common.{sym, ◌∙◌, ap, arith}
use Rattle.ledger.specs.Lists.{byte}
use Rattle.ledger.specs.Config.{Config}
use Rattle.ledger.specs.Ledger.{Outcome, woke, Task, Ledger, null_task, task, running}
use Rattle.ledger.specs.Services.{SIGNAL}
use Rattle.ledger.specs.Refusals.{code_at, call}
use Rattle.ledger.specs.Session.{step}
use Rattle.ledger.proofs.Theorems.Items.{at_put_other}
use Rattle.ledger.proofs.Theorems.Walk.{is_woke, Bears, changes, walks}

not_woke : (o : Outcome) (t : ℕ) → is_woke o ≡ false → o ≡ woke t → ⊥
not_woke o t n e = let z : ◌≡◌ {A = ℕ} 0 1 = cc (ap is_woke e) in omega arith

-- for every ledger and every frame
pub told_by_own_signal : (c : Config) (f : List ℕ) (l : Ledger) (u t : ℕ) → ((code_at (byte 0 f) ≡ SIGNAL) × (u ≡ running l) → ⊥)
    → (task (step c f l).ledger u).outcome ≡ woke t → (task l u).outcome ≡ woke t
told_by_own_signal c f l u t n =
    let P : Task → Type 0 = λ k. k.outcome ≡ woke t in
    let b : Bears P = record {
      same = λ k v i o h. sym o ∙ h;
      set = λ k v i o h. absurd (not_woke v.outcome t o h);
      ended = λ k v i o h. absurd (not_woke v.outcome t o h);
    } in
    walks u P b c f l (λ s v ts i h. ap (λ k. k.outcome) (sym (at_put_other ts (running l) u v null_task (λ e. n (s, e)))) ∙ h)
    (λ a x v ts o. changes u P (call c (running l) f).a v ts (λ h. absurd (not_woke v.outcome t o h)))
