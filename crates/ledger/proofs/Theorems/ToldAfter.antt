-- Whom a signal request tells, after its frame: settling leaves the caller's outcome, since the caller has no open request.
use Rattle.std.specs.Prelude.{ℕ, ◌≡◌, false, List}
use Rattle.std.proofs.Common.{◌∙◌, ap, eq-eqb}
use Rattle.ledger.specs.Lists.{byte, Bytes}
use Rattle.ledger.specs.Config.{Config, config_in, config_refusal}
use Rattle.ledger.specs.Ledger.{woke, Ledger, task, running}
use Rattle.ledger.specs.Services.{SIGNAL}
use Rattle.ledger.specs.Refusals.{code_at, refusal}
use Rattle.ledger.specs.Session.{open_request, is_open, accept, step, run}
use Rattle.ledger.proofs.Theorems.Parts.{Every}
use Rattle.ledger.proofs.Theorems.Configured.{configured}
use Rattle.ledger.proofs.Theorems.Settling.{settles}
use Rattle.ledger.proofs.Theorems.Sizes.{of_accept}
use Rattle.ledger.proofs.Theorems.Steps.{any_values, accepts}
use Rattle.ledger.proofs.Theorems.Kept.{through, named_through}
use Rattle.ledger.proofs.Theorems.Sound.{Sound, sound}
use Rattle.ledger.proofs.Theorems.Sound.Queues.{SoundQueues, queues_kept}
use Rattle.ledger.proofs.Theorems.Untaken.{Beside}
use Rattle.ledger.proofs.Theorems.HandedOver.{settling, Ready, ready_run}
use Rattle.ledger.proofs.Theorems.Told.{Lost, request_tells}

-- the caller's outcome after the frame is the task that lost its event wait by the signal, before settling, or 0 if none did
pub record Tells (c : Config) (f : List ℕ) (l : Ledger) : Type 0 where
  pub whom : ℕ
  pub outcome : (task (step c f l).ledger (running l)).outcome ≡ woke whom
  pub lost : Lost l (accept c f l) whom

tells : (c : Config) (f : List ℕ) (l : Ledger) → Ready c l → Sound c l → refusal c l f ≡ 0 → code_at (byte 0 f) ≡ SIGNAL → Tells c f l
unfolding step open_request
tells c f l r h z e =
    let t = request_tells c f l h z e in
    let k = accepts c (λ v. Unit {0}) f l (any_values f) r.named z in
    let named = named_through k (of_accept c f l) r.named in
    let s = settling (settles c (accept c f l) named.tasks) named (through (SoundQueues c) queues_kept k r.queues) in
    let shut : is_open (task (accept c f l) (running l)).request ≡ false = ap is_open t.request ∙ r.closed in
    record { whom = t.whom; outcome = rw (eq-eqb (refusal c l f) 0 z) (ap (λ (b : Beside). b.outcome) (s.still (running l) shut)) ∙ t.outcome; lost = t.lost }

-- behind every list of frames of bytes
pub signal_tells : (g : List ℕ) → config_refusal g ≡ 0 → {fs : List (List ℕ)} → Every Bytes fs → (f : List ℕ)
    → let c = config_in g in let l = (run c fs).0 in refusal c l f ≡ 0 → code_at (byte 0 f) ≡ SIGNAL → Tells c f l
unfolding run
signal_tells g h {fs} bytes f z e =
    let c = config_in g in
    tells c f (run c fs).0 (ready_run c (configured g h).states fs) (sound g h bytes) z e
