-- A check that fails, and one that doesn't; a refusal's number.
use Rattle.std.specs.Prelude.{ℕ, ◌+◌, ◌≤◌, ◌≡◌, Bool, true, false, List, ◌∷◌}
use Rattle.std.proofs.Common.{arith}
use Rattle.ledger.specs.Lists.{Check, first, ◌⇒◌}
use Rattle.tables.specs.declared.shape.Shape.{Shape}
use Rattle.tables.specs.Layout.{Fits, fitting}
use Rattle.refusals.specs.declared.Refusal.{Refusal}
use Rattle.refusals.specs.declared.Refusal.TheVariants as refusal
use Rattle.refusals.specs.Numbers.{number_of}

-- a refusal's number is not that of an accepted frame
pub refused : (r : Refusal) → number_of r ≡ 0 → ⊥
refused refusal.Line e = omega arith
refused refusal.Length e = omega arith
refused refusal.Configuration e = omega arith
refused refusal.Code e = omega arith
refused refusal.Task e = omega arith
refused refusal.Semaphore e = omega arith
refused refusal.Queue e = omega arith
refused refusal.Message e = omega arith
refused refusal.TockValue e = omega arith
refused refusal.Milliseconds e = omega arith
refused refusal.Memory e = omega arith
refused refusal.NullTaskRuns e = omega arith
refused refusal.SemaphoreWaiting e = omega arith
refused refusal.MessageInMailbox e = omega arith
refused refusal.AllTimersActive e = omega arith
refused refusal.HasATimer e = omega arith
refused refusal.IdleOrWaiting e = omega arith
refused refusal.BeforeFirst e = omega arith
refused refusal.AboveModule e = omega arith
refused refusal.Stretch e = omega arith
refused refusal.Cycles e = omega arith

pub here : (b : Bool) (n : ℕ) (ks : List Check) → b ≡ true → first (b ⇒ n ∷ ks) ≡ n
unfolding first
here b n ks e = rw e

pub next : (b : Bool) (n : ℕ) (ks : List Check) → b ≡ false → first (b ⇒ n ∷ ks) ≡ first ks
unfolding first
next b n ks e = rw e

-- ---- numbers of semaphores
pub named_few : {s : Shape} {n : ℕ} → Fits s n → s.named + s.tasks ≤ 255
named_few (fitting l r) = omega arith

pub owned : {s : Shape} {n : ℕ} → Fits s n → (t : ℕ) → t ≤ s.tasks → s.named + t ≤ 255
owned (fitting l r) t h = omega arith
