-- Every answer shows, as its second byte, the runnable task with the lowest number in the ledger after its frame, else 0; and as its third byte at most 2T reissues.
-- Each answer of a run is that of one step, and its ledger the one after as many frames.
use Prim.Native.Nat.{ℕ, zero, suc, ◌*◌, ◌≤◌, ◌<◌}
use Rattle.std.specs.Prelude.{◌≡◌, ◌⊎◌, eqb, length, get_or, take}
use Rattle.std.proofs.Math.Path.{refl}
use Rattle.std.proofs.Common.{ap, arith}
use mathlib.Core.List.{List, [], ◌∷◌}
use Rattle.ledger.specs.Lists.{byte}
use Rattle.ledger.specs.Config.{Config, config_in, config_refusal}
use Rattle.ledger.specs.Ledger.{Ledger, running, fresh}
use Rattle.ledger.specs.Refusals.{refusal}
use Rattle.ledger.specs.Session.{accept, answer, Stepped, step, run_from, run}
use Rattle.ledger.proofs.Theorems.Checks.{cond_both}
use Rattle.ledger.proofs.Theorems.Configured.{configured}
use Rattle.ledger.specs.Good.{TaskRuns}
use Rattle.ledger.proofs.Theorems.Lowest.{NullRuns, lowest_runs}
use Rattle.ledger.proofs.Theorems.Settling.{at_most_2t}
use Rattle.ledger.proofs.Theorems.Sizes.{sizes, sizes_of, sizes_kept}

-- answer i + 1 is that of the step for frame i, counted from 0, in the ledger after the frames before it
module _ (c : Config) where
  run_from_answer : (l : Ledger) (fs : List (List ℕ)) (i : ℕ) → i < length fs → get_or (run_from c l fs).1 i [] ≡ (step c (get_or fs i []) (run_from c l (take i fs)).0).answered
  unfolding run_from
  run_from_answer l [] i h = absurd (omega arith)
  run_from_answer l (f ∷ fs) zero h = refl
  run_from_answer l (f ∷ fs) (suc i) h = run_from_answer (step c f l).ledger fs i (omega arith)

  run_from_ledger : (l : Ledger) (fs : List (List ℕ)) (i : ℕ) → i < length fs → (run_from c l (take (suc i) fs)).0 ≡ (step c (get_or fs i []) (run_from c l (take i fs)).0).ledger
  unfolding run_from
  run_from_ledger l [] i h = absurd (omega arith)
  run_from_ledger l (f ∷ fs) zero h = refl
  run_from_ledger l (f ∷ fs) (suc i) h = run_from_ledger (step c f l).ledger fs i (omega arith)

-- ---- the second and the third byte of an answer

pub answer_shows : (n r : ℕ) (l : Ledger) → byte 1 (answer n r l) ≡ running l
unfolding answer
answer_shows n r l = refl

step_shows : (c : Config) (f : List ℕ) (l : Ledger) → byte 1 (step c f l).answered ≡ running (step c f l).ledger
unfolding step
step_shows c f l = cond_both (λ (s : Stepped). byte 1 s.answered ≡ running s.ledger) (eqb (refusal c l f) 0) _ _ (answer_shows 0 _ _) (answer_shows (refusal c l f) 0 l)

step_counts : (c : Config) (f : List ℕ) (l : Ledger) → byte 2 (step c f l).answered ≤ 2 * c.T
unfolding step answer
step_counts c f l = cond_both (λ (s : Stepped). byte 2 s.answered ≤ 2 * c.T) (eqb (refusal c l f) 0) _ _ (at_most_2t c (accept c f l)) (omega arith)

run_shows : (c : Config) (fs : List (List ℕ)) (i : ℕ) → i ≤ length fs → byte 1 (get_or (run c fs).1 i []) ≡ running (run c (take i fs)).0
unfolding run run_from
run_shows c fs zero h = answer_shows 0 0 (fresh c)
run_shows c fs (suc i) h = rw (run_from_answer c (fresh c) fs i h, run_from_ledger c (fresh c) fs i h) (step_shows c (get_or fs i []) _)

-- answer 0 is that to the configuration, answer i that after i frames
pub lowest_shown : (g : List ℕ) → config_refusal g ≡ 0 → (fs : List (List ℕ)) (i : ℕ) → i ≤ length fs
    → let c = config_in g in let l = (run c (take i fs)).0 in let n = byte 1 (get_or (run c fs).1 i []) in TaskRuns c.T l n ⊎ NullRuns c.T l n
unfolding sizes sizes_of
lowest_shown g k fs i h =
    let c = config_in g in
    rw (run_shows c fs i h) (lowest_runs c.T (run c (take i fs)).0 (ap (λ s. s.tasks) (sizes_kept c (take i fs) (configured g k).states)))

pub reissues_shown : (c : Config) (fs : List (List ℕ)) (i : ℕ) → i ≤ length fs → byte 2 (get_or (run c fs).1 i []) ≤ 2 * c.T
unfolding run answer
reissues_shown c fs zero h = omega arith
reissues_shown c fs (suc i) h = rw (run_from_answer c (fresh c) fs i h) (step_counts c (get_or fs i []) _)
