-- The ride controller and the brake module on the machine, by name.
--     controller_runs, module_runs                a configuration that it accepts and a list of frames have runs
--     controller_every_run, module_every_run      and every such runs are as demand 3 says
--     runs_alike                                  a configuration that both accept: every runs of the one give the answers and the numbers
--                                                 of every runs of the other, each from a memory of its own
--     both_run                                    and there are such: two tasks, and any frames of at most 326 bytes
use Prim.Native.Nat.{ℕ, zero, suc, ◌<◌, ◌^◌}
use mathlib.Core.Path.{◌≡◌, sym, ◌∙◌, subst}
use mathlib.Core.Bool.{true}
use mathlib.Core.List.{List, []}
use native.Mathlib.Omega.{arith}
use lib.ListN.{length, replicate, length-replicate}
use mir.Syntax.{w8}
use prog.Memory as machine
use prog.Model.{AllFit}
use Rattle.ledger.specs.Config.{Limits, controller, brake_module, longest, config_refusal_by}
use Rattle.ledger.specs.Shams.{two_tasks, the_answers}
use Rattle.ledger.proofs.Theorems.Parts.{Every}
use Rattle.configuration.specs.Limits.{Made}
use Rattle.mcx11.specs.Contract.{Memory, memory, sizes_of, full_size}
use Rattle.mcx11.specs.Sizes.{sizes_full}
use Rattle.theorems.proofs.OneCall.{Executive, the_controller, the_module}
use Rattle.theorems.proofs.Runs.{lengths_of, SessionRuns, FitsBuffer}
use Rattle.theorems.proofs.SessionStart.{AsTheLedger, Lendable, SessionStarts, session_start, places_of}
use Rattle.theorems.proofs.EveryRun.{SessionRan, Asks, runs, every_run, every_answer, every_number}

pub controller_runs : {g : List ℕ} {fs : List (List ℕ)} {m : Memory} {buffer others : List ℕ} → Asks the_controller m buffer others g fs → ∥ SessionRan the_controller m buffer others g fs ∥₁
controller_runs = runs the_controller

pub controller_every_run : {g : List ℕ} {fs : List (List ℕ)} {m : Memory} {buffer others : List ℕ} → Asks the_controller m buffer others g fs
    → {answers : List (List ℕ)} {numbers : List ℕ} {last : machine.Memory} {m' : Memory} → SessionRuns the_controller (places_of m) (lengths_of m) (session_start m buffer others) g fs answers numbers last m'
    → ∥ AsTheLedger the_controller.limits m buffer others g fs answers numbers last m' ∥₁
controller_every_run = every_run the_controller

pub module_runs : {g : List ℕ} {fs : List (List ℕ)} {m : Memory} {buffer others : List ℕ} → Asks the_module m buffer others g fs → ∥ SessionRan the_module m buffer others g fs ∥₁
module_runs = runs the_module

pub module_every_run : {g : List ℕ} {fs : List (List ℕ)} {m : Memory} {buffer others : List ℕ} → Asks the_module m buffer others g fs
    → {answers : List (List ℕ)} {numbers : List ℕ} {last : machine.Memory} {m' : Memory} → SessionRuns the_module (places_of m) (lengths_of m) (session_start m buffer others) g fs answers numbers last m'
    → ∥ AsTheLedger the_module.limits m buffer others g fs answers numbers last m' ∥₁
module_every_run = every_run the_module

pub runs_alike : {g : List ℕ} {fs : List (List ℕ)} {m n : Memory} {buffer₁ others₁ buffer₂ others₂ : List ℕ} → Asks the_controller m buffer₁ others₁ g fs → Asks the_module n buffer₂ others₂ g fs
    → {answers₁ answers₂ : List (List ℕ)} {numbers₁ numbers₂ : List ℕ} {last₁ last₂ : machine.Memory} {m' n' : Memory}
    → SessionRuns the_controller (places_of m) (lengths_of m) (session_start m buffer₁ others₁) g fs answers₁ numbers₁ last₁ m'
    → SessionRuns the_module (places_of n) (lengths_of n) (session_start n buffer₂ others₂) g fs answers₂ numbers₂ last₂ n'
    → (answers₁ ≡ answers₂) × (numbers₁ ≡ numbers₂)
runs_alike a b r t = (every_answer the_controller a r ∙ sym (every_answer the_module b t), every_number the_controller a r ∙ sym (every_number the_module b t))

-- ---- there are such runs: from memory whose bytes are all 0, with the sizes of the blocks, and a buffer of n bytes

abbrev pub zeros : ℕ → List ℕ
zeros n = replicate n 0

abbrev pub blank : Limits → Memory
blank k = let n = sizes_of k in memory (zeros n.config) (zeros n.tables) (zeros n.slots) (zeros n.timers) (zeros n.answer)

length_zeros : (n : ℕ) → length (zeros n) ≡ n
length_zeros n = length-replicate n 0

zeros_fit : (n : ℕ) → AllFit w8 (zeros n)
zeros_fit zero = tt
zeros_fit (suc n) = (omega arith, zeros_fit n)

lent_zeros : (n : ℕ) → n < 2 ^ 63 → Lendable (zeros n)
lent_zeros n h = record { bytes = zeros_fit n; size = omega (arith, h, length_zeros n) }

module _ (k : Limits) (made : Made k) where
  blank_starts : (n : ℕ) → n < 2 ^ 63 → SessionStarts (blank k) (zeros n) []
  unfolding sizes_of
  blank_starts n h =
      let t = made.tasks in
      let q = made.queues in
      let r = made.timers in
      let g = made.messages in
      let b = made.bytes in
      record {
        config = lent_zeros (sizes_of k).config (omega arith);
        tables = lent_zeros (sizes_of k).tables (omega arith);
        slots = lent_zeros (sizes_of k).slots (omega arith);
        timers = lent_zeros (sizes_of k).timers (omega arith);
        answer = lent_zeros (sizes_of k).answer (omega arith);
        buffer = lent_zeros n h;
        others = tt;
      }

  blank_full : full_size k (blank k) ≡ true
  unfolding sizes_of
  blank_full =
      sizes_full k (blank k) (record {
        config = omega (arith, length_zeros (sizes_of k).config);
        tables = omega (arith, length_zeros (sizes_of k).tables);
        slots = omega (arith, length_zeros (sizes_of k).slots);
        timers = omega (arith, length_zeros (sizes_of k).timers);
        answer = omega (arith, length_zeros (sizes_of k).answer);
      })

-- a buffer for the longest frame
abbrev pub buffer : List ℕ
buffer = zeros (longest controller)

two_fit : FitsBuffer (longest controller) two_tasks
two_fit = record {
  bytes = (omega arith, (omega arith, (omega arith, (omega arith, (omega arith, (omega arith, (omega arith, (omega arith, (omega arith, (omega arith, (omega arith, (omega arith, tt))))))))))));
  size = omega arith;
}

blank_asks : (x : Executive) → config_refusal_by x.limits two_tasks ≡ 0 → {fs : List (List ℕ)} → Every (FitsBuffer (longest controller)) fs → Asks x (blank x.limits) buffer [] two_tasks fs
blank_asks x h {fs} small =
    let e = sym (length_zeros (longest controller)) in
    record {
      starts = blank_starts x.limits x.made (longest controller) (omega arith);
      full = blank_full x.limits x.made;
      accepted = h;
      configuration = subst (λ (n : ℕ). FitsBuffer n two_tasks) e two_fit;
      frames = subst (λ (n : ℕ). Every (FitsBuffer n) fs) e small;
    }

pub both_run : {fs : List (List ℕ)} → Every (FitsBuffer (longest controller)) fs
    → ∥ SessionRan the_controller (blank controller) buffer [] two_tasks fs ∥₁ × ∥ SessionRan the_module (blank brake_module) buffer [] two_tasks fs ∥₁
both_run fs = (runs the_controller (blank_asks the_controller the_answers.accepted.0 fs), runs the_module (blank_asks the_module the_answers.accepted.1 fs))
