-- DEMAND 3 ON THE MACHINE, of an executive x, the ride controller's or the brake module's. A run begins with a memory that holds the five
-- blocks, the host's buffer and any other bytes, side by side, whatever they are.
--     runs           from there a configuration and a list of frames have runs, one after the other, as demand 3 says
--     every_run      and every such runs are as demand 3 says: the machine has one run from one memory
--     every_answer, every_number           its first two parts, as plain equations
--     run_every_turn                       nor does a timer miss a turn in what a host sees of them
--     every_frame, every_configuration     one call, whatever the blocks hold and however large they are: it is as its contract
--                                          says
use Prim.Native.Nat.{ℕ}
use mathlib.Core.Path.{◌≡◌, refl, subst}
use mathlib.Core.Logic.{∥∥₁_prop, ∥∥₁_elim, ∥∥₁_map}
use mathlib.Core.Bool.{true}
use mathlib.Core.HLevel.{hedberg}
use mathlib.Core.List.{List, ◌∷◌, is_set}
use native.Mathlib.Decide.{ℕ_discrete}
use lib.ListN.{length}
use base.Logic.{emp}
use prog.Memory as machine
use ghost.Model as closed
use Rattle.running.specs.Memories.{Loads}
use Rattle.running.specs.Machine.{Cells, ◌∗◌}
use Rattle.ledger.specs.Config.{Config, config_in, config_refusal_by}
use Rattle.ledger.specs.Session as ledger
use Rattle.ledger.proofs.Theorems.Parts.{Every}
use Rattle.mcx11.specs.Contract.{Memory, full_size, Configures, Frames}
use Rattle.mcx11.specs.Answer.{answer_of}
use Rattle.theorems.specs.Numbers as refused
use Rattle.theorems.specs.Calls.{FrameCalls, seen}
use Rattle.theorems.specs.Same.{every_list}
use Rattle.theorems.specs.TurnsKept.{TurnsKept}
use Rattle.theorems.proofs.TurnsKept.{turns_kept}
use Rattle.theorems.proofs.OneCall.{Executive}
use Rattle.theorems.proofs.Runs.{lengths_of, ConfigureRuns, FrameRuns, SessionRuns, session, seen_session, FitsBuffer, feeds}
use Rattle.theorems.proofs.SessionStart.{SessionStarts, AsTheLedger, session_start, places_of, others_at, others, rooms, frame_runs_from, configure_runs_from}
use Rattle.theorems.proofs.CallOneRun.{known}
use Rattle.theorems.proofs.RunCalls.{run_calls}

-- ---- there are runs

pub record SessionRan (x : Executive) (m : Memory) (buffer others g : List ℕ) (fs : List (List ℕ)) : Type 0 where
  pub answers : List (List ℕ)
  pub numbers : List ℕ
  pub last : machine.Memory
  pub memory : Memory
  pub runs : SessionRuns x (places_of m) (lengths_of m) (session_start m buffer others) g fs answers numbers last memory
  pub says : AsTheLedger x.limits m buffer others g fs answers numbers last memory

pub bytes_set : IsSet (List ℕ)
bytes_set = is_set (hedberg ℕ_discrete)

-- what every session asks: the blocks have their sizes, the configuration is accepted, and the buffer has room for each frame
pub record Asks (x : Executive) (m : Memory) (buffer others g : List ℕ) (fs : List (List ℕ)) : Type 0 where
  pub starts : SessionStarts m buffer others
  pub full : full_size x.limits m ≡ true
  pub accepted : config_refusal_by x.limits g ≡ 0
  pub configuration : FitsBuffer (length buffer) g
  pub frames : Every (FitsBuffer (length buffer)) fs

module _ (x : Executive) where
  -- ---- so what demand 3 says holds of every one

  -- the calls of a session's runs, with what the configuration's contract says
  record SessionCalls (m : Memory) (d o g : List ℕ) {fs answers : List (List ℕ)} {numbers : List ℕ} {last : machine.Memory} {m' : Memory}
      (runs : SessionRuns x (places_of m) (lengths_of m) (session_start m d o) g fs answers numbers last m') : Type 0 where
    begun : Memory
    result : ℕ
    rest : List (List ℕ)
    returned : List ℕ
    all_answers : answers ≡ answer_of begun ∷ rest
    all_numbers : numbers ≡ result ∷ returned
    configures : Configures x.limits g m begun result
    calls : FrameCalls x.limits begun fs rest returned m'
    sees : (c : Config) → seen c calls ≡ seen_session c runs
    others : Loads last 0 (others_at m d) o

  session_calls : {g : List ℕ} {fs : List (List ℕ)} {m : Memory} {buffer others : List ℕ} → Asks x m buffer others g fs
      → {answers : List (List ℕ)} {numbers : List ℕ} {last : machine.Memory} {m' : Memory} (r : SessionRuns x (places_of m) (lengths_of m) (session_start m buffer others) g fs answers numbers last m')
      → ∥ SessionCalls m buffer others g r ∥₁
  unfolding seen_session
  session_calls {g} {fs} {m} {buffer = d} {others = o} a (session {σ₁ = σ₁} {m₁ = m₁} {r = r} {answers = xs} {numbers = rs} c more) =
      let b = a.starts in
      ∥∥₁_elim (configure_runs_from m d o b x a.configuration) ∥∥₁_prop (λ k.
      let w = known k c in
      ∥∥₁_map (run_calls x (places_of m) (lengths_of m) (rooms m d o b) (length d) b.buffer.size (others m d o b) (emp closed.𝓤) a.frames m₁ c.lies.sizes k.buffer k.size σ₁ w.holds more) (λ t.
      record { begun = m₁; result = r; rest = xs; returned = rs; all_answers = refl; all_numbers = refl; configures = w.says; calls = t.calls; sees = t.seen; others = t.others.0 }))

  pub every_run : {g : List ℕ} {fs : List (List ℕ)} {m : Memory} {buffer others : List ℕ} → Asks x m buffer others g fs
      → {answers : List (List ℕ)} {numbers : List ℕ} {last : machine.Memory} {m' : Memory} → SessionRuns x (places_of m) (lengths_of m) (session_start m buffer others) g fs answers numbers last m'
      → ∥ AsTheLedger x.limits m buffer others g fs answers numbers last m' ∥₁
  every_run a r = ∥∥₁_map (session_calls a r) (λ k. rw (k.all_answers, k.all_numbers) (record { same = every_list x.made a.accepted a.full k.configures k.calls; others = k.others }))

  pub runs : {g : List ℕ} {fs : List (List ℕ)} {m : Memory} {buffer others : List ℕ} → Asks x m buffer others g fs → ∥ SessionRan x m buffer others g fs ∥₁
  runs {g} {fs} {m} {buffer = d} {others = o} a =
      let b = a.starts in
      ∥∥₁_elim (configure_runs_from m d o b x a.configuration) ∥∥₁_prop (λ k.
      ∥∥₁_elim (feeds x (places_of m) (lengths_of m) (rooms m d o b) (length d) b.buffer.size a.frames k.memory k.runs.lies.sizes k.buffer k.size k.last (Cells (others m d o b) ∗ emp closed.𝓤) k.holds) ∥∥₁_prop (λ t.
      let r = session k.runs t.runs in
      ∥∥₁_map (every_run a r) (λ w. record { answers = answer_of k.memory ∷ t.answers; numbers = k.result ∷ t.numbers; last = t.last; memory = t.memory; runs = r; says = w })))

  -- and no timer misses a turn
  pub run_every_turn : {g : List ℕ} {fs : List (List ℕ)} {m : Memory} {buffer others : List ℕ} → Asks x m buffer others g fs
      → {answers : List (List ℕ)} {numbers : List ℕ} {last : machine.Memory} {m' : Memory} (r : SessionRuns x (places_of m) (lengths_of m) (session_start m buffer others) g fs answers numbers last m')
      → ∥ TurnsKept (config_in g) (seen_session (config_in g) r) ∥₁
  run_every_turn {g} a r = ∥∥₁_map (session_calls a r) (λ k. subst (TurnsKept (config_in g)) (k.sees (config_in g)) (turns_kept x.made a.accepted a.full k.configures k.calls))

  -- the answers and the numbers, as plain equations
  pub every_answer : {g : List ℕ} {fs : List (List ℕ)} {m : Memory} {buffer others : List ℕ} → Asks x m buffer others g fs
      → {answers : List (List ℕ)} {numbers : List ℕ} {last : machine.Memory} {m' : Memory} → SessionRuns x (places_of m) (lengths_of m) (session_start m buffer others) g fs answers numbers last m'
      → answers ≡ ledger.session g fs
  every_answer {g} {fs} a {answers} r = ∥∥₁_elim (every_run a r) (is_set bytes_set answers (ledger.session g fs)) (λ k. k.same.answers)

  pub every_number : {g : List ℕ} {fs : List (List ℕ)} {m : Memory} {buffer others : List ℕ} → Asks x m buffer others g fs
      → {answers : List (List ℕ)} {numbers : List ℕ} {last : machine.Memory} {m' : Memory} → SessionRuns x (places_of m) (lengths_of m) (session_start m buffer others) g fs answers numbers last m'
      → numbers ≡ refused.numbers (config_in g) fs
  every_number {g} {fs} a {numbers = numbers} r = ∥∥₁_elim (every_run a r) (bytes_set numbers (refused.numbers (config_in g) fs)) (λ k. k.same.numbers)

  -- ---- one call, whatever the blocks hold
  pub every_frame : {f : List ℕ} {m : Memory} {buffer others : List ℕ} → SessionStarts m buffer others → FitsBuffer (length buffer) f
      → {last : machine.Memory} {m' : Memory} {r : ℕ} → FrameRuns x (places_of m) (lengths_of m) f (session_start m buffer others) last m' r → ∥ Frames x.limits f m m' r ∥₁
  every_frame {m = m} {buffer = d} {others = o} b l c = ∥∥₁_map (frame_runs_from m d o b x l) (λ k. (known k c).says)

  pub every_configuration : {g : List ℕ} {m : Memory} {buffer others : List ℕ} → SessionStarts m buffer others → FitsBuffer (length buffer) g
      → {last : machine.Memory} {m' : Memory} {r : ℕ} → ConfigureRuns x (places_of m) (lengths_of m) g (session_start m buffer others) last m' r → ∥ Configures x.limits g m m' r ∥₁
  every_configuration {m = m} {buffer = d} {others = o} b l c = ∥∥₁_map (configure_runs_from m d o b x l) (λ k. (known k c).says)
