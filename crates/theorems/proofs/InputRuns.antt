-- Runs of the session program's functions on the machine: the blocks of an input, each stored by the host into its one input buffer,
-- go through runs of `feed`, and then comes a run of `finish`, one after the other in one memory.
--     InputRuns       such runs of `feed`. What each printed is the front of the output
--     FinishRuns      the run of `finish` behind them
use Prim.Native.Nat.{ℕ}
use mathlib.Core.Path.{◌≡◌}
use mathlib.Core.List.{List, [], ◌∷◌}
use lib.ListN.{length, take}
use mir.Syntax.{w64}
use mir.Val.{Val, vint}
use prog.Memory as machine
use prog.Machine.{done as ended}
use prog.Routine.{step}
use denote.Slice.{slice_val}
use Rattle.theorems.proofs.World.{environment}
use Rattle.running.specs.Memories.{Loads, LoadsAll}
use Rattle.running.specs.Stores.{Stores}
use Rattle.feeding.specs.declared.Reached.{Reached}
use Rattle.feeding.specs.Feeds.{again, Lent}
use Rattle.feeding.proofs.feed.Symbol as feed-symbol
use Rattle.feeding.proofs.finish.Symbol as finish-symbol
use Rattle.mcx11.specs.Contract.{Sizes}
use Rattle.theorems.proofs.Runs.{lengths_of}
use Rattle.theorems.proofs.OneFeed.{lowered, ProgramPlaces, lent_slices}

pub record LentSizes : Type 0 where
  pub blocks : Sizes
  pub line : ℕ
  pub out : ℕ

abbrev pub lent_sizes : Lent → LentSizes
lent_sizes x = record { blocks = lengths_of x.memory; line = length x.line; out = length x.out }

-- the machine values that both functions are given behind a `Reached`
abbrev lent_arguments : ProgramPlaces → LentSizes → List Val
lent_arguments p z = slice_val p.line z.line ∷ slice_val p.blocks.config z.blocks.config ∷ slice_val p.blocks.tables z.blocks.tables ∷ slice_val p.blocks.slots z.blocks.slots ∷ slice_val p.blocks.timers z.blocks.timers ∷ slice_val p.blocks.answer z.blocks.answer ∷ slice_val p.out z.out ∷ []

abbrev pub feed_arguments : ProgramPlaces → LentSizes → ℕ → Reached → List Val
feed_arguments p z n r = slice_val p.blocks.buffer n ∷ lowered r ∷ lent_arguments p z

abbrev pub finish_arguments : ProgramPlaces → LentSizes → Reached → List Val
finish_arguments p z r = lowered r ∷ lent_arguments p z

-- the machine's memory σ holds x at the places p
pub record LiesLent (p : ProgramPlaces) (z : LentSizes) (σ : machine.Memory) (x : Lent) : Type 0 where
  pub sizes : lent_sizes x ≡ z
  pub loads : LoadsAll σ (lent_slices p x)

-- one block b is fed, from σ to σ': r and r' say how far the input is fed, and x' is what is lent afterwards
pub record FeedRuns (p : ProgramPlaces) (z : LentSizes) (b : List ℕ) (r : Reached) (σ σ' : machine.Memory) (r' : Reached) (x' : Lent) : Type 0 where
  pub between : machine.Memory
  pub stores : Stores p.blocks.buffer.0 p.blocks.buffer.1 b σ between
  pub fuel : ℕ
  pub run : step (environment feed-symbol.name) fuel (feed_arguments p z (length b) (again r)) between ≡ ended (lowered r', σ')
  pub lies : LiesLent p z σ' x'

pub data InputRuns (p : ProgramPlaces) (z : LentSizes) : (σ : machine.Memory) (r : Reached) (x : Lent) (blocks outputs : List (List ℕ)) (σ' : machine.Memory) (r' : Reached) (x' : Lent) → Type 0 where
  none : {σ : machine.Memory} {r : Reached} {x : Lent} → InputRuns p z σ r x [] [] σ r x
  call : {b : List ℕ} {bs outputs : List (List ℕ)} {σ σ₁ σ' : machine.Memory} {r r₁ r' : Reached} {x x₁ x' : Lent}
      → FeedRuns p z b r σ σ₁ r₁ x₁ → InputRuns p z σ₁ r₁ x₁ bs outputs σ' r' x' → InputRuns p z σ r x (b ∷ bs) (take r₁.printed x₁.out ∷ outputs) σ' r' x'

-- the end of the input: so many bytes of the output are printed
pub record FinishRuns (p : ProgramPlaces) (z : LentSizes) (r : Reached) (σ σ' : machine.Memory) (out : List ℕ) (printed : ℕ) : Type 0 where
  pub fuel : ℕ
  pub run : step (environment finish-symbol.name) fuel (finish_arguments p z (again r)) σ ≡ ended (vint w64 printed, σ')
  pub size : length out ≡ z.out
  pub loads : Loads σ' p.out.0 p.out.1 out
