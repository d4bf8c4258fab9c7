-- One call on the machine: from every memory that holds the lent bytes, each of the four entries runs, ends, returns a byte, and leaves
-- bytes of which its contract holds.
--     Executive                     two such routines, with the limits by which their contracts speak
--     the_controller, the_module    `mcx11_configure_blocks` and `mcx11_frame_blocks`; `mcx11_module_configure_blocks` and
--                                   `mcx11_module_frame_blocks`
use mathlib.Core.Path.{refl}
use Prim.Native.Nat.{ℕ}
use mathlib.Core.List.{List, [], ◌∷◌}
use base.Logic.{id⊢}
use prog.Memory as machine
use prog.Routine.{Routine}
use ghost.Model as closed
use contract.BorrowModel.{logic₀}
use contract.Closed.{model⁺}
use denote.Builtin.{u8}
use denote.Triple.Spec.{triple_of}
use denote.Triple.Statement.{Contract}
use Rattle.theorems.proofs.World.{environment, configure_wired, frame_wired, module_configure_wired, module_frame_wired}
use Rattle.running.specs.Slices.{shr, mut, Slice, Ids, LastValues, vals_of, lifetimes_of, shares_of, references_of, passed_of, Rooms}
use Rattle.running.specs.Machine.{Pr, 𝓡₀, 𝓡_in, Cells, ◌∗◌, ◌⊨◌, Enters, asks_nothing, Ran, bytes_at}
use Rattle.running.proofs.Runs.{runs}
use Rattle.ledger.specs.Config.{Limits, controller, brake_module}
use Rattle.configuration.specs.Limits.{Made, controller_made, brake_module_made}
use Rattle.mcx11.specs.Contract.{Memory, memory, Configures, Frames}
use Rattle.mcx11.specs.contracts.entries.mcx11_configure_blocks as configure
use Rattle.mcx11.proofs.entries.mcx11_configure_blocks.Symbol as configure-symbol
use Rattle.mcx11.proofs.entries.mcx11_configure_blocks.Met as configure-met
use Rattle.mcx11.specs.contracts.entries.mcx11_frame_blocks as frame
use Rattle.mcx11.proofs.entries.mcx11_frame_blocks.Symbol as frame-symbol
use Rattle.mcx11.proofs.entries.mcx11_frame_blocks.Met as frame-met
use Rattle.mcx11.specs.contracts.entries.mcx11_module_configure_blocks as module-configure
use Rattle.mcx11.proofs.entries.mcx11_module_configure_blocks.Symbol as module-configure-symbol
use Rattle.mcx11.proofs.entries.mcx11_module_configure_blocks.Met as module-configure-met
use Rattle.mcx11.specs.contracts.entries.mcx11_module_frame_blocks as module-frame
use Rattle.mcx11.proofs.entries.mcx11_module_frame_blocks.Symbol as module-frame-symbol
use Rattle.mcx11.proofs.entries.mcx11_module_frame_blocks.Met as module-frame-met

-- where the host's buffer and the five blocks lie: a block of the machine's memory and an offset in it
pub record Places : Type 0 where
  pub buffer : ℕ × ℕ
  pub config : ℕ × ℕ
  pub tables : ℕ × ℕ
  pub slots : ℕ × ℕ
  pub timers : ℕ × ℕ
  pub answer : ℕ × ℕ

-- the bytes f lie at the buffer's front, and m is what the five blocks hold
module _ (q : Places) (f : List ℕ) (m : Memory) where
  -- ---- a configuration: every block is lent to be written
  abbrev pub configure_slices : List Slice
  configure_slices = bytes_at shr q.buffer f ∷ bytes_at mut q.config m.config ∷ bytes_at mut q.tables m.tables ∷ bytes_at mut q.slots m.slots ∷ bytes_at mut q.timers m.timers ∷ bytes_at mut q.answer m.answer ∷ []

  abbrev pub left_by_configure : LastValues configure_slices → Memory
  left_by_configure ws = memory ws.1.0 ws.1.1.0 ws.1.1.1.0 ws.1.1.1.1.0 ws.1.1.1.1.1.0

  abbrev pub ConfigureSays : Limits → ℕ → LastValues configure_slices → Type 0
  ConfigureSays k r ws = Configures k f m (left_by_configure ws) r

  abbrev pub ConfigureRan : Limits → Routine → Type 2
  ConfigureRan k ρ = Rooms configure_slices → (σ : machine.Memory) (F : Pr) → σ ⊨ Cells configure_slices ∗ F → ∥ Ran ρ (vals_of configure_slices) configure_slices u8 (ConfigureSays k) σ F ∥₁

  -- ---- a frame: the configuration's block is lent to be read only
  abbrev pub frame_slices : List Slice
  frame_slices = bytes_at shr q.buffer f ∷ bytes_at shr q.config m.config ∷ bytes_at mut q.tables m.tables ∷ bytes_at mut q.slots m.slots ∷ bytes_at mut q.timers m.timers ∷ bytes_at mut q.answer m.answer ∷ []

  abbrev pub left_by_frame : LastValues frame_slices → Memory
  left_by_frame ws = memory m.config ws.1.1.0 ws.1.1.1.0 ws.1.1.1.1.0 ws.1.1.1.1.1.0

  abbrev pub FrameSays : Limits → ℕ → LastValues frame_slices → Type 0
  FrameSays k r ws = Frames k f m (left_by_frame ws) r

  abbrev pub FrameRan : Limits → Routine → Type 2
  FrameRan k ρ = Rooms frame_slices → (σ : machine.Memory) (F : Pr) → σ ⊨ Cells frame_slices ∗ F → ∥ Ran ρ (vals_of frame_slices) frame_slices u8 (FrameSays k) σ F ∥₁

-- an executive: its limits, its two routines, and that each call of them runs as its contract says
pub record Executive : Type 2 where
  pub limits : Limits
  pub made : Made limits
  pub configure : Routine
  pub frame : Routine
  pub configures : (q : Places) (f : List ℕ) (m : Memory) → ConfigureRan q f m limits configure
  pub frames : (q : Places) (f : List ℕ) (m : Memory) → FrameRan q f m limits frame

-- ---- the_controller: its two contracts at the closed model, and their runs
abbrev configure_contract : Contract closed.𝓤
configure_contract = triple_of logic₀ configure.signature (configure.spec logic₀ model⁺.mem 𝓡₀.returns)

abbrev frame_contract : Contract closed.𝓤
frame_contract = triple_of logic₀ frame.signature (frame.spec logic₀ model⁺.mem 𝓡₀.returns)

module _ (q : Places) (x : List ℕ) (m : Memory) where
  abbrev configure_bound : Ids (configure_slices q x m) → configure_contract.Ghost
  configure_bound i = let L = configure_slices q x m in ((lifetimes_of L i, shares_of L, tt, references_of L i, passed_of L), tt)

  abbrev frame_bound : Ids (frame_slices q x m) → frame_contract.Ghost
  frame_bound i = let L = frame_slices q x m in ((lifetimes_of L i, shares_of L, tt, references_of L i, passed_of L), tt)

abbrev pub the_controller : Executive
the_controller =
    record {
      limits = controller;
      made = controller_made;
      configure = (environment configure-symbol.name);
      frame = (environment frame-symbol.name);
      configures = λ q x m.
          let L = configure_slices q x m in
          runs (environment configure-symbol.name) configure_contract (configure-met.met closed.𝓤 logic₀ model⁺ (𝓡_in environment) configure_wired) L u8 (configure_bound q x m) (vals_of L) (λ i. refl)
          (λ i. asks_nothing (Enters L u8 i)) (ConfigureSays q x m controller) (λ i v. id⊢ closed.𝓤 (configure_contract.post (configure_bound q x m i) v));
      frames = λ q x m.
          let L = frame_slices q x m in
          runs (environment frame-symbol.name) frame_contract (frame-met.met closed.𝓤 logic₀ model⁺ (𝓡_in environment) frame_wired) L u8 (frame_bound q x m) (vals_of L) (λ i. refl)
          (λ i. asks_nothing (Enters L u8 i)) (FrameSays q x m controller) (λ i v. id⊢ closed.𝓤 (frame_contract.post (frame_bound q x m i) v));
    }

-- ---- the_module: its two contracts at the closed model, and their runs
abbrev module_configure_contract : Contract closed.𝓤
module_configure_contract = triple_of logic₀ module-configure.signature (module-configure.spec logic₀ model⁺.mem 𝓡₀.returns)

abbrev module_frame_contract : Contract closed.𝓤
module_frame_contract = triple_of logic₀ module-frame.signature (module-frame.spec logic₀ model⁺.mem 𝓡₀.returns)

module _ (q : Places) (x : List ℕ) (m : Memory) where
  abbrev module_configure_bound : Ids (configure_slices q x m) → module_configure_contract.Ghost
  module_configure_bound i = let L = configure_slices q x m in ((lifetimes_of L i, shares_of L, tt, references_of L i, passed_of L), tt)

  abbrev module_frame_bound : Ids (frame_slices q x m) → module_frame_contract.Ghost
  module_frame_bound i = let L = frame_slices q x m in ((lifetimes_of L i, shares_of L, tt, references_of L i, passed_of L), tt)

abbrev pub the_module : Executive
the_module =
    record {
      limits = brake_module;
      made = brake_module_made;
      configure = (environment module-configure-symbol.name);
      frame = (environment module-frame-symbol.name);
      configures = λ q x m.
          let L = configure_slices q x m in
          runs (environment module-configure-symbol.name) module_configure_contract (module-configure-met.met closed.𝓤 logic₀ model⁺ (𝓡_in environment) module_configure_wired) L u8 (module_configure_bound q x m) (vals_of L) (λ i. refl)
          (λ i. asks_nothing (Enters L u8 i)) (ConfigureSays q x m brake_module) (λ i v. id⊢ closed.𝓤 (module_configure_contract.post (module_configure_bound q x m i) v));
      frames = λ q x m.
          let L = frame_slices q x m in
          runs (environment module-frame-symbol.name) module_frame_contract (module-frame-met.met closed.𝓤 logic₀ model⁺ (𝓡_in environment) module_frame_wired) L u8 (module_frame_bound q x m) (vals_of L) (λ i. refl)
          (λ i. asks_nothing (Enters L u8 i)) (FrameSays q x m brake_module) (λ i v. id⊢ closed.𝓤 (module_frame_contract.post (module_frame_bound q x m i) v));
    }
