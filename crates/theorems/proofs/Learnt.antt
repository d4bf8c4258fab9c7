-- One call of an exported function, as the checker says it: what a caller of `mcx11_configure_blocks`, of `mcx11_frame_blocks` and of the module's own learns.
--     ConfigureCall, FrameCall                     a call for a configuration, for a frame, on the ride controller
--     ModuleConfigureCall, ModuleFrameCall         on the brake module
--     FrameCalls, ModuleFrameCalls                 a list of calls, each lent the memory as the call before it left it
use Prim.Native.Nat.{ℕ}
use mathlib.Core.Path.{◌≡◌}
use mathlib.Core.List.{List}
use contract.Lifetimes.{Lfts}
use borrow.Fn.World.{ArgsD, ResD}
use borrow.Fn.Kinds.{ended_of}
use denote.Triple.Clauses.{Lasts, at_exit}
use Rattle.mcx11.specs.Contract.{Memory, memory}
use Rattle.theorems.specs.Calls.{Calls}
use Rattle.mcx11.specs.contracts.entries.mcx11_configure_blocks as configure
use Rattle.mcx11.proofs.entries.mcx11_configure_blocks.Kinds as configure-kinds
use Rattle.mcx11.proofs.entries.mcx11_configure_blocks.Reads as configure-reads
use Rattle.mcx11.specs.contracts.entries.mcx11_frame_blocks as frame
use Rattle.mcx11.proofs.entries.mcx11_frame_blocks.Kinds as frame-kinds
use Rattle.mcx11.proofs.entries.mcx11_frame_blocks.Reads as frame-reads
use Rattle.mcx11.proofs.entries.mcx11_module_configure_blocks.Reads as module-configure-reads
use Rattle.mcx11.proofs.entries.mcx11_module_frame_blocks.Reads as module-frame-reads

-- ---- one call. The module's functions have the parameters of the controller's

-- what a caller learns of the arguments x, the result n and the last values w of the `&mut` slices
abbrev pub ConfigureLearnt : Type 1
ConfigureLearnt = (κs : Lfts 6) (x : ArgsD configure.signature κs) (n : ResD configure.signature κs) → Lasts (ended_of 6 configure-kinds.ps configure-kinds.r) κs x → Type 0

abbrev pub FrameLearnt : Type 1
FrameLearnt = (κs : Lfts 6) (x : ArgsD frame.signature κs) (n : ResD frame.signature κs) → Lasts (ended_of 6 frame-kinds.ps frame-kinds.r) κs x → Type 0

-- One call for a configuration with the bytes g, lent the memory m and leaving m', that returned r
pub record ConfigureCallOf (L : ConfigureLearnt) (g : List ℕ) (m m' : Memory) (r : ℕ) : Type 0 where
  pub κs : Lfts 6
  pub x : ArgsD configure.signature κs
  pub n : ResD configure.signature κs
  pub w : Lasts (ended_of 6 configure-kinds.ps configure-kinds.r) κs x
  pub learnt : L κs x n w
  pub bytes : x.0.now ≡ g
  pub before : memory x.1.0.now x.1.1.0.now x.1.1.1.0.now x.1.1.1.1.0.now x.1.1.1.1.1.0.now ≡ m
  pub after : memory w.1.0 w.1.1.0 w.1.1.1.0 w.1.1.1.1.0 w.1.1.1.1.1.0 ≡ m'
  pub number : n ≡ r

-- One call for a frame with the bytes f. The configuration's block is lent to be read only
pub record FrameCallOf (L : FrameLearnt) (f : List ℕ) (m m' : Memory) (r : ℕ) : Type 0 where
  pub κs : Lfts 6
  pub x : ArgsD frame.signature κs
  pub n : ResD frame.signature κs
  pub w : Lasts (ended_of 6 frame-kinds.ps frame-kinds.r) κs x
  pub learnt : L κs x n w
  pub bytes : x.0.now ≡ f
  pub before : memory x.1.0.now x.1.1.0.now x.1.1.1.0.now x.1.1.1.1.0.now x.1.1.1.1.1.0.now ≡ m
  pub after : memory x.1.0.now w.1.1.0 w.1.1.1.0 w.1.1.1.1.0 w.1.1.1.1.1.0 ≡ m'
  pub number : n ≡ r

-- A list of such calls, each lent the memory as the call before it left it, with their answers and numbers
abbrev pub FrameCallsOf : FrameLearnt → (m : Memory) (frames answers : List (List ℕ)) (numbers : List ℕ) (m' : Memory) → Type 0
FrameCallsOf L = Calls (FrameCallOf L)

-- ---- the ride controller

abbrev pub configure_learnt : ConfigureLearnt
configure_learnt κs x n w = configure-reads.Learnt κs x n (at_exit (ended_of 6 configure-kinds.ps configure-kinds.r) κs x w)

abbrev pub frame_learnt : FrameLearnt
frame_learnt κs x n w = frame-reads.Learnt κs x n (at_exit (ended_of 6 frame-kinds.ps frame-kinds.r) κs x w)

abbrev pub ConfigureCall : (g : List ℕ) (m m' : Memory) (r : ℕ) → Type 0
ConfigureCall = ConfigureCallOf configure_learnt

abbrev pub FrameCall : (f : List ℕ) (m m' : Memory) (r : ℕ) → Type 0
FrameCall = FrameCallOf frame_learnt

abbrev pub FrameCalls : (m : Memory) (frames answers : List (List ℕ)) (numbers : List ℕ) (m' : Memory) → Type 0
FrameCalls = FrameCallsOf frame_learnt

-- ---- the brake module

abbrev pub module_configure_learnt : ConfigureLearnt
module_configure_learnt κs x n w = module-configure-reads.Learnt κs x n (at_exit (ended_of 6 configure-kinds.ps configure-kinds.r) κs x w)

abbrev pub module_frame_learnt : FrameLearnt
module_frame_learnt κs x n w = module-frame-reads.Learnt κs x n (at_exit (ended_of 6 frame-kinds.ps frame-kinds.r) κs x w)

abbrev pub ModuleConfigureCall : (g : List ℕ) (m m' : Memory) (r : ℕ) → Type 0
ModuleConfigureCall = ConfigureCallOf module_configure_learnt

abbrev pub ModuleFrameCall : (f : List ℕ) (m m' : Memory) (r : ℕ) → Type 0
ModuleFrameCall = FrameCallOf module_frame_learnt

abbrev pub ModuleFrameCalls : (m : Memory) (frames answers : List (List ℕ)) (numbers : List ℕ) (m' : Memory) → Type 0
ModuleFrameCalls = FrameCallsOf module_frame_learnt
