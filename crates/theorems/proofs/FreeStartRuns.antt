-- The free start on the machine: from every memory into which a host has stored its timers and a start, each in a block of its own, the
-- call has a run, and every run returns and leaves in the start what document 02's W11 asks, and the timers and all else as they were.
use Prim.Native.Nat.{ℕ, ◌*◌, ◌<◌, ◌^◌}
use mathlib.Core.Path.{◌≡◌, refl, ap}
use mathlib.Core.Logic.{∥∥₁_map}
use mathlib.Core.Option.{some as just}
use mathlib.Core.List.{List, [], ◌∷◌, map}
use native.Mathlib.Omega.{arith}
use lib.ListN.{length}
use mir.Syntax.{w8, w32, Ty, ty_int, ty_array}
use mir.Val.{Val, vint, vptr, vstruct, vnil, vcons}
use base.Logic.{id⊢}
use prog.Memory as machine
use prog.Memory.{size, load_m, store_m, alloc_m}
use prog.Machine.{done as ended}
use prog.Routine.{step}
use prog.Model.{AllFit}
use prog.AdequacyRun.{start_mem}
use ghost.Model as closed
use contract.BorrowModel.{logic₀}
use contract.Closed.{model⁺}
use denote.Builtin.{u8}
use denote.Slice.{slice_val}
use denote.Steps.{only}
use denote.Struct.Laws as laws
use denote.Triple.Spec.{triple_of}
use Rattle.theorems.proofs.World.{environment, free_start_wired}
use Rattle.running.specs.Memories.{Loads}
use Rattle.running.specs.Machine.{𝓡₀, 𝓡_in, asks_nothing}
use Rattle.running.specs.Rows.{StoresRow, LoadsRow}
use Rattle.running.specs.Loans.{AllAre}
use Rattle.running.specs.Lent.{Param, value, lent, number, list, Fits, LastValues, lifetimes_of, shares_of, values_of, passed_of, Enters}
use Rattle.running.specs.Hosts.{Hosts, Call, hosts, runs, every_run}
use Rattle.starts.specs.Starts.{Leaves}
use Rattle.starts.specs.declared.Cycle.{Cycle}
use Rattle.starts.specs.contracts.Cycle as C
use Rattle.starts.proofs.Cycle.TheLaws as C'
use Rattle.mcx11.specs.contracts.mcx11_free_start as free-start
use Rattle.mcx11.proofs.mcx11_free_start.Symbol as free-start-symbol
use Rattle.mcx11.proofs.mcx11_free_start.Met as free-start-met

-- ---- the host's memory

-- a timer as the machine has it: its type, of 8 bytes, and its value
abbrev pub TIMER : Ty
TIMER = C'.mir

pub eight_bytes : size TIMER ≡ 8
eight_bytes = refl

abbrev pub timer_val : Cycle → Val
timer_val t = vstruct (vcons (vint w32 t.start) (vcons (vint w32 t.period) vnil))

-- the timers are stored from the offset o on in block b, one by one; they are what the machine loads from there
abbrev pub StoresTimers : (b o : ℕ) → List Cycle → (σ σ' : machine.Memory) → Type 0
StoresTimers b o ts σ σ' = StoresRow TIMER b o (map timer_val ts) σ σ'

abbrev pub LoadsTimers : machine.Memory → (b o : ℕ) → List Cycle → Type 0
LoadsTimers σ b o ts = LoadsRow σ TIMER b o (map timer_val ts)

-- the fields of each timer fit their types
abbrev pub TimersFit : List Cycle → Type 0
TimersFit [] = Unit {0}
TimersFit (t ∷ ts) = ((t.start < 2 ^ 32) × (t.period < 2 ^ 32)) × TimersFit ts

-- what a host can hold: timers ts of at most 2^63 - 1 bytes, a start s, and other bytes o
pub record Holdable (ts : List Cycle) (s : ℕ) (o : List ℕ) : Type 0 where
  pub timers : TimersFit ts
  pub size : length ts * 8 < 2 ^ 63
  pub start : s < 2 ^ 32
  pub others : AllFit w8 o

-- before anything is stored: the other bytes in block 0, none in block 1, and room for the timers in block 2, for a start in 3
abbrev pub host_blocks : List Cycle → List ℕ → machine.Memory
host_blocks ts o = alloc_m (alloc_m (start_mem o []) (ty_array TIMER (length ts))) (ty_int w32)

-- σ comes about so: the host stores its timers, then what the start holds before the call
pub record HostMemory (ts : List Cycle) (s : ℕ) (o : List ℕ) (σ : machine.Memory) : Type 0 where
  pub filled : machine.Memory
  pub timers : StoresTimers 2 0 ts (host_blocks ts o) filled
  pub start : store_m filled (ty_int w32) 3 0 (vint w32 s) ≡ just σ

-- ---- a run, and what it did

-- the call is passed the timers, the period p, and where the start is
abbrev pub passed : ℕ → List Cycle → List Val
passed p ts = slice_val (2, 0) (length ts) ∷ vint w32 p ∷ vptr 3 0 ∷ []

-- a run that ended with the value v and the memory `last`
abbrev pub FreeStartRuns : ℕ → List Cycle → machine.Memory → Val → machine.Memory → Type 0
FreeStartRuns p ts σ v last = (fuel : ℕ) × (step (environment free-start-symbol.name) fuel (passed p ts) σ ≡ ended (v, last))

pub record FreeStartDone (ts : List Cycle) (p s : ℕ) (o : List ℕ) (v : Val) (last : machine.Memory) : Type 0 where
  pub r : ℕ
  pub start' : ℕ
  pub value : v ≡ vint w8 r
  pub start : load_m last (ty_int w32) 3 0 ≡ just (vint w32 start')
  pub leaves : Leaves ts p s start' r
  pub timers : LoadsTimers last 2 0 ts
  pub others : Loads last 0 0 o

-- ---- the call: its parameters are the timers, the period and the start
abbrev params : List Cycle → (p s : ℕ) → List Param
params ts p s = lent (list C.the_type C'.the_laws C'.the_plain C'.the_copy ts) ∷ value w32 p ∷ lent (number w32 s) ∷ []

abbrev Says : (ts : List Cycle) (p s : ℕ) → ℕ → LastValues (params ts p s) → Type 0
Says ts p s r ws = Leaves ts p s ws.1.1.0 r

call : (ts : List Cycle) (p s : ℕ) → Call (environment free-start-symbol.name) (passed p ts) (params ts p s) u8 (Says ts p s)
call ts p s =
    let L : List Param = params ts p s in
    record {
      contract = triple_of logic₀ free-start.signature (free-start.spec logic₀ model⁺.mem 𝓡₀.returns);
      met = free-start-met.met closed.𝓤 logic₀ model⁺ (𝓡_in environment) free_start_wired;
      bound = λ i. ((lifetimes_of L i, shares_of L, tt, values_of 0 L i, passed_of 0 L i), tt);
      passes = λ i. refl;
      enters = λ i. asks_nothing (Enters L u8 i);
      leaves = λ i v. id⊢ closed.𝓤 _;
    }

all_are : (ts : List Cycle) → TimersFit ts → AllAre C.the_type C'.the_laws C'.the_plain C'.the_copy ts
all_are [] f = tt
all_are (t ∷ ts) f = (laws.owes C.the_type C'.the_laws t ((refl, f.0.0), ((refl, f.0.1), tt)), all_are ts f.1)

module _ {ts : List Cycle} {s : ℕ} {o : List ℕ} (h : Holdable ts s o) where
  fits : (p : ℕ) → p < 2 ^ 32 → Fits (params ts p s)
  fits p hp = ((all_are ts h.timers, (omega (arith, h.size), h.size)), (hp, (h.start, tt)))

  -- there is such a memory: no period is in it
  pub host_memory : ∥ ((σ : machine.Memory) × HostMemory ts s o σ) ∥₁
  host_memory =
      ∥∥₁_map (hosts (params ts 0 s) o (fits 0 (omega arith)) h.others) (λ k.
      let m = k.1 in
      (m.2.0, record { filled = m.0; timers = m.1; start = m.2.1 }))

-- ---- the runs
module _ {ts : List Cycle} {s : ℕ} {o : List ℕ} (h : Holdable ts s o) (p : ℕ) (hp : p < 2 ^ 32) where
  hosted : {σ : machine.Memory} → HostMemory ts s o σ → Hosts (params ts p s) o σ
  hosted {σ} m = (m.filled, m.timers, (σ, m.start, refl))

  pub free_start_runs : (σ : machine.Memory) → HostMemory ts s o σ → ∥ ((v : Val) × (last : machine.Memory) × FreeStartRuns p ts σ v last × FreeStartDone ts p s o v last) ∥₁
  free_start_runs σ host =
      ∥∥₁_map (runs (call ts p s) o (fits h p hp) h.others σ (hosted host)) (λ k.
      let d = k.3 in
      (k.0, k.1, k.2, record { r = d.result; start' = d.values.1.1.0; value = ap only d.is.0; start = d.loads.1.0; leaves = d.says; timers = d.loads.0; others = d.others }))

  pub every_free_start : (σ : machine.Memory) → HostMemory ts s o σ → {v : Val} {last : machine.Memory} → FreeStartRuns p ts σ v last → ∥ FreeStartDone ts p s o v last ∥₁
  every_free_start σ host r =
      ∥∥₁_map (every_run (call ts p s) o (fits h p hp) h.others σ (hosted host) r) (λ d.
      record { r = d.result; start' = d.values.1.1.0; value = ap only d.is.0; start = d.loads.1.0; leaves = d.says; timers = d.loads.0; others = d.others })
