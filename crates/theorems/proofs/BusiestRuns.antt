-- The busiest stretch on the machine: from every memory into which a host has stored its records, a sum and a place, each in a block of
-- its own, the call has a run, and every run returns and leaves in the two numbers what document 02's W9 asks, and the records and all
-- else as they were.
use Prim.Native.Nat.{ℕ, ◌*◌, ◌<◌, ◌^◌}
use mathlib.Core.Path.{◌≡◌, refl, ap}
use mathlib.Core.Logic.{∥∥₁_map}
use mathlib.Core.Option.{some as just}
use mathlib.Core.List.{List, [], ◌∷◌, map}
use native.Mathlib.Omega.{arith}
use lib.ListN.{length}
use mir.Syntax.{w8, w16, w32, w64, Ty, ty_int, ty_array}
use mir.Val.{Val, vint, vptr, vstruct, vnil, vcons}
use base.Logic.{id⊢}
use prog.Memory as machine
use prog.Memory.{size, load_m, store_m, alloc_m}
use prog.Machine.{done as ended}
use prog.Routine.{step}
use prog.Model.{AllFit}
use prog.AdequacyRun.{start_mem}
use ghost.Model as closed
use contract.BorrowModel.{logic₀}
use contract.Closed.{model⁺}
use denote.Builtin.{u8}
use denote.Slice.{slice_val}
use denote.Steps.{only}
use denote.Struct.Laws as laws
use denote.Triple.Spec.{triple_of}
use Rattle.theorems.proofs.World.{environment, busiest_wired}
use Rattle.running.specs.Memories.{Loads}
use Rattle.running.specs.Machine.{𝓡₀, 𝓡_in, asks_nothing}
use Rattle.running.specs.Rows.{StoresRow, LoadsRow}
use Rattle.running.specs.Loans.{AllAre}
use Rattle.running.specs.Lent.{Param, value, lent, number, list, Fits, LastValues, lifetimes_of, shares_of, values_of, passed_of, Enters}
use Rattle.running.specs.Hosts.{Hosts, Call, hosts, runs, every_run}
use Rattle.stretch.specs.Busiest.{busiest_of, Gives, Leaves}
use Rattle.stretch.proofs.Theorems.{gives_leaves}
use Rattle.stretch.specs.declared.Record.{Record}
use Rattle.stretch.specs.contracts.Record as R
use Rattle.stretch.proofs.Record.TheLaws as R'
use Rattle.mcx11.specs.contracts.mcx11_busiest as busiest
use Rattle.mcx11.proofs.mcx11_busiest.Symbol as busiest-symbol
use Rattle.mcx11.proofs.mcx11_busiest.Met as busiest-met

-- ---- the host's memory

-- a record as the machine has it: its type, of 8 bytes, and its value
abbrev pub RECORD : Ty
RECORD = R'.mir

pub eight_bytes : size RECORD ≡ 8
eight_bytes = refl

abbrev pub record_val : Record → Val
record_val r = vstruct (vcons (vint w32 r.tocks) (vcons (vint w8 r.running) (vcons (vint w16 r.reissues) vnil)))

-- the records are stored from the offset o on in block b, one by one; they are what the machine loads from there
abbrev pub StoresRecords : (b o : ℕ) → List Record → (σ σ' : machine.Memory) → Type 0
StoresRecords b o rs σ σ' = StoresRow RECORD b o (map record_val rs) σ σ'

abbrev pub LoadsRecords : machine.Memory → (b o : ℕ) → List Record → Type 0
LoadsRecords σ b o rs = LoadsRow σ RECORD b o (map record_val rs)

-- the fields of each record fit their types
abbrev pub RecordsFit : List Record → Type 0
RecordsFit [] = Unit {0}
RecordsFit (r ∷ rs) = ((r.tocks < 2 ^ 32) × ((r.running < 2 ^ 8) × (r.reissues < 2 ^ 16))) × RecordsFit rs

-- what a host can hold: records rs of at most 2^63 - 1 bytes, a sum s, a place p, and other bytes o
pub record Holdable (rs : List Record) (s p : ℕ) (o : List ℕ) : Type 0 where
  pub records : RecordsFit rs
  pub size : length rs * 8 < 2 ^ 63
  pub sum : s < 2 ^ 32
  pub place : p < 2 ^ 64
  pub others : AllFit w8 o

-- before anything is stored: the other bytes in block 0, none in block 1, and room for the records in block 2, for a sum in 3, for a place in 4
abbrev pub host_blocks : List Record → List ℕ → machine.Memory
host_blocks rs o = alloc_m (alloc_m (alloc_m (start_mem o []) (ty_array RECORD (length rs))) (ty_int w32)) (ty_int w64)

-- σ comes about so: the host stores its records, then what the sum and the place hold before the call
pub record HostMemory (rs : List Record) (s p : ℕ) (o : List ℕ) (σ : machine.Memory) : Type 0 where
  pub filled : machine.Memory
  pub summed : machine.Memory
  pub records : StoresRecords 2 0 rs (host_blocks rs o) filled
  pub sum : store_m filled (ty_int w32) 3 0 (vint w32 s) ≡ just summed
  pub place : store_m summed (ty_int w64) 4 0 (vint w64 p) ≡ just σ

-- ---- a run, and what it did

-- the call is passed the records, w, and where the sum and the place are
abbrev pub passed : ℕ → List Record → List Val
passed w rs = slice_val (2, 0) (length rs) ∷ vint w64 w ∷ vptr 3 0 ∷ vptr 4 0 ∷ []

-- a run that ended with the value v and the memory `last`
abbrev pub BusiestRuns : ℕ → List Record → machine.Memory → Val → machine.Memory → Type 0
BusiestRuns w rs σ v last = (fuel : ℕ) × (step (environment busiest-symbol.name) fuel (passed w rs) σ ≡ ended (v, last))

pub record BusiestDone (rs : List Record) (w s p : ℕ) (o : List ℕ) (v : Val) (last : machine.Memory) : Type 0 where
  pub r : ℕ
  pub sum' : ℕ
  pub place' : ℕ
  pub value : v ≡ vint w8 r
  pub sum : load_m last (ty_int w32) 3 0 ≡ just (vint w32 sum')
  pub place : load_m last (ty_int w64) 4 0 ≡ just (vint w64 place')
  pub leaves : Leaves rs w s p sum' place' r
  pub records : LoadsRecords last 2 0 rs
  pub others : Loads last 0 0 o

-- ---- the call: its parameters are the records, w, the sum and the place
abbrev params : List Record → (w s p : ℕ) → List Param
params rs w s p = lent (list R.the_type R'.the_laws R'.the_plain R'.the_copy rs) ∷ value w64 w ∷ lent (number w32 s) ∷ lent (number w64 p) ∷ []

abbrev Says : (rs : List Record) (w s p : ℕ) → ℕ → LastValues (params rs w s p) → Type 0
Says rs w s p r ws = Gives (busiest_of rs w) s p ws.1.1.0 ws.1.1.1.0 r

call : (rs : List Record) (w s p : ℕ) → Call (environment busiest-symbol.name) (passed w rs) (params rs w s p) u8 (Says rs w s p)
call rs w s p =
    let L : List Param = params rs w s p in
    record {
      contract = triple_of logic₀ busiest.signature (busiest.spec logic₀ model⁺.mem 𝓡₀.returns);
      met = busiest-met.met closed.𝓤 logic₀ model⁺ (𝓡_in environment) busiest_wired;
      bound = λ i. ((lifetimes_of L i, shares_of L, tt, values_of 0 L i, passed_of 0 L i), tt);
      passes = λ i. refl;
      enters = λ i. asks_nothing (Enters L u8 i);
      leaves = λ i v. id⊢ closed.𝓤 _;
    }

all_are : (rs : List Record) → RecordsFit rs → AllAre R.the_type R'.the_laws R'.the_plain R'.the_copy rs
all_are [] f = tt
all_are (r ∷ rs) f = (laws.owes R.the_type R'.the_laws r ((refl, f.0.0), ((refl, f.0.1.0), ((refl, f.0.1.1), tt))), all_are rs f.1)

module _ {rs : List Record} {s p : ℕ} {o : List ℕ} (h : Holdable rs s p o) where
  fits : (w : ℕ) → w < 2 ^ 64 → Fits (params rs w s p)
  fits w hw = ((all_are rs h.records, (omega (arith, h.size), h.size)), (hw, (h.sum, (h.place, tt))))

  -- there is such a memory: no w is in it
  pub host_memory : ∥ ((σ : machine.Memory) × HostMemory rs s p o σ) ∥₁
  host_memory =
      ∥∥₁_map (hosts (params rs 0 s p) o (fits 0 (omega arith)) h.others) (λ k.
      let m = k.1 in
      (m.2.2.0, record { filled = m.0; summed = m.2.0; records = m.1; sum = m.2.1; place = m.2.2.1 }))

-- ---- the runs
module _ {rs : List Record} {s p : ℕ} {o : List ℕ} (h : Holdable rs s p o) (w : ℕ) (hw : w < 2 ^ 64) where
  hosted : {σ : machine.Memory} → HostMemory rs s p o σ → Hosts (params rs w s p) o σ
  hosted {σ} m = (m.filled, m.records, (m.summed, m.sum, (σ, m.place, refl)))

  pub busiest_runs : (σ : machine.Memory) → HostMemory rs s p o σ → ∥ ((v : Val) × (last : machine.Memory) × BusiestRuns w rs σ v last × BusiestDone rs w s p o v last) ∥₁
  busiest_runs σ host =
      ∥∥₁_map (runs (call rs w s p) o (fits h w hw) h.others σ (hosted host)) (λ k.
      let d = k.3 in
      let sum' : ℕ = d.values.1.1.0 in
      let place' : ℕ = d.values.1.1.1.0 in
      (k.0, k.1, k.2, record { r = d.result; sum' = sum'; place' = place'; value = ap only d.is.0; sum = d.loads.1.0; place = d.loads.1.1.0; leaves = gives_leaves rs w s p sum' place' d.result d.says; records = d.loads.0; others = d.others }))

  pub every_busiest : (σ : machine.Memory) → HostMemory rs s p o σ → {v : Val} {last : machine.Memory} → BusiestRuns w rs σ v last → ∥ BusiestDone rs w s p o v last ∥₁
  every_busiest σ host r =
      ∥∥₁_map (every_run (call rs w s p) o (fits h w hw) h.others σ (hosted host) r) (λ d.
      let sum' : ℕ = d.values.1.1.0 in
      let place' : ℕ = d.values.1.1.1.0 in
      record { r = d.result; sum' = sum'; place' = place'; value = ap only d.is.0; sum = d.loads.1.0; place = d.loads.1.1.0; leaves = gives_leaves rs w s p sum' place' d.result d.says; records = d.loads.0; others = d.others })
