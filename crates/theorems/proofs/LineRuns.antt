-- The reader, the writer and milliseconds on the machine: each call has a run from every memory of bytes, and every run returns
-- the ledger's result as an `int32_t`, leaves the lent buffer as the ledger says, and all else as it was.
use Prim.Native.Nat.{ℕ, ◌+◌, ◌<◌, ◌^◌}
use mathlib.Core.Path.{◌≡◌, refl, ap, ◌∙◌, subst}
use mathlib.Core.Logic.{∥∥₁_prop, ∥∥₁_elim, ∥∥₁_map}
use mathlib.Core.List.{List, [], ◌∷◌}
use lib.IntN.{ℤ}
use lib.ListN.{length}
use mir.Syntax.{w8, w16, w32}
use mir.Val.{Val, vint, of_z}
use base.Logic.{ent, emp, id⊢, via, emp∗, fst∗, snd∗, assoc∗, mono_l}
use ghost.Atoms.{meaning}
use base.Fml.{ftrue, fsep}
use prog.Memory as machine
use prog.Machine.{done as ended}
use prog.Model.{AllFit}
use prog.AdequacyRun.{start_mem}
use prog.Routine.{Routine, step}
use ghost.Model as closed
use contract.BorrowModel.{logic₀}
use contract.Closed.{model⁺}
use denote.Builtin.{u16, i32}
use denote.RattleType.{owns}
use denote.Laws.{Ises, owns_make}
use denote.Plain.{uint_Makes}
use denote.Steps.{only}
use denote.Triple.Spec.{triple_of}
use denote.Triple.Statement.{Contract}
use Rattle.theorems.proofs.World.{environment, milliseconds_wired, read_wired, write_wired}
use Rattle.running.specs.Slices.{shr, mut, Slice, Ids, LastValues, vals_of, lifetimes_of, shares_of, references_of, passed_of, Rooms}
use Rattle.running.specs.Memories.{Loads, side_by_side, inarow}
use Rattle.running.specs.Machine.{Pr, A₀, 𝓡₀, 𝓡_in, Cells, ◌∗◌, ◌⊨◌, weaken, Enters, Leaves, asks_nothing, drops, leaves_by, Ran, begins, held_loads, bytes_at, cells_append}
use Rattle.running.proofs.Runs.{runs}
use Rattle.running.specs.One.{run_one}
use Rattle.ledger.specs.Lines as lines
use Rattle.ledger.specs.Time as time
use Rattle.line.specs.Answers.{left_in}
use Rattle.mcx11.specs.Results.{returned_length, returned_tocks, Returns}
use Rattle.theorems.proofs.SessionStart.{Lendable, room}
use Rattle.mcx11.specs.contracts.mcx11_read_line as read
use Rattle.mcx11.proofs.mcx11_read_line.Symbol as read-symbol
use Rattle.mcx11.proofs.mcx11_read_line.Met as read-met
use Rattle.mcx11.specs.contracts.mcx11_write_line as write
use Rattle.mcx11.proofs.mcx11_write_line.Symbol as write_symbol
use Rattle.mcx11.proofs.mcx11_write_line.Met as write-met
use Rattle.mcx11.specs.contracts.mcx11_milliseconds as milliseconds
use Rattle.mcx11.proofs.mcx11_milliseconds.Symbol as milliseconds-symbol
use Rattle.mcx11.proofs.mcx11_milliseconds.Met as milliseconds-met

-- an `int32_t`, as the machine has it
abbrev pub int32 : ℤ → Val
int32 z = vint w32 (of_z w32 z)

-- ---- the reader and the writer: the bytes a are read, the bytes d are written, and others, o, lie behind them
abbrev slices : (a d : List ℕ) → List Slice
slices a d = side_by_side 0 ((shr, a) ∷ (mut, d) ∷ [])

abbrev others : (a d o : List ℕ) → List Slice
others a d o = bytes_at shr (0, 0 + length a + length d) o ∷ []

abbrev pub line_start : (a d o : List ℕ) → machine.Memory
line_start a d o = start_mem (inarow ((shr, a) ∷ (mut, d) ∷ (shr, o) ∷ [])) []

-- a run that ended with the value v and the memory `last`
abbrev pub LineRuns : Routine → (a d o : List ℕ) → Val → machine.Memory → Type 0
LineRuns ρ a d o v last = (fuel : ℕ) × (step ρ fuel (vals_of (slices a d)) (line_start a d o) ≡ ended (v, last))

pub record LineDone (said : lines.Written) (a d o : List ℕ) (v : Val) (last : machine.Memory) : Type 0 where
  pub value : v ≡ int32 (returned_length said)
  pub from : Loads last 0 0 a
  pub to : Loads last 0 (0 + length a) (left_in d said)
  pub behind : Loads last 0 (0 + length a + length d) o

abbrev LineSays : lines.Written → (a d : List ℕ) → ℤ → LastValues (slices a d) → Type 0
LineSays said a d r ws = Returns said d ws.1.0 r

module _ (ρ : Routine) (said : lines.Written) (a d : List ℕ)
    (call : Rooms (slices a d) → (σ : machine.Memory) (F : Pr) → σ ⊨ Cells (slices a d) ∗ F → ∥ Ran ρ (vals_of (slices a d)) (slices a d) i32 (LineSays said a d) σ F ∥₁)
    (ha : Lendable a) (hd : Lendable d) (o : List ℕ) (ho : AllFit w8 o) where
  done_once : ∥ ((v : Val) × (last : machine.Memory) × LineRuns ρ a d o v last × LineDone said a d o v last) ∥₁
  done_once =
      let σ : machine.Memory = line_start a d o in
      let S : Pr = Cells (slices a d) in
      let O : Pr = Cells (others a d o) in
      let held : σ ⊨ S ∗ (O ∗ emp closed.𝓤) =
      weaken σ (via closed.𝓤 ((S ∗ O) ∗ emp closed.𝓤) (mono_l closed.𝓤 (emp closed.𝓤) (cells_append (slices a d) (others a d o))) (assoc∗ closed.𝓤 S O (emp closed.𝓤)))
      (begins ((shr, a) ∷ (mut, d) ∷ (shr, o) ∷ []) (ha.bytes, (hd.bytes, (ho, tt)))) in
      ∥∥₁_elim (call (room ha, (room hd, tt)) σ (O ∗ emp closed.𝓤) held) ∥∥₁_prop (λ k.
      let C : Pr = Cells (bytes_at shr (0, 0) a ∷ bytes_at mut (0, 0 + length a) k.last.1.0 ∷ []) in
      ∥∥₁_map (held_loads k.memory (others a d o) (emp closed.𝓤) (weaken k.memory (snd∗ closed.𝓤 C (O ∗ emp closed.𝓤)) k.holds)) (λ l. (
        k.value,
        k.memory,
        (k.fuel, k.run),
        record {
          value = ap only k.is.0 ∙ ap int32 k.says.returned;
          from = k.loads.0;
          to = subst (λ (x : List ℕ). Loads k.memory 0 (0 + length a) x) k.says.left k.loads.1.0;
          behind = l.0;
        },
      )))

  done_always : {v : Val} {last : machine.Memory} → LineRuns ρ a d o v last → ∥ LineDone said a d o v last ∥₁
  done_always {v} {last} r =
      ∥∥₁_map done_once (λ k.
      let e = run_one ρ (vals_of (slices a d)) (line_start a d o) k.2.0 r.0 k.2.1 r.1 in
      subst (λ (u : Val). LineDone said a d o u last) e.0 (subst (λ (σ : machine.Memory). LineDone said a d o k.0 σ) e.1 k.3))

-- a line is read into the front of a frame's buffer
module _ (line frame others : List ℕ) (hl : Lendable line) (hf : Lendable frame) (ho : AllFit w8 others) where
  abbrev read_contract : Contract closed.𝓤
  read_contract = triple_of logic₀ read.signature (read.spec logic₀ model⁺.mem 𝓡₀.returns)

  abbrev was_read : lines.Written
  was_read = lines.read_line (length frame) line

  abbrev read_bound : Ids (slices line frame) → read_contract.Ghost
  read_bound i = let L : List Slice = slices line frame in ((lifetimes_of L i, shares_of L, tt, references_of L i, passed_of L), tt)

  reads : Rooms (slices line frame) → (σ : machine.Memory) (F : Pr) → σ ⊨ Cells (slices line frame) ∗ F
      → ∥ Ran (environment read-symbol.name) (vals_of (slices line frame)) (slices line frame) i32 (LineSays was_read line frame) σ F ∥₁
  reads =
      runs (environment read-symbol.name) read_contract (read-met.met closed.𝓤 logic₀ model⁺ (𝓡_in environment) read_wired) (slices line frame) i32 read_bound (vals_of (slices line frame)) (λ i. refl)
      (λ i. asks_nothing (Enters (slices line frame) i32 i)) (LineSays was_read line frame) (λ i v. id⊢ closed.𝓤 (read_contract.post (read_bound i) v))

  pub read_runs : ∥ ((v : Val) × (last : machine.Memory) × LineRuns (environment read-symbol.name) line frame others v last × LineDone was_read line frame others v last) ∥₁
  read_runs = done_once (environment read-symbol.name) was_read line frame reads hl hf others ho

  pub every_read : {v : Val} {last : machine.Memory} → LineRuns (environment read-symbol.name) line frame others v last → ∥ LineDone was_read line frame others v last ∥₁
  every_read r = done_always (environment read-symbol.name) was_read line frame reads hl hf others ho r

-- a frame is written into the front of a line's buffer
module _ (frame line others : List ℕ) (hf : Lendable frame) (hl : Lendable line) (ho : AllFit w8 others) where
  abbrev write_contract : Contract closed.𝓤
  write_contract = triple_of logic₀ write.signature (write.spec logic₀ model⁺.mem 𝓡₀.returns)

  abbrev was_written : lines.Written
  was_written = lines.write_line (length line) frame

  abbrev write_bound : Ids (slices frame line) → write_contract.Ghost
  write_bound i = let L : List Slice = slices frame line in ((lifetimes_of L i, shares_of L, tt, references_of L i, passed_of L), tt)

  writes : Rooms (slices frame line) → (σ : machine.Memory) (F : Pr) → σ ⊨ Cells (slices frame line) ∗ F
      → ∥ Ran (environment write_symbol.name) (vals_of (slices frame line)) (slices frame line) i32 (LineSays was_written frame line) σ F ∥₁
  writes =
      runs (environment write_symbol.name) write_contract (write-met.met closed.𝓤 logic₀ model⁺ (𝓡_in environment) write_wired) (slices frame line) i32 write_bound (vals_of (slices frame line)) (λ i. refl)
      (λ i. asks_nothing (Enters (slices frame line) i32 i)) (LineSays was_written frame line) (λ i v. id⊢ closed.𝓤 (write_contract.post (write_bound i) v))

  pub write_runs : ∥ ((v : Val) × (last : machine.Memory) × LineRuns (environment write_symbol.name) frame line others v last × LineDone was_written frame line others v last) ∥₁
  write_runs = done_once (environment write_symbol.name) was_written frame line writes hf hl others ho

  pub every_write : {v : Val} {last : machine.Memory} → LineRuns (environment write_symbol.name) frame line others v last → ∥ LineDone was_written frame line others v last ∥₁
  every_write r = done_always (environment write_symbol.name) was_written frame line writes hf hl others ho r

-- ---- milliseconds: two numbers, and no memory is lent

-- a run in a memory that holds the bytes o
abbrev pub MillisecondsRuns : (ms per : ℕ) (o : List ℕ) → Val → machine.Memory → Type 0
MillisecondsRuns ms per o v last = (fuel : ℕ) × (step (environment milliseconds-symbol.name) fuel (vint w16 ms ∷ vint w16 per ∷ []) (start_mem (inarow ((shr, o) ∷ [])) []) ≡ ended (v, last))

pub record MillisecondsDone (ms per : ℕ) (o : List ℕ) (v : Val) (last : machine.Memory) : Type 0 where
  pub value : v ≡ int32 (returned_tocks (time.milliseconds ms per))
  pub behind : Loads last 0 0 o

module _ (ms per : ℕ) (others : List ℕ) (hm : ms < 2 ^ 16) (hp : per < 2 ^ 16) (ho : AllFit w8 others) where
  abbrev milliseconds_contract : Contract closed.𝓤
  milliseconds_contract = triple_of logic₀ milliseconds.signature (milliseconds.spec logic₀ model⁺.mem 𝓡₀.returns)

  abbrev milliseconds_bound : Ids [] → milliseconds_contract.Ghost
  milliseconds_bound i = ((tt, tt, tt, (ms, (per, tt)), (vint w16 ms ∷ [], (vint w16 per ∷ [], tt))), tt)

  -- the numbers are had for nothing
  numbers : ent closed.𝓤 (emp closed.𝓤) (meaning closed.𝓤 closed.H A₀ (owns (u16 ∷ u16 ∷ []) (ms, (per, tt)) (vint w16 ms ∷ [], (vint w16 per ∷ [], tt))))
  numbers = owns_make logic₀ (u16 ∷ u16 ∷ []) (Ises (u16 ∷ u16 ∷ [])) (uint_Makes logic₀ w16, (uint_Makes logic₀ w16, tt)) (ms, (per, tt)) (vint w16 ms ∷ [], (vint w16 per ∷ [], tt)) ((refl, hm), ((refl, hp), tt))

  enters : (i : Ids []) → ent closed.𝓤 (Enters [] i32 i) (milliseconds_contract.pre (milliseconds_bound i))
  enters i =
      let E : Pr = emp closed.𝓤 in
      let N : Pr = meaning closed.𝓤 closed.H A₀ (owns (u16 ∷ u16 ∷ []) (ms, (per, tt)) (vint w16 ms ∷ [], (vint w16 per ∷ [], tt))) in
      via closed.𝓤 E (fst∗ closed.𝓤 E (meaning closed.𝓤 closed.H A₀ ftrue)) (via closed.𝓤 N numbers (via closed.𝓤 (E ∗ N) (emp∗ closed.𝓤 N) (asks_nothing (E ∗ N))))

  leaves : (i : Ids []) (v : Val) → ent closed.𝓤 (milliseconds_contract.post (milliseconds_bound i) v) (Leaves [] i32 (λ r ws. r ≡ returned_tocks (time.milliseconds ms per)) i v)
  leaves i v =
      leaves_by [] i32 (λ r ws. r ≡ returned_tocks (time.milliseconds ms per)) i v (Unit {0} × (Unit {0} × Unit {0})) (λ ws. fsep ftrue (fsep ftrue ftrue)) (λ r ws. r ≡ returned_tocks (time.milliseconds ms per))
      (λ ws. tt) (λ ws. drops (meaning closed.𝓤 closed.H A₀ (fsep ftrue (fsep ftrue ftrue)))) (λ r ws e. e)

  pub milliseconds_runs : ∥ ((v : Val) × (last : machine.Memory) × MillisecondsRuns ms per others v last × MillisecondsDone ms per others v last) ∥₁
  milliseconds_runs =
      let σ : machine.Memory = start_mem (inarow ((shr, others) ∷ [])) [] in
      let O : List Slice = bytes_at shr (0, 0) others ∷ [] in
      ∥∥₁_elim (runs (environment milliseconds-symbol.name) milliseconds_contract (milliseconds-met.met closed.𝓤 logic₀ model⁺ (𝓡_in environment) milliseconds_wired) [] i32 milliseconds_bound (vint w16 ms ∷ vint w16 per ∷ []) (λ i. refl)
      enters (λ r ws. r ≡ returned_tocks (time.milliseconds ms per)) leaves tt σ (Cells O ∗ emp closed.𝓤)
      (weaken σ (emp∗ closed.𝓤 (Cells O ∗ emp closed.𝓤)) (begins ((shr, others) ∷ []) (ho, tt)))) ∥∥₁_prop (λ k.
      ∥∥₁_map (held_loads k.memory O (emp closed.𝓤) (weaken k.memory (snd∗ closed.𝓤 (emp closed.𝓤) (Cells O ∗ emp closed.𝓤)) k.holds)) (λ l. (
        k.value,
        k.memory,
        (k.fuel, k.run),
        record { value = ap only k.is.0 ∙ ap int32 k.says; behind = l.0 },
      )))

  pub every_milliseconds : {v : Val} {last : machine.Memory} → MillisecondsRuns ms per others v last → ∥ MillisecondsDone ms per others v last ∥₁
  every_milliseconds {v} {last} r =
      ∥∥₁_map milliseconds_runs (λ k.
      let e = run_one (environment milliseconds-symbol.name) (vint w16 ms ∷ vint w16 per ∷ []) (start_mem (inarow ((shr, others) ∷ [])) []) k.2.0 r.0 k.2.1 r.1 in
      subst (λ (u : Val). MillisecondsDone ms per others u last) e.0 (subst (λ (σ : machine.Memory). MillisecondsDone ms per others k.0 σ) e.1 k.3))
