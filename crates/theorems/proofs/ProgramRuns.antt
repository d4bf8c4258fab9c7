-- The session program's functions on the machine, from the memory with which a run begins: all that is lent, and the input's buffer,
-- side by side.
--     prints          there are runs of `feed`, a block of the input each, and of `finish` behind them
--     every_print     and what every such runs print is the ledger's `output` of the input
use Prim.Native.Nat.{ℕ, ◌+◌, ◌*◌, ◌≤◌}
use mathlib.Core.Path.{◌≡◌, refl, sym, ap, ◌∙◌, subst}
use mathlib.Core.Logic.{∥∥₁_elim}
use mathlib.Core.List.{List, [], ◌∷◌, ◌++◌}
use native.Mathlib.Omega.{arith}
use lib.ListN.{length, take}
use base.Logic.{emp, via, assoc∗, mono_l, mono_r, fst∗}
use prog.Memory as machine
use prog.AdequacyRun.{start_mem}
use ghost.Model as closed
use Rattle.running.specs.Slices.{Kind, mut}
use Rattle.running.specs.Memories.{inarow}
use Rattle.running.specs.Machine.{Pr, Cells, ◌∗◌, weaken, begins, cells_append, bytes_at}
use Rattle.ledger.specs.Lines.{output}
use Rattle.ledger.proofs.Theorems.Parts.{Every}
use Rattle.mcx11.specs.Contract.{Memory, Sizes}
use Rattle.ledger.specs.Config.{controller}
use Rattle.mcx11.specs.Sizes.{Full, full_sizes, sizes_full, full_kept}
use Rattle.feeding.specs.declared.Reached.{Reached}
use Rattle.feeding.specs.Line.{most}
use Rattle.feeding.specs.Feeds as feeding
use Rattle.feeding.specs.Feeds.{Lent}
use Rattle.feeding.proofs.Session as calls
use Rattle.feeding.proofs.Session.{session}
use Rattle.theorems.proofs.Runs.{lengths_of, FitsBuffer}
use Rattle.theorems.proofs.SessionStart.{Lendable, room}
use Rattle.theorems.proofs.EveryRun.{bytes_set}
use Rattle.theorems.proofs.OneFeed.{ProgramPlaces, lent_slices}
use Rattle.theorems.proofs.InputRuns.{lent_sizes, InputRuns, FinishRuns}
use Rattle.theorems.proofs.InputHasRuns.{Input, Printed, inputs}
use Rattle.theorems.proofs.InputOneRun.{inputs_one, finish_one}

pub record ProgramStarts (x : Lent) (d : List ℕ) : Type 0 where
  pub line : Lendable x.line
  pub config : Lendable x.memory.config
  pub tables : Lendable x.memory.tables
  pub slots : Lendable x.memory.slots
  pub timers : Lendable x.memory.timers
  pub answer : Lendable x.memory.answer
  pub out : Lendable x.out
  pub input : Lendable d
  -- the room that `feed` and `finish` ask for
  pub longest : most ≤ length x.line
  pub room : 41 * length d ≤ length x.out
  pub least : 41 ≤ length x.out
  pub full : Full controller x.memory

abbrev laid : Lent → List ℕ → List (Kind × List ℕ)
laid x d = (mut, x.line) ∷ (mut, x.memory.config) ∷ (mut, x.memory.tables) ∷ (mut, x.memory.slots) ∷ (mut, x.memory.timers) ∷ (mut, x.memory.answer) ∷ (mut, x.out) ∷ (mut, d) ∷ []

abbrev pub program_start : Lent → (input : List ℕ) → machine.Memory
program_start x d = start_mem (inarow (laid x d)) []

abbrev pub program_places : Lent → ProgramPlaces
program_places x =
    let c : ℕ = 0 + length x.line in
    let t : ℕ = c + length x.memory.config in
    let s : ℕ = t + length x.memory.tables in
    let w : ℕ = s + length x.memory.slots in
    let a : ℕ = w + length x.memory.timers in
    let o : ℕ = a + length x.memory.answer in
    record { blocks = record { buffer = (0, o + length x.out); config = (0, c); tables = (0, t); slots = (0, s); timers = (0, w); answer = (0, a) }; line = (0, 0); out = (0, o) }

full_as : (m₀ m : Memory) → Full controller m₀ → lengths_of m ≡ lengths_of m₀ → Full controller m
full_as m₀ m f e =
    full_sizes controller m (full_kept controller (record { config = ap (λ (k : Sizes). k.config) e; tables = ap (λ (k : Sizes). k.tables) e; slots = ap (λ (k : Sizes). k.slots) e; timers = ap (λ (k : Sizes). k.timers) e; answer = ap (λ (k : Sizes). k.answer) e }) ∙ sizes_full controller m₀ f)

pub prints : (x : Lent) (d : List ℕ) → ProgramStarts x d → {blocks : List (List ℕ)} → Every (FitsBuffer (length d)) blocks
    → ∥ Printed (program_places x) (lent_sizes x) (program_start x d) feeding.begun x blocks ∥₁
prints x d b ls =
    let p : ProgramPlaces = program_places x in
    let L : Pr = Cells (lent_slices p x) in
    let D : Pr = Cells (bytes_at mut p.blocks.buffer d ∷ []) in
    inputs p (lent_sizes x) (length d)
    (record {
      rooms = (room b.line, (room b.config, (room b.tables, (room b.slots, (room b.timers, (room b.answer, (room b.out, tt)))))));
      few = b.input.size;
      line = b.longest;
      out = b.room;
      least = b.least;
      full = λ m e. full_as x.memory m b.full e;
    })
    ls feeding.begun (omega arith) x refl d refl (program_start x d) (emp closed.𝓤)
    (weaken (program_start x d)
    (via closed.𝓤 ((L ∗ D) ∗ emp closed.𝓤) (mono_l closed.𝓤 (emp closed.𝓤) (cells_append (lent_slices p x) (bytes_at mut p.blocks.buffer d ∷ [])))
    (via closed.𝓤 (L ∗ (D ∗ emp closed.𝓤)) (assoc∗ closed.𝓤 L D (emp closed.𝓤)) (mono_r closed.𝓤 L (mono_l closed.𝓤 (emp closed.𝓤) (fst∗ closed.𝓤 (Input p d) (emp closed.𝓤))))))
    (begins (laid x d) (b.line.bytes, (b.config.bytes, (b.tables.bytes, (b.slots.bytes, (b.timers.bytes, (b.answer.bytes, (b.out.bytes, (b.input.bytes, tt))))))))))

pub every_print : (x : Lent) (d : List ℕ) → ProgramStarts x d → {blocks : List (List ℕ)} → Every (FitsBuffer (length d)) blocks
    → {outputs : List (List ℕ)} {σ last : machine.Memory} {r : Reached} {x' : Lent} {out : List ℕ} {printed : ℕ}
    → InputRuns (program_places x) (lent_sizes x) (program_start x d) feeding.begun x blocks outputs σ r x' → FinishRuns (program_places x) (lent_sizes x) r σ last out printed
    → calls.joined outputs ++ take printed out ≡ output (calls.joined blocks)
every_print x d b {blocks} ls {outputs} {σ} {last} {r} {x'} {out} {printed} run end =
    ∥∥₁_elim (prints x d b ls) (bytes_set (calls.joined outputs ++ take printed out) (output (calls.joined blocks))) (λ k.
    let e = inputs_one k.runs run in
    let f = finish_one k.finish (subst (λ (t : Reached). FinishRuns (program_places x) (lent_sizes x) t k.between last out printed) (sym e.2) (subst (λ (τ : machine.Memory). FinishRuns (program_places x) (lent_sizes x) r τ last out printed) (sym e.1) end)) in
    subst (λ (xs : List (List ℕ)). calls.joined xs ++ take printed out ≡ output (calls.joined blocks)) e.0
    (subst (λ (o : List ℕ). calls.joined k.outputs ++ take printed o ≡ output (calls.joined blocks)) f.0
    (subst (λ (n : ℕ). calls.joined k.outputs ++ take n k.out ≡ output (calls.joined blocks)) f.1 (session k.calls k.call))))
