-- The memory with which a run begins: the five blocks, the host's buffer and any other bytes, side by side, whatever they are. From
-- there one call of either function of an executive has a run, as its contract says.
use Prim.Native.Nat.{ℕ, ◌+◌, ◌<◌, ◌^◌}
use mathlib.Core.Path.{refl}
use mathlib.Core.List.{List, [], ◌∷◌}
use native.Mathlib.Omega.{arith}
use lib.ListN.{length}
use mir.Syntax.{w8}
use base.Logic.{emp, via, assoc∗, mono_l, mono_r}
use prog.Memory as machine
use prog.Model.{AllFit}
use prog.AdequacyRun.{start_mem}
use ghost.Model as closed
use denote.Builtin.{u8}
use denote.Slice.{Room}
use Rattle.running.specs.Slices.{Kind, shr, mut, Slice}
use Rattle.running.specs.Memories.{Loads, inarow}
use Rattle.running.specs.Machine.{Pr, Cell, Cells, ◌∗◌, ◌⊨◌, weaken, begins, cells_append, bytes_at}
use Rattle.ledger.specs.Config.{Limits}
use Rattle.mcx11.specs.Contract.{Memory, Configures, Frames}
use Rattle.theorems.specs.Same.{Same}
use Rattle.theorems.proofs.OneCall.{Places, Executive}
use Rattle.theorems.proofs.Runs.{lengths_of, blocks_of, FitsBuffer, RoomsAt, Called, configure_called, frame_called}

-- bytes that a slice can lend
pub record Lendable (d : List ℕ) : Type 0 where
  pub bytes : AllFit w8 d
  pub size : length d < 2 ^ 63

-- the five blocks m, the host's buffer d and what else is in memory, o, are bytes
pub record SessionStarts (m : Memory) (d o : List ℕ) : Type 0 where
  pub config : Lendable m.config
  pub tables : Lendable m.tables
  pub slots : Lendable m.slots
  pub timers : Lendable m.timers
  pub answer : Lendable m.answer
  pub buffer : Lendable d
  pub others : AllFit w8 o

abbrev laid : Memory → List ℕ → List ℕ → List (Kind × List ℕ)
laid m d o = (mut, m.config) ∷ (mut, m.tables) ∷ (mut, m.slots) ∷ (mut, m.timers) ∷ (mut, m.answer) ∷ (mut, d) ∷ (shr, o) ∷ []

abbrev pub session_start : Memory → (buffer others : List ℕ) → machine.Memory
session_start m d o = start_mem (inarow (laid m d o)) []

abbrev pub places_of : Memory → Places
places_of m = record {
  config = (0, 0);
  tables = (0, 0 + length m.config);
  slots = (0, 0 + length m.config + length m.tables);
  timers = (0, 0 + length m.config + length m.tables + length m.slots);
  answer = (0, 0 + length m.config + length m.tables + length m.slots + length m.timers);
  buffer = (0, 0 + length m.config + length m.tables + length m.slots + length m.timers + length m.answer);
}

-- the others lie behind the buffer
abbrev pub others_at : Memory → List ℕ → ℕ
others_at m d = (places_of m).buffer.1 + length d

-- what demand 3 says of runs that left the memory `last`, in which the five blocks hold m' and all else is as it was
pub record AsTheLedger (k : Limits) (m : Memory) (d o g : List ℕ) (fs answers : List (List ℕ)) (numbers : List ℕ) (last : machine.Memory) (m' : Memory) : Type 0 where
  pub same : Same k g m fs answers numbers m'
  pub others : Loads last 0 (others_at m d) o

pub room : {d : List ℕ} → Lendable d → Room u8 (length d)
room {d} h = (omega (arith, h.size), omega (arith, h.size))

module _ (m : Memory) (d o : List ℕ) (b : SessionStarts m d o) where
  abbrev q : Places
  q = places_of m

  abbrev pub others : List Slice
  others = bytes_at shr (0, others_at m d) o ∷ []

  pub rooms : RoomsAt (lengths_of m)
  rooms = (room b.config, (room b.tables, (room b.slots, (room b.timers, (room b.answer, tt)))))

  held : session_start m d o ⊨ Cells (blocks_of q m) ∗ (Cell (bytes_at mut q.buffer d) ∗ (Cells others ∗ emp closed.𝓤))
  held =
      let B : Pr = Cells (blocks_of q m) in
      let D : Pr = Cell (bytes_at mut q.buffer d) in
      let O : Pr = Cells others in
      weaken (session_start m d o)
      (via closed.𝓤 ((B ∗ (D ∗ O)) ∗ emp closed.𝓤) (mono_l closed.𝓤 (emp closed.𝓤) (cells_append (blocks_of q m) (bytes_at mut q.buffer d ∷ others)))
      (via closed.𝓤 (B ∗ ((D ∗ O) ∗ emp closed.𝓤)) (assoc∗ closed.𝓤 B (D ∗ O) (emp closed.𝓤)) (mono_r closed.𝓤 B (assoc∗ closed.𝓤 D O (emp closed.𝓤)))))
      (begins (laid m d o) (b.config.bytes, (b.tables.bytes, (b.slots.bytes, (b.timers.bytes, (b.answer.bytes, (b.buffer.bytes, (b.others, tt))))))))

  module _ (x : Executive) where
    pub frame_runs_from : {f : List ℕ} → FitsBuffer (length d) f
        → ∥ Called x.frame q (lengths_of m) f (λ m' r. Frames x.limits f m m' r) (length d) (session_start m d o) (Cells others ∗ emp closed.𝓤) ∥₁
    frame_runs_from {f} l = frame_called q (lengths_of m) rooms (length d) b.buffer.size f l m refl d refl (session_start m d o) (Cells others ∗ emp closed.𝓤) held x

    pub configure_runs_from : {g : List ℕ} → FitsBuffer (length d) g
        → ∥ Called x.configure q (lengths_of m) g (λ m' r. Configures x.limits g m m' r) (length d) (session_start m d o) (Cells others ∗ emp closed.𝓤) ∥₁
    configure_runs_from {g} l = configure_called q (lengths_of m) rooms (length d) b.buffer.size g l m refl d refl (session_start m d o) (Cells others ∗ emp closed.𝓤) held x
