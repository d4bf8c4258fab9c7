-- Runs of an executive's two functions on the machine, one after the other in one memory. Before each call the host stores the call's
-- bytes into its one buffer.
--     CallRuns       one call: the stores, the run of the function's routine, and the bytes that the machine then loads
--     SessionRuns    a configuration and a list of frames, each call from the memory in which the one before it ended
--     feeds          from every memory that holds the blocks and the buffer, there are such runs of frames
use Prim.Native.Nat.{ℕ, ◌<◌, ◌≤◌, ◌^◌}
use mathlib.Core.Path.{◌≡◌, sym, ap, ◌∙◌, subst}
use mathlib.Core.Logic.{∥∥₁_prop, ∥∥₁_elim, ∥∥₁_map}
use mathlib.Core.List.{List, [], ◌∷◌}
use native.Mathlib.Omega.{arith}
use lib.ListN.{length}
use mir.Syntax.{w8}
use mir.Val.{Val, vint}
use prog.Memory as machine
use prog.Machine.{done as ended}
use prog.Model.{AllFit}
use prog.Routine.{Routine, step}
use denote.Builtin.{u8}
use denote.Slice.{slice_val, Room}
use denote.Steps.{only}
use Rattle.running.specs.Slices.{mut, Slice, AreBytes}
use Rattle.running.specs.Memories.{LoadsAll}
use Rattle.running.specs.Stores.{Stores}
use Rattle.running.specs.Machine.{Pr, Cells, ◌∗◌, ◌⊨◌, bytes_at}
use Rattle.running.proofs.Buffer.{Buffer, overwritten, as_long, Front, Rest, stored, lent_again}
use Rattle.ledger.specs.Config.{Config}
use Rattle.ledger.specs.Seen.{Seen}
use Rattle.ledger.proofs.Theorems.Parts.{Every, nil, cons}
use Rattle.mcx11.specs.Contract.{Memory, Sizes, Configures, Frames}
use Rattle.mcx11.specs.Answer.{answer_of}
use Rattle.theorems.specs.Calls as contracts
use Rattle.theorems.proofs.OneCall.{Places, left_by_configure, left_by_frame, Executive}

-- how many bytes each block has
abbrev pub lengths_of : Memory → Sizes
lengths_of m = record { config = length m.config; tables = length m.tables; slots = length m.slots; timers = length m.timers; answer = length m.answer }

-- the machine values that a call of either function is given: the first n bytes of the buffer, and the five blocks
abbrev pub arguments : Places → Sizes → ℕ → List Val
arguments q s n = slice_val q.buffer n ∷ slice_val q.config s.config ∷ slice_val q.tables s.tables ∷ slice_val q.slots s.slots ∷ slice_val q.timers s.timers ∷ slice_val q.answer s.answer ∷ []

abbrev pub blocks_of : Places → Memory → List Slice
blocks_of q m = bytes_at mut q.config m.config ∷ bytes_at mut q.tables m.tables ∷ bytes_at mut q.slots m.slots ∷ bytes_at mut q.timers m.timers ∷ bytes_at mut q.answer m.answer ∷ []

-- the machine's memory σ holds the bytes m at the places q, as many as s says: each is what the machine loads there
pub record Lies (q : Places) (s : Sizes) (σ : machine.Memory) (m : Memory) : Type 0 where
  pub sizes : lengths_of m ≡ s
  pub loads : LoadsAll σ (blocks_of q m)
  pub bytes : AreBytes (blocks_of q m)

-- one call with the bytes f, from σ to σ': it returned r, and the blocks then hold m'
pub record CallRuns (ρ : Routine) (q : Places) (s : Sizes) (f : List ℕ) (σ σ' : machine.Memory) (m' : Memory) (r : ℕ) : Type 0 where
  pub between : machine.Memory
  pub stores : Stores q.buffer.0 q.buffer.1 f σ between
  pub fuel : ℕ
  pub run : step ρ fuel (arguments q s (length f)) between ≡ ended (vint w8 r, σ')
  pub lies : Lies q s σ' m'

module _ (e : Executive) where
  abbrev pub ConfigureRuns : Places → Sizes → List ℕ → machine.Memory → machine.Memory → Memory → ℕ → Type 0
  ConfigureRuns = CallRuns e.configure

  abbrev pub FrameRuns : Places → Sizes → List ℕ → machine.Memory → machine.Memory → Memory → ℕ → Type 0
  FrameRuns = CallRuns e.frame

-- frames, one after the other: from σ, where the blocks hold m, to σ' and m', with these answers and numbers
pub data FramesRun (e : Executive) (q : Places) (s : Sizes) : (σ : machine.Memory) (m : Memory) (frames answers : List (List ℕ)) (numbers : List ℕ) (σ' : machine.Memory) (m' : Memory) → Type 0 where
  none : {σ : machine.Memory} {m : Memory} → FramesRun e q s σ m [] [] [] σ m
  call : {f : List ℕ} {σ σ₁ σ' : machine.Memory} {m m₁ m' : Memory} {r : ℕ} {fs answers : List (List ℕ)} {numbers : List ℕ}
      → FrameRuns e q s f σ σ₁ m₁ r → FramesRun e q s σ₁ m₁ fs answers numbers σ' m' → FramesRun e q s σ m (f ∷ fs) (answer_of m₁ ∷ answers) (r ∷ numbers) σ' m'

-- what a host sees of them, if it looks at the blocks after each
unfoldable pub seen_run : {e : Executive} {q : Places} {s : Sizes} {σ σ' : machine.Memory} {m m' : Memory} {fs answers : List (List ℕ)} {numbers : List ℕ} → Config → FramesRun e q s σ m fs answers numbers σ' m' → List Seen
seen_run c none = []
seen_run c (call {f} {m = m} {m₁ = m₁} {r = r} k more) = contracts.seen_call c f m m₁ r ∷ seen_run c more

-- a configuration, and then frames
pub data SessionRuns (e : Executive) (q : Places) (s : Sizes) (σ : machine.Memory) (g : List ℕ) (frames : List (List ℕ)) : (answers : List (List ℕ)) (numbers : List ℕ) (σ' : machine.Memory) (m' : Memory) → Type 0 where
  session : {σ₁ σ' : machine.Memory} {m₁ m' : Memory} {r : ℕ} {answers : List (List ℕ)} {numbers : List ℕ}
      → ConfigureRuns e q s g σ σ₁ m₁ r → FramesRun e q s σ₁ m₁ frames answers numbers σ' m' → SessionRuns e q s σ g frames (answer_of m₁ ∷ answers) (r ∷ numbers) σ' m'

unfoldable pub seen_session : {e : Executive} {q : Places} {s : Sizes} {σ σ' : machine.Memory} {g : List ℕ} {m' : Memory} {fs answers : List (List ℕ)} {numbers : List ℕ} → Config → SessionRuns e q s σ g fs answers numbers σ' m' → List Seen
seen_session c (session k more) = seen_run c more

-- ---- one call, from a memory that holds the blocks and a buffer of n bytes

-- bytes that the buffer has room for
pub record FitsBuffer (n : ℕ) (f : List ℕ) : Type 0 where
  pub bytes : AllFit w8 f
  pub size : length f ≤ n

abbrev pub RoomsAt : Sizes → Type 0
RoomsAt s = Room u8 s.config × (Room u8 s.tables × (Room u8 s.slots × (Room u8 s.timers × (Room u8 s.answer × Unit {0}))))

-- the stores and a run, whatever it returned
record Stopped (ρ : Routine) (q : Places) (s : Sizes) (f : List ℕ) (σ : machine.Memory) : Type 0 where
  pub between : machine.Memory
  pub stores : Stores q.buffer.0 q.buffer.1 f σ between
  pub fuel : ℕ
  pub value : Val
  pub last : machine.Memory
  pub run : step ρ fuel (arguments q s (length f)) between ≡ ended (value, last)

-- what a call leaves: the blocks at m', and the buffer at bytes of the same number
pub record Called (ρ : Routine) (q : Places) (s : Sizes) (f : List ℕ) (Φ : Memory → ℕ → Type 0) (n : ℕ) (σ : machine.Memory) (F : Pr) : Type 1 where
  pub last : machine.Memory
  pub memory : Memory
  pub result : ℕ
  pub buffer : List ℕ
  pub runs : CallRuns ρ q s f σ last memory result
  pub says : Φ memory result
  pub small : result < 256
  pub size : length buffer ≡ n
  pub holds : last ⊨ Cells (blocks_of q memory) ∗ (Buffer q.buffer buffer ∗ F)

module _ (q : Places) (s : Sizes) (rooms : RoomsAt s) (n : ℕ) (small : n < 2 ^ 63) (f : List ℕ) (fits : FitsBuffer n f)
    (m : Memory) (sized : lengths_of m ≡ s) (d : List ℕ) (whole : length d ≡ n) (σ : machine.Memory) (F : Pr)
    (held : σ ⊨ Cells (blocks_of q m) ∗ (Buffer q.buffer d ∗ F)) where
  room : Room u8 (length f)
  room = (omega (arith, fits.size), omega (arith, fits.size))

  abbrev front : Pr
  front = Front q.buffer f d (blocks_of q m) σ F

  abbrev rest : Pr
  rest = Rest q.buffer f d (blocks_of q m) σ F

  kept : ∥ ((σ₀ : machine.Memory) × Stores q.buffer.0 q.buffer.1 f σ σ₀ × (σ₀ ⊨ (front ∗ Cells (blocks_of q m)) ∗ (rest ∗ F))) ∥₁
  kept = stored q.buffer f d (blocks_of q m) σ F (omega (arith, fits.size, whole)) fits.bytes held

  -- the routine ρ has run from the host's stores on, and what it left is lent again
  called : (ρ : Routine) (Φ : Memory → ℕ → Type 0) (k : Stopped ρ q s f σ) (m' : Memory) (r : ℕ) → k.value ≡ vint w8 r → Lies q s k.last m' → Φ m' r → r < 256
      → k.last ⊨ (front ∗ Cells (blocks_of q m')) ∗ (rest ∗ F) → Called ρ q s f Φ n σ F
  called ρ Φ k m' r v l x small h =
      record {
        last = k.last;
        memory = m';
        result = r;
        buffer = overwritten f d;
        runs = record {
          between = k.between;
          stores = k.stores;
          fuel = k.fuel;
          run = subst (λ (u : Val). step ρ k.fuel (arguments q s (length f)) k.between ≡ ended (u, k.last)) v k.run;
          lies = l;
        };
        says = x;
        small = small;
        size = as_long f d (omega (arith, fits.size, whole)) ∙ whole;
        holds = lent_again q.buffer f d (blocks_of q m') k.last F h;
      }

  -- the same sizes as before
  sizes : (ρ : Routine) (σ₀ : machine.Memory) (k : ℕ) {σ' : machine.Memory} {v : Val} → step ρ k (arguments q (lengths_of m) (length f)) σ₀ ≡ ended (v, σ') → step ρ k (arguments q s (length f)) σ₀ ≡ ended (v, σ')
  sizes ρ σ₀ k {σ'} {v} e = subst (λ (z : Sizes). step ρ k (arguments q z (length f)) σ₀ ≡ ended (v, σ')) sized e

  module _ (x : Executive) where
    pub configure_called : ∥ Called x.configure q s f (λ m' r. Configures x.limits f m m' r) n σ F ∥₁
    configure_called =
        ∥∥₁_elim kept ∥∥₁_prop (λ t.
        ∥∥₁_map (x.configures q f m (room, subst RoomsAt (sym sized) rooms) t.0 (rest ∗ F) t.2) (λ k.
        let m' : Memory = left_by_configure q f m k.last in
        let e : lengths_of m' ≡ s = (λ i. record { config = k.same.1.0 i; tables = k.same.1.1.0 i; slots = k.same.1.1.1.0 i; timers = k.same.1.1.1.1.0 i; answer = k.same.1.1.1.1.1.0 i }) ∙ sized in
        let stop : Stopped x.configure q s f σ = record { between = t.0; stores = t.1; fuel = k.fuel; value = k.value; last = k.memory; run = sizes x.configure t.0 k.fuel k.run } in
        called x.configure (λ m' r. Configures x.limits f m m' r) stop m' k.result (ap only k.is.0) (record { sizes = e; loads = k.loads.1; bytes = k.bytes.1 }) k.says k.is.1 k.holds))

    pub frame_called : ∥ Called x.frame q s f (λ m' r. Frames x.limits f m m' r) n σ F ∥₁
    frame_called =
        ∥∥₁_elim kept ∥∥₁_prop (λ t.
        ∥∥₁_map (x.frames q f m (room, subst RoomsAt (sym sized) rooms) t.0 (rest ∗ F) t.2) (λ k.
        let m' : Memory = left_by_frame q f m k.last in
        let e : lengths_of m' ≡ s = (λ i. record { config = length m.config; tables = k.same.1.1.0 i; slots = k.same.1.1.1.0 i; timers = k.same.1.1.1.1.0 i; answer = k.same.1.1.1.1.1.0 i }) ∙ sized in
        let stop : Stopped x.frame q s f σ = record { between = t.0; stores = t.1; fuel = k.fuel; value = k.value; last = k.memory; run = sizes x.frame t.0 k.fuel k.run } in
        called x.frame (λ m' r. Frames x.limits f m m' r) stop m' k.result (ap only k.is.0) (record { sizes = e; loads = k.loads.1; bytes = k.bytes.1 }) k.says k.is.1 k.holds))

-- ---- a list of frames
pub record FramesRan (x : Executive) (q : Places) (s : Sizes) (σ : machine.Memory) (m : Memory) (fs : List (List ℕ)) : Type 0 where
  pub answers : List (List ℕ)
  pub numbers : List ℕ
  pub last : machine.Memory
  pub memory : Memory
  pub runs : FramesRun x q s σ m fs answers numbers last memory

-- F is what else lies in the memory
pub feeds : (x : Executive) (q : Places) (s : Sizes) → RoomsAt s → (n : ℕ) → n < 2 ^ 63 → {fs : List (List ℕ)} → Every (FitsBuffer n) fs → (m : Memory) → lengths_of m ≡ s
    → (d : List ℕ) → length d ≡ n → (σ : machine.Memory) (F : Pr) → σ ⊨ Cells (blocks_of q m) ∗ (Buffer q.buffer d ∗ F) → ∥ FramesRan x q s σ m fs ∥₁
feeds x q s rooms n small nil m e d w σ F h = ∣ record { answers = []; numbers = []; last = σ; memory = m; runs = none } ∣₁
feeds x q s rooms n small (cons {x = f} l ls) m e d w σ F h =
    ∥∥₁_elim (frame_called q s rooms n small f l m e d w σ F h x) ∥∥₁_prop (λ k.
    ∥∥₁_map (feeds x q s rooms n small ls k.memory k.runs.lies.sizes k.buffer k.size k.last F k.holds) (λ t.
    record { answers = answer_of k.memory ∷ t.answers; numbers = k.result ∷ t.numbers; last = t.last; memory = t.memory; runs = call k.runs t.runs }))
