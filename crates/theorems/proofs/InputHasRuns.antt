-- There are such runs as `InputRuns` speaks of, from every memory that holds what is lent and the input's buffer, of n bytes; and each
-- is a call of which `session` speaks.
use Prim.Native.Nat.{ℕ, ◌*◌, ◌<◌, ◌≤◌, ◌^◌}
use mathlib.Core.Path.{◌≡◌, sym, ap, ◌∙◌, subst}
use mathlib.Core.Logic.{∥∥₁_prop, ∥∥₁_elim, ∥∥₁_map}
use mathlib.Core.List.{List, [], ◌∷◌}
use native.Mathlib.Omega.{arith}
use lib.ListN.{length, take}
use mir.Val.{Val}
use prog.Memory as machine
use prog.Machine.{done as ended}
use prog.Routine.{step}
use denote.Builtin.{u8}
use denote.Laws.{Is}
use denote.Slice.{Room}
use denote.Steps.{only}
use Rattle.theorems.proofs.World.{environment}
use Rattle.running.specs.Machine.{Pr, Cells, ◌∗◌, ◌⊨◌}
use Rattle.running.proofs.Buffer.{Buffer, overwritten, as_long, Rest, stored, lent_again}
use Rattle.ledger.proofs.Theorems.Parts.{Every, nil, cons}
use Rattle.mcx11.specs.Contract.{Memory, memory}
use Rattle.ledger.specs.Config.{controller}
use Rattle.mcx11.specs.Sizes.{Full}
use Rattle.feeding.specs.declared.Reached.{Reached}
use Rattle.feeding.specs.Line.{most}
use Rattle.feeding.specs.Feeds.{again, Lent}
use Rattle.feeding.specs.contracts.Reached as reached
use Rattle.feeding.proofs.Session as calls
use Rattle.feeding.proofs.Session.{FeedCall, FinishCall, Calls}
use Rattle.feeding.proofs.feed.Symbol as feed-symbol
use Rattle.feeding.proofs.finish.Symbol as finish-symbol
use Rattle.theorems.proofs.Runs.{lengths_of, FitsBuffer}
use Rattle.theorems.proofs.OneFeed.{lowered, is_lowered, lowered_is, ProgramPlaces, lent_slices, FeedAsks, left_by_feed, feed_runs, FinishAsks, finish_runs}
use Rattle.theorems.proofs.InputRuns.{LentSizes, lent_sizes, feed_arguments, finish_arguments, FeedRuns, InputRuns, none, call, FinishRuns}
use Rattle.theorems.proofs.InputCalls.{feed_call, finish_call}

abbrev LentRooms : LentSizes → Type 0
LentRooms z = Room u8 z.line × (Room u8 z.blocks.config × (Room u8 z.blocks.tables × (Room u8 z.blocks.slots × (Room u8 z.blocks.timers × (Room u8 z.blocks.answer × (Room u8 z.out × Unit {0}))))))

pub record Roomy (z : LentSizes) (n : ℕ) : Type 0 where
  pub rooms : LentRooms z
  pub few : n < 2 ^ 63
  pub line : most ≤ z.line
  pub out : 41 * n ≤ z.out
  pub least : 41 ≤ z.out
  pub full : (m : Memory) → lengths_of m ≡ z.blocks → Full controller m

abbrev pub Input : ProgramPlaces → List ℕ → Pr
Input p d = Buffer p.blocks.buffer d

record FedOne (p : ProgramPlaces) (z : LentSizes) (b : List ℕ) (r : Reached) (x : Lent) (n : ℕ) (σ : machine.Memory) (F : Pr) : Type 1 where
  pub last : machine.Memory
  pub result : Reached
  pub left : Lent
  pub buffer : List ℕ
  pub runs : FeedRuns p z b r σ last result left
  pub call : FeedCall b r x result left
  pub held : result.held ≤ most
  pub size : length buffer ≡ n
  pub holds : last ⊨ Cells (lent_slices p left) ∗ (Input p buffer ∗ F)

-- all of the input's runs, and the calls that they are
pub record Printed (p : ProgramPlaces) (z : LentSizes) (σ : machine.Memory) (r : Reached) (x : Lent) (blocks : List (List ℕ)) : Type 0 where
  pub outputs : List (List ℕ)
  pub reached : Reached
  pub left : Lent
  pub between : machine.Memory
  pub last : machine.Memory
  pub out : List ℕ
  pub printed : ℕ
  pub runs : InputRuns p z σ r x blocks outputs between reached left
  pub finish : FinishRuns p z reached between last out printed
  pub calls : Calls blocks r x outputs reached left
  pub call : FinishCall reached left out printed

again_is : (r : Reached) → r.held ≤ most → Is reached.the_row (again r) (lowered (again r) ∷ [])
again_is r h = is_lowered (again r) (omega arith) (omega (arith, h)) (omega arith)

module _ (p : ProgramPlaces) (z : LentSizes) (n : ℕ) (roomy : Roomy z n) where
  lent_asked : (x : Lent) → lent_sizes x ≡ z → (most ≤ length x.line) × (41 * n ≤ length x.out) × (41 ≤ length x.out) × Full controller x.memory
  lent_asked x e =
      let l : length x.line ≡ z.line = ap (λ (k : LentSizes). k.line) e in
      let o : length x.out ≡ z.out = ap (λ (k : LentSizes). k.out) e in
      (omega (arith, l, roomy.line), omega (arith, o, roomy.out), omega (arith, o, roomy.least), roomy.full x.memory (ap (λ (k : LentSizes). k.blocks) e))

  fed_one : (b : List ℕ) → FitsBuffer n b → (r : Reached) → r.held ≤ most → (x : Lent) → lent_sizes x ≡ z → (d : List ℕ) → length d ≡ n
      → (σ : machine.Memory) (F : Pr) → σ ⊨ Cells (lent_slices p x) ∗ (Input p d ∗ F) → ∥ FedOne p z b r x n σ F ∥₁
  fed_one b fits r few x sized d whole σ F held =
      let rest : Pr = Rest p.blocks.buffer b d (lent_slices p x) σ F in
      let q = lent_asked x sized in
      let asked : FeedAsks b (again r) x = (omega arith, few, omega arith, omega (arith, fits.size, q.1), q.0, q.3) in
      ∥∥₁_elim (stored p.blocks.buffer b d (lent_slices p x) σ F (omega (arith, fits.size, whole)) fits.bytes held) ∥∥₁_prop (λ t.
      ∥∥₁_map (feed_runs p b (again r) x (again_is r few) asked ((omega (arith, fits.size, roomy.few), omega (arith, fits.size, roomy.few)), subst LentRooms (sym sized) roomy.rooms) t.0 (rest ∗ F) t.2) (λ k.
      let x' : Lent = left_by_feed p b (again r) x k.last in
      let s = k.same.1 in
      let e : lent_sizes x' ≡ z = (λ i. record { blocks = record { config = s.1.0 i; tables = s.1.1.0 i; slots = s.1.1.1.0 i; timers = s.1.1.1.1.0 i; answer = s.1.1.1.1.1.0 i }; line = s.0 i; out = s.1.1.1.1.1.1.0 i }) ∙ sized in
      record {
        last = k.memory;
        result = k.result;
        left = x';
        buffer = overwritten b d;
        runs = record {
          between = t.0;
          stores = t.1;
          fuel = k.fuel;
          run = subst (λ (v : Val). step (environment feed-symbol.name) k.fuel (feed_arguments p z (length b) (again r)) t.0 ≡ ended (v, k.memory)) (ap only (lowered_is k.result k.value k.is))
              (subst (λ (y : LentSizes). step (environment feed-symbol.name) k.fuel (feed_arguments p y (length b) (again r)) t.0 ≡ ended (k.value, k.memory)) sized k.run);
          lies = record { sizes = e; loads = k.loads.1 };
        };
        call = feed_call b r k.result x x' asked k.says;
        held = k.says.1;
        size = as_long b d (omega (arith, fits.size, whole)) ∙ whole;
        holds = lent_again p.blocks.buffer b d (lent_slices p x') k.memory F k.holds;
      }))

  -- all blocks, and the end
  pub inputs : {bs : List (List ℕ)} → Every (FitsBuffer n) bs → (r : Reached) → r.held ≤ most → (x : Lent) → lent_sizes x ≡ z → (d : List ℕ) → length d ≡ n
      → (σ : machine.Memory) (F : Pr) → σ ⊨ Cells (lent_slices p x) ∗ (Input p d ∗ F) → ∥ Printed p z σ r x bs ∥₁
  inputs nil r few x sized d whole σ F held =
      let q = lent_asked x sized in
      let asked : FinishAsks (again r) x = (few, omega (arith, q.2), q.0, q.3) in
      ∥∥₁_map (finish_runs p (again r) x (again_is r few) asked (subst LentRooms (sym sized) roomy.rooms) σ (Input p d ∗ F) held) (λ k.
      let w = k.last.1 in
      record {
        outputs = [];
        reached = r;
        left = x;
        between = σ;
        last = k.memory;
        out = w.1.1.1.1.1.0;
        printed = k.result;
        runs = none;
        finish = record {
          fuel = k.fuel;
          run = subst (λ (v : Val). step (environment finish-symbol.name) k.fuel (finish_arguments p z (again r)) σ ≡ ended (v, k.memory)) (ap only k.is.0)
              (subst (λ (y : LentSizes). step (environment finish-symbol.name) k.fuel (finish_arguments p y (again r)) σ ≡ ended (k.value, k.memory)) sized k.run);
          size = k.same.1.1.1.1.1.1.0 ∙ ap (λ (y : LentSizes). y.out) sized;
          loads = k.loads.1.1.1.1.1.1.0;
        };
        calls = calls.none;
        call = finish_call r x (memory w.0 w.1.0 w.1.1.0 w.1.1.1.0 w.1.1.1.1.0) w.1.1.1.1.1.0 k.result asked k.says;
      })
  inputs (cons {x = b} l ls) r few x sized d whole σ F held =
      ∥∥₁_elim (fed_one b l r few x sized d whole σ F held) ∥∥₁_prop (λ k.
      ∥∥₁_map (inputs ls k.result k.held k.left k.runs.lies.sizes k.buffer k.size k.last F k.holds) (λ t.
      record {
        outputs = take k.result.printed k.left.out ∷ t.outputs;
        reached = t.reached;
        left = t.left;
        between = t.between;
        last = t.last;
        out = t.out;
        printed = t.printed;
        runs = call k.runs t.runs;
        finish = t.finish;
        calls = calls.call k.call t.calls;
        call = t.call;
      }))
