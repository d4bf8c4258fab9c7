-- One call of the session program's functions on the machine: from every memory that holds what is lent, and with the room that
-- their `requires` ask for, `feed` and `finish` run, end, and leave bytes of which their contract holds. What is handed on from
-- call to call, a `Reached`, is passed by value.
use Prim.Native.Nat.{ℕ, ◌+◌, ◌*◌, ◌<◌, ◌≤◌, ◌^◌}
use mathlib.Core.Path.{◌≡◌, refl, subst}
use mathlib.Core.List.{List, [], ◌∷◌}
use lib.ListN.{length, drop}
use mir.Val.{Val}
use base.Logic.{ent, emp, via, emp∗, mono_l, mono_r, snd∗}
use base.Fml.{ftrue}
use prog.Memory as machine
use ghost.Model as closed
use ghost.Atoms.{meaning}
use contract.BorrowModel.{logic₀}
use contract.Closed.{model⁺}
use denote.Builtin.{usize}
use denote.Exit.{left as value-left}
use denote.Laws.{Is}
use denote.Struct.Laws as struct
use denote.Enum.Laws as enum
use denote.Triple.Spec.{triple_of}
use denote.Triple.Statement.{Contract}
use denote.Triple.End.{Fins, lasts_of}
use Rattle.theorems.proofs.World.{environment, feed_wired, finish_wired}
use Rattle.running.specs.Slices.{shr, mut, Slice, Ids, LastValues, vals_of, val_of, ref_of, lifetimes_of, shares_of, references_of, passed_of, Rooms, own_as, owns_of, lefts_of, toks_of}
use Rattle.running.specs.Machine.{Pr, A₀, 𝓡₀, 𝓡_in, Cells, ◌∗◌, ◌⊨◌, Enters, Leaves, asks, leaves_by, Ran, bytes_at}
use Rattle.running.proofs.Runs.{runs}
use Rattle.mcx11.specs.Contract.{memory}
use Rattle.ledger.specs.Config.{controller}
use Rattle.mcx11.specs.Sizes.{Full}
use Rattle.feeding.specs.declared.Stage.{Stage}
use Rattle.feeding.specs.declared.Stage.TheVariants.{First, Running, Ended}
use Rattle.feeding.specs.declared.Reached.{Reached}
use Rattle.feeding.specs.Line.{most}
use Rattle.feeding.specs.Feeds.{Lent, lent, Feeds, Ends}
use Rattle.feeding.specs.contracts.Stage as stage
use Rattle.feeding.proofs.Stage.TheLaws as stage_laws
use Rattle.feeding.specs.contracts.Reached as reached
use Rattle.feeding.proofs.Reached.TheLaws as reached-laws
use Rattle.feeding.specs.contracts.feed as feed
use Rattle.feeding.proofs.feed.Symbol as feed-symbol
use Rattle.feeding.proofs.feed.Met as feed-met
use Rattle.feeding.specs.contracts.finish as finish
use Rattle.feeding.proofs.finish.Symbol as finish-symbol
use Rattle.feeding.proofs.finish.Met as finish-met
use Rattle.theorems.proofs.OneCall.{Places}

-- ---- a `Reached` as the machine's value
abbrev pub lowered : Reached → Val
lowered = reached-laws.lowered

stage_is : (p : Stage) → Is stage.the_row p (enum.vals stage.the_type stage_laws.the_laws p)
stage_is First = enum.owes stage.the_type stage_laws.the_laws First tt
stage_is Running = enum.owes stage.the_type stage_laws.the_laws Running tt
stage_is Ended = enum.owes stage.the_type stage_laws.the_laws Ended tt

pub is_lowered : (r : Reached) → r.next < 2 ^ 64 → r.held < 2 ^ 64 → r.printed < 2 ^ 64 → Is reached.the_row r (lowered r ∷ [])
is_lowered r n h p =
    let i : Is reached.the_row r (struct.vals reached.the_type reached-laws.the_laws r) = struct.owes reached.the_type reached-laws.the_laws r ((refl, n), (stage_is r.stage, ((refl, h), ((refl, p), tt)))) in
    subst (Is reached.the_row r) ((reached-laws.lowers).val_is r (struct.vals reached.the_type reached-laws.the_laws r) i) i

pub lowered_is : (r : Reached) (v : Val) → Is reached.the_row r (v ∷ []) → v ∷ [] ≡ lowered r ∷ []
lowered_is r v i = (reached-laws.lowers).val_is r (v ∷ []) i

owns_it : (r : Reached) → Is reached.the_row r (lowered r ∷ []) → ent closed.𝓤 (emp closed.𝓤) (meaning closed.𝓤 closed.H A₀ ((reached.the_row).own_val r (lowered r ∷ [])))
owns_it r is = struct.makes reached.the_type reached-laws.the_plain logic₀ r (lowered r ∷ []) is

-- ---- where all that is lent lies: the input's buffer and the five blocks, the line and the output
pub record ProgramPlaces : Type 0 where
  pub blocks : Places
  pub line : ℕ × ℕ
  pub out : ℕ × ℕ

abbrev pub memory_slices : ProgramPlaces → Lent → List Slice
memory_slices p x = bytes_at mut p.blocks.config x.memory.config ∷ bytes_at mut p.blocks.tables x.memory.tables ∷ bytes_at mut p.blocks.slots x.memory.slots ∷ bytes_at mut p.blocks.timers x.memory.timers ∷ bytes_at mut p.blocks.answer x.memory.answer ∷ bytes_at mut p.out x.out ∷ []

abbrev pub lent_slices : ProgramPlaces → Lent → List Slice
lent_slices p x = bytes_at mut p.line x.line ∷ memory_slices p x

-- ---- `feed`, with the block b
abbrev pub FeedAsks : List ℕ → Reached → Lent → Type 0
FeedAsks b r x = (r.next ≤ length b) × (r.held ≤ most) × (r.printed ≤ 41 * r.next) × (41 * length b ≤ length x.out) × (most ≤ length x.line) × Full controller x.memory

abbrev pub FeedGives : List ℕ → Reached → Lent → Reached → Lent → Type 0
FeedGives b r x r' x' = (r'.next ≡ length b) × (r'.held ≤ most) × (r'.printed ≤ length x.out) × Feeds (drop r.next b) r x r' x'

abbrev feed_contract : Contract closed.𝓤
feed_contract = triple_of logic₀ feed.signature (feed.spec logic₀ model⁺.mem 𝓡₀.returns)

module _ (p : ProgramPlaces) (b : List ℕ) (r : Reached) (x : Lent) where
  abbrev block : Slice
  block = bytes_at shr p.blocks.buffer b

  abbrev pub feed_slices : List Slice
  feed_slices = block ∷ lent_slices p x

  abbrev pub feed_values : List Val
  feed_values = val_of block ∷ lowered r ∷ vals_of (lent_slices p x)

  abbrev pub left_by_feed : LastValues feed_slices → Lent
  left_by_feed ws = lent ws.1.0 (memory ws.1.1.0 ws.1.1.1.0 ws.1.1.1.1.0 ws.1.1.1.1.1.0 ws.1.1.1.1.1.1.0) ws.1.1.1.1.1.1.1.0

  abbrev pub FeedSays : Reached → LastValues feed_slices → Type 0
  FeedSays r' ws = FeedGives b r x r' (left_by_feed ws)

  abbrev feed_bound : Ids feed_slices → feed_contract.Ghost
  feed_bound i = ((lifetimes_of feed_slices i, shares_of feed_slices, tt, (ref_of block i.0.1, (r, references_of (lent_slices p x) i.1)), (val_of block ∷ [], (lowered r ∷ [], passed_of (lent_slices p x)))), tt)

  feed_enters : Is reached.the_row r (lowered r ∷ []) → FeedAsks b r x → (i : Ids feed_slices) → ent closed.𝓤 (Enters feed_slices reached.the_row i) (feed_contract.pre (feed_bound i))
  feed_enters is a i =
      let K : Pr = toks_of logic₀ feed_slices i in
      let B : Pr = meaning closed.𝓤 closed.H A₀ (own_as shr 0 i.0.0 i.0.1 block) in
      let R : Pr = meaning closed.𝓤 closed.H A₀ ((reached.the_row).own_val r (lowered r ∷ [])) in
      let T : Pr = meaning closed.𝓤 closed.H A₀ (owns_of 1 (lent_slices p x) i.1) in
      via closed.𝓤 (K ∗ (B ∗ (R ∗ T))) (mono_r closed.𝓤 K (mono_r closed.𝓤 B (via closed.𝓤 (emp closed.𝓤 ∗ T) (emp∗ closed.𝓤 T) (mono_l closed.𝓤 T (owns_it r is))))) (asks (K ∗ (B ∗ (R ∗ T))) (FeedAsks b r x) a)

  feed_leaves : (i : Ids feed_slices) (v : Val) → ent closed.𝓤 (feed_contract.post (feed_bound i) v) (Leaves feed_slices reached.the_row FeedSays i v)
  feed_leaves i v =
      leaves_by feed_slices reached.the_row FeedSays i v (Fins (lifetimes_of feed_slices i) (feed.signature).params (feed.ended).kept (feed_bound i).0.3)
      (λ ws. lasts_of (lifetimes_of feed_slices i) (feed.signature).params (feed.ended).kept (feed_bound i).0.3 ws) (λ r' ws. FeedSays r' (ws.0, ws.1.1)) (λ ws. (ws.0, ws.1.1))
      (λ ws. mono_r closed.𝓤 (meaning closed.𝓤 closed.H A₀ ftrue) (snd∗ closed.𝓤 (meaning closed.𝓤 closed.H A₀ (value-left ((reached.the_row).exit (feed.ended).kept.1.0) r ws.1.0)) (meaning closed.𝓤 closed.H A₀ (lefts_of (lent_slices p x) i.1 ws.1.1)))) (λ r' ws h. h)

  pub feed_runs : Is reached.the_row r (lowered r ∷ []) → FeedAsks b r x → Rooms feed_slices → (σ : machine.Memory) (F : Pr) → σ ⊨ Cells feed_slices ∗ F
      → ∥ Ran (environment feed-symbol.name) feed_values feed_slices reached.the_row FeedSays σ F ∥₁
  feed_runs is a = runs (environment feed-symbol.name) feed_contract (feed-met.met closed.𝓤 logic₀ model⁺ (𝓡_in environment) feed_wired) feed_slices reached.the_row feed_bound feed_values (λ i. refl) (feed_enters is a) FeedSays feed_leaves

-- ---- `finish`
abbrev pub FinishAsks : Reached → Lent → Type 0
FinishAsks r x = (r.held ≤ most) × (r.printed + 41 ≤ length x.out) × (most ≤ length x.line) × Full controller x.memory

abbrev pub FinishGives : Reached → Lent → (out' : List ℕ) → ℕ → Type 0
FinishGives r x out' n = (n ≤ r.printed + 41) × Ends r x out' n

abbrev finish_contract : Contract closed.𝓤
finish_contract = triple_of logic₀ finish.signature (finish.spec logic₀ model⁺.mem 𝓡₀.returns)

module _ (p : ProgramPlaces) (r : Reached) (x : Lent) where
  abbrev pub finish_slices : List Slice
  finish_slices = bytes_at shr p.line x.line ∷ memory_slices p x

  abbrev pub finish_values : List Val
  finish_values = lowered r ∷ vals_of finish_slices

  abbrev pub FinishSays : ℕ → LastValues finish_slices → Type 0
  FinishSays n ws = FinishGives r x ws.1.1.1.1.1.1.0 n

  abbrev finish_bound : Ids finish_slices → finish_contract.Ghost
  finish_bound i = ((lifetimes_of finish_slices i, shares_of finish_slices, tt, (r, references_of finish_slices i), (lowered r ∷ [], passed_of finish_slices)), tt)

  finish_enters : Is reached.the_row r (lowered r ∷ []) → FinishAsks r x → (i : Ids finish_slices) → ent closed.𝓤 (Enters finish_slices usize i) (finish_contract.pre (finish_bound i))
  finish_enters is a i =
      let K : Pr = toks_of logic₀ finish_slices i in
      let R : Pr = meaning closed.𝓤 closed.H A₀ ((reached.the_row).own_val r (lowered r ∷ [])) in
      let T : Pr = meaning closed.𝓤 closed.H A₀ (owns_of 0 finish_slices i) in
      via closed.𝓤 (K ∗ (R ∗ T)) (mono_r closed.𝓤 K (via closed.𝓤 (emp closed.𝓤 ∗ T) (emp∗ closed.𝓤 T) (mono_l closed.𝓤 T (owns_it r is)))) (asks (K ∗ (R ∗ T)) (FinishAsks r x) a)

  finish_leaves : (i : Ids finish_slices) (v : Val) → ent closed.𝓤 (finish_contract.post (finish_bound i) v) (Leaves finish_slices usize FinishSays i v)
  finish_leaves i v =
      leaves_by finish_slices usize FinishSays i v (Fins (lifetimes_of finish_slices i) (finish.signature).params (finish.ended).kept (finish_bound i).0.3)
      (λ ws. lasts_of (lifetimes_of finish_slices i) (finish.signature).params (finish.ended).kept (finish_bound i).0.3 ws) (λ n ws. FinishSays n ws.1) (λ ws. ws.1)
      (λ ws. snd∗ closed.𝓤 (meaning closed.𝓤 closed.H A₀ (value-left ((reached.the_row).exit (finish.ended).kept.0) r ws.0)) (meaning closed.𝓤 closed.H A₀ (lefts_of finish_slices i ws.1))) (λ n ws h. h)

  pub finish_runs : Is reached.the_row r (lowered r ∷ []) → FinishAsks r x → Rooms finish_slices → (σ : machine.Memory) (F : Pr) → σ ⊨ Cells finish_slices ∗ F
      → ∥ Ran (environment finish-symbol.name) finish_values finish_slices usize FinishSays σ F ∥₁
  finish_runs is a = runs (environment finish-symbol.name) finish_contract (finish-met.met closed.𝓤 logic₀ model⁺ (𝓡_in environment) finish_wired) finish_slices usize finish_bound finish_values (λ i. refl) (finish_enters is a) FinishSays finish_leaves
