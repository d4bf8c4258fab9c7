-- A host stores what it lends, each thing in a block of its own, beside other bytes, and calls a routine that meets its contract. At the
-- closed model.
--     Hosts          a memory comes about so
--     hosts          there is such a memory (and but one)
--     Call           what makes a routine one with these parameters
--     runs           from every such memory it has a run
--     every-run      and every run ends as the contract says, with the other bytes as they were
use Rattle.std.specs.Prelude.{ℕ, suc, ◌+◌, ◌≡◌, length}
use Rattle.std.proofs.Math.Path.{refl}
use Rattle.std.proofs.Common.{sym, subst, ◌∙◌, arith, length-append}
use Rattle.std.proofs.Math.Logic.{∥∥₁_prop, ∥∥₁_elim, ∥∥₁_map}
use mathlib.Core.List.{List, [], ◌∷◌}
use Rattle.std.specs.Int.{w8}
use mir.Val.{Val}
use base.Logic.{ent, emp, comm∗, assoc∗, emp∗, snd∗}
use prog.Memory.{Memory, alloc_m}
use prog.Machine.{done as ended}
use prog.Model.{AllFit}
use prog.AdequacyRun.{start_mem}
use prog.Routine.{Routine, step}
use ghost.Model as closed
use contract.BorrowModel.{logic₀}
use contract.Closed.{model⁺, real⁺_strict}
use contract.Adequate.{start_Satisfies}
use Rattle.std.specs.Borrow.{RattleType}
use denote.Laws.{Is}
use denote.Triple.Statement.{Contract, Triple}
use Rattle.running.specs.Slices.{shr}
use Rattle.running.specs.Memories.{Loads}
use Rattle.running.specs.OneRun as any
use Rattle.running.specs.Machine.{Pr, 𝓡₀, Cells, ◌∗◌, ◌⊨◌, weaken, swap, in_front, held_loads, bytes_at}
use Rattle.running.specs.Rows.{RoomAt, sat_alloc}
use Rattle.running.specs.One.{run_one}
use Rattle.running.specs.Lent.{Param, value, lent, Fits, Ids, LastValues, firsts, Held, hands_out, takes_back, lending, Enters, Leaves}

-- ---- the host's memory

-- a new block for each thing
abbrev pub blocks : List Param → Memory → Memory
blocks [] σ = σ
blocks (value w n ∷ L) σ = blocks L σ
blocks (lent P ∷ L) σ = blocks L (alloc_m σ P.block)

-- from σ to σ': they are stored, one after the other
abbrev pub Fills : (k : ℕ) (L : List Param) (σ σ' : Memory) → Type 0
Fills k [] σ σ' = σ ≡ σ'
Fills k (value w n ∷ L) σ σ' = Fills k L σ σ'
Fills k (lent P ∷ L) σ σ' = (σ₁ : Memory) × P.Stores (k + 2) σ σ₁ × Fills (suc k) L σ₁ σ'

-- at their last values they are what the machine loads
abbrev pub LoadsAll : (σ : Memory) (k : ℕ) (L : List Param) → LastValues L → Type 0
LoadsAll σ k [] ws = Unit {0}
LoadsAll σ k (value w n ∷ L) ws = LoadsAll σ k L ws.1
LoadsAll σ k (lent P ∷ L) ws = P.Loads σ (k + 2) ws.0 × LoadsAll σ (suc k) L ws.1

abbrev Rooms : ℕ → List Param → Pr
Rooms k [] = emp closed.𝓤
Rooms k (value w n ∷ L) = Rooms k L
Rooms k (lent P ∷ L) = RoomAt P.block (k + 2) 0 ∗ Rooms (suc k) L

-- the new blocks have room for them
have_room : (k : ℕ) (L : List Param) (σ : Memory) (F : Pr) → length σ ≡ k + 2 → σ ⊨ F → blocks L σ ⊨ Rooms k L ∗ F
have_room k [] σ F e s = weaken σ (emp∗ closed.𝓤 F) s
have_room k (value w n ∷ L) σ F e s = have_room k L σ F e s
have_room k (lent P ∷ L) σ F e s =
    let R : Pr = RoomAt P.block (k + 2) 0 in
    let σ₁ : Memory = alloc_m σ P.block in
    let more : length σ₁ ≡ suc k + 2 = length-append σ _ ∙ omega (arith, e) in
    weaken (blocks L σ₁) (in_front R (Rooms (suc k) L) F)
    (have_room (suc k) L σ₁ (R ∗ F) more (subst (λ (b : ℕ). σ₁ ⊨ RoomAt P.block b 0 ∗ F) e (sat_alloc σ P.block F s)))

-- where they fit they are stored, and are then owned
fills : (k : ℕ) (L : List Param) (σ : Memory) (F : Pr) → Fits L → σ ⊨ Rooms k L ∗ F → ∥ ((σ' : Memory) × Fills k L σ σ' × (σ' ⊨ Held k L (firsts L) ∗ F)) ∥₁
fills k [] σ F f s = ∣ (σ, refl, s) ∣₁
fills k (value w n ∷ L) σ F f s = fills k L σ F f.1 s
fills k (lent P ∷ L) σ F f s =
    let R : Pr = Rooms (suc k) L in
    let H : Pr = P.held (k + 2) P.first in
    ∥∥₁_elim (P.stores σ (k + 2) (R ∗ F) f.0 (weaken σ (assoc∗ closed.𝓤 (RoomAt P.block (k + 2) 0) R F) s)) ∥∥₁_prop (λ a.
    ∥∥₁_map (fills (suc k) L a.0 (H ∗ F) f.1 (weaken a.0 (swap H R F) a.2)) (λ b.
    (b.0, (a.0, a.1, b.1), weaken b.0 (in_front H (Held (suc k) L (firsts L)) F) b.2)))

-- the stores lead to one memory
fills_one : (k : ℕ) (L : List Param) (σ σ' σ'' : Memory) → Fills k L σ σ' → Fills k L σ σ'' → σ' ≡ σ''
fills_one k [] σ σ' σ'' e f = sym e ∙ f
fills_one k (value w n ∷ L) σ σ' σ'' e f = fills_one k L σ σ' σ'' e f
fills_one k (lent P ∷ L) σ σ' σ'' e f =
    fills_one (suc k) L e.0 σ' σ'' e.2 (subst (λ (τ : Memory). Fills (suc k) L τ σ'') (sym (P.stores_one (k + 2) σ e.0 f.0 e.1 f.1)) f.2)

-- what is owned is what the machine loads
loads_all : (σ : Memory) (k : ℕ) (L : List Param) (ws : LastValues L) (F : Pr) → σ ⊨ Held k L ws ∗ F → ∥ LoadsAll σ k L ws ∥₁
loads_all σ k [] ws F s = ∣ tt ∣₁
loads_all σ k (value w n ∷ L) ws F s = loads_all σ k L ws.1 F s
loads_all σ k (lent P ∷ L) ws F s =
    let H : Pr = P.held (k + 2) ws.0 in
    let R : Pr = Held (suc k) L ws.1 in
    let all : σ ⊨ H ∗ (R ∗ F) = weaken σ (assoc∗ closed.𝓤 H R F) s in
    ∥∥₁_elim (P.loads σ (k + 2) ws.0 (R ∗ F) all) ∥∥₁_prop (λ a.
    ∥∥₁_map (loads_all σ (suc k) L ws.1 F (weaken σ (snd∗ closed.𝓤 H (R ∗ F)) all)) (λ b. (a, b)))

-- the other bytes in block 0, none in block 1, and what is lent in the blocks from 2 on
abbrev pub Hosts : List Param → List ℕ → Memory → Type 0
Hosts L o σ = Fills 0 L (blocks L (start_mem o [])) σ

abbrev Others : List ℕ → Pr
Others o = Cells (bytes_at shr (0, 0) o ∷ [])

module _ (L : List Param) (o : List ℕ) (f : Fits L) (fo : AllFit w8 o) where
  held : ∥ ((σ : Memory) × Hosts L o σ × (σ ⊨ Held 0 L (firsts L) ∗ Others o)) ∥₁
  unfolding start_mem
  held = fills 0 L (blocks L (start_mem o [])) (Others o) f (have_room 0 L (start_mem o []) (Others o) refl (start_Satisfies closed.𝓤 closed.H model⁺ o [] fo tt))

  -- there is such a memory
  pub hosts : ∥ ((σ : Memory) × Hosts L o σ) ∥₁
  hosts = ∥∥₁_map held (λ k. (k.0, k.1))

-- ---- the call

-- the routine ρ, called at the machine values vs, meets a contract of the parameters L, which says Φ of its result and of the last values
pub record Call (ρ : Routine) (vs : List Val) (L : List Param) (T : RattleType) (Φ : T.Denot → LastValues L → Type 0) : Type 2 where
  pub contract : Contract closed.𝓤
  pub met : Triple closed.𝓤 (𝓡₀.run ρ) contract
  pub bound : Ids L → contract.Ghost
  pub passes : (i : Ids L) → contract.args (bound i) ≡ vs
  pub enters : (i : Ids L) → ent closed.𝓤 (Enters L T i) (contract.pre (bound i))
  pub leaves : (i : Ids L) (v : Val) → ent closed.𝓤 (contract.post (bound i) v) (Leaves L T Φ i v)

-- what is so once it has ended with the value v and the memory `last`
pub record Done (L : List Param) (o : List ℕ) (T : RattleType) (Φ : T.Denot → LastValues L → Type 0) (v : Val) (last : Memory) : Type 0 where
  pub result : T.Denot
  pub values : LastValues L
  pub is : Is T result (v ∷ [])
  pub says : Φ result values
  pub loads : LoadsAll last 0 L values
  pub others : Loads last 0 0 o

abbrev pub Runs : Routine → List Val → Memory → Val → Memory → Type 0
Runs ρ vs σ v last = (fuel : ℕ) × (step ρ fuel vs σ ≡ ended (v, last))

module _ {ρ : Routine} {vs : List Val} {L : List Param} {T : RattleType} {Φ : T.Denot → LastValues L → Type 0} (C : Call ρ vs L T Φ) (o : List ℕ) (f : Fits L) (fo : AllFit w8 o)
    (σ : Memory) (host : Hosts L o σ) where
  -- it has a run
  pub runs : ∥ ((v : Val) × (last : Memory) × Runs ρ vs σ v last × Done L o T Φ v last) ∥₁
  runs =
      ∥∥₁_elim (held L o f fo) ∥∥₁_prop (λ h.
      let s : σ ⊨ Held 0 L (firsts L) ∗ Others o = subst (λ (τ : Memory). τ ⊨ Held 0 L (firsts L) ∗ Others o) (fills_one 0 L (blocks L (start_mem o [])) h.0 σ h.1 host) h.2 in
      ∥∥₁_elim (any.stops logic₀ model⁺ (lending L) T (hands_out 0 L f) (takes_back 0 L) 𝓡₀ real⁺_strict ρ C.contract C.met C.bound vs C.passes C.enters Φ C.leaves σ (Others o) s) ∥∥₁_prop (λ k.
      let last : Memory = k.3 in
      let H : Pr = Held 0 L k.2.1 in
      ∥∥₁_elim (loads_all last 0 L k.2.1 (Others o) k.6) ∥∥₁_prop (λ a.
      ∥∥₁_map (held_loads last (bytes_at shr (0, 0) o ∷ []) H (weaken last (comm∗ closed.𝓤 H (Others o)) k.6)) (λ b. (
        k.1,
        last,
        (k.0, k.4),
        record { result = k.2.0; values = k.2.1; is = k.5.0; says = k.5.1; loads = a; others = b.0 },
      )))))

  -- and every run ends so
  pub every_run : {v : Val} {last : Memory} → Runs ρ vs σ v last → ∥ Done L o T Φ v last ∥₁
  every_run {v} {last} r =
      ∥∥₁_map runs (λ k.
      let e = run_one ρ vs σ k.2.0 r.0 k.2.1 r.1 in
      subst (λ (u : Val). Done L o T Φ u last) e.0 (subst (λ (τ : Memory). Done L o T Φ k.0 τ) e.1 k.3))
