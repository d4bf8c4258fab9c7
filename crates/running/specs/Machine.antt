-- OneRun and Memories at the closed model of the kit, in which nothing is assumed.
--     σ ⊨ P          some resource of the model agrees with the machine's memory σ and has P
--     Cells L        the bytes of the slices L are owned
--     Ran            a routine was run on slices from a memory, and ended so
-- That a routine which meets its contract has such a run, from every memory that holds the slices, is `runs` of proofs/Runs.antt.
use Rattle.std.specs.Prelude.{◌≡◌, ℕ, List, [], ◌∷◌, ◌++◌}
use mir.Val.{Val}
use base.Logic.{SProp, ent, sep, ex, emp, via, comm∗, assoc∗, assoc', emp∗, mono∗, mono_l, mono_r, fst∗, ex_i, ex_e}
use Rattle.std.specs.Borrow.{Fml, RattleType}
use prog.Memory.{Memory}
use prog.Machine.{done as ended}
use prog.AdequacyRun.{start_mem}
use prog.Routine.{Env, Routine, step}
use ghost.Model as closed
use ghost.Atoms.{Atoms, meaning}
use contract.Running.{Running, within}
use contract.BorrowModel.{logic₀}
use contract.Closed.{model⁺, real⁺}
use contract.Monad.{fact, fact_i, fact_mono}
use contract.Adequate.{Satisfies, sat_weaken}
use denote.Laws.{Is}
use Rattle.running.specs.Slices.{Kind, Slice, Ids, LastValues, afters, SameLengths, AreBytes, lefts_of, cells_at, cells_of, toks_of}
use Rattle.running.specs.OneRun as any
use Rattle.running.specs.OneRun.{Lending}
use Rattle.running.specs.LentSlices as slices
use Rattle.running.specs.Memories as memories
use Rattle.running.specs.Memories.{LoadsAll, side_by_side, inarow, AllBytes}

abbrev pub Pr : Type 2
Pr = SProp closed.𝓤

abbrev pub A₀ : Atoms closed.𝓤
A₀ = logic₀.A

abbrev pub 𝓡₀ : Running closed.𝓤 closed.H model⁺
𝓡₀ = real⁺

-- the same where names mean what γ says: a function's theorem is about its routine `γ name` in each environment γ that is wired with its code
abbrev pub 𝓡_in : Env → Running closed.𝓤 closed.H model⁺
𝓡_in = within closed.𝓤 closed.H model⁺ real⁺

abbrev pub Cells : List Slice → Pr
Cells = cells_of logic₀

abbrev pub Cell : Slice → Pr
Cell = cells_at logic₀

abbrev pub ◌∗◌ : Pr → Pr → Pr
P ∗ Q = sep closed.𝓤 P Q

infixr 35 ◌∗◌
abbrev pub ◌⊨◌ : Memory → Pr → Type 1
σ ⊨ P = Satisfies closed.𝓤 closed.H model⁺ σ P

infix 26 ◌⊨◌
pub weaken : (σ : Memory) {P Q : Pr} → ent closed.𝓤 P Q → σ ⊨ P → σ ⊨ Q
weaken σ h s = sat_weaken closed.𝓤 closed.H model⁺ σ h s

pub swap : (P Q R : Pr) → ent closed.𝓤 (P ∗ (Q ∗ R)) (Q ∗ (P ∗ R))
swap P Q R = via closed.𝓤 ((P ∗ Q) ∗ R) (assoc' closed.𝓤 P Q R) (via closed.𝓤 ((Q ∗ P) ∗ R) (mono_l closed.𝓤 R (comm∗ closed.𝓤 P Q)) (assoc∗ closed.𝓤 Q P R))

pub in_front : (P Q R : Pr) → ent closed.𝓤 (Q ∗ (P ∗ R)) ((P ∗ Q) ∗ R)
in_front P Q R = via closed.𝓤 (P ∗ (Q ∗ R)) (swap Q P R) (assoc' closed.𝓤 P Q R)

-- ---- one run

-- slices are lent
abbrev pub lending : List Slice → Lending closed.𝓤
lending = slices.lending logic₀

abbrev pub Enters : (L : List Slice) (T : RattleType) → Ids L → Pr
Enters L T = any.Enters logic₀ model⁺ (lending L) T

abbrev pub Leaves : (L : List Slice) (T : RattleType) → (T.Denot → LastValues L → Type 0) → Ids L → Val → Pr
Leaves L T = any.Leaves logic₀ model⁺ (lending L) T

-- a contract with no `requires`
pub asks_nothing : (P : Pr) → ent closed.𝓤 P (P ∗ emp closed.𝓤)
asks_nothing P = via closed.𝓤 (emp closed.𝓤 ∗ P) (emp∗ closed.𝓤 P) (comm∗ closed.𝓤 (emp closed.𝓤) P)

-- and one that asks φ
pub asks : (P : Pr) (φ : Type 0) → φ → ent closed.𝓤 P (P ∗ fact closed.𝓤 φ)
asks P φ x =
    via closed.𝓤 (emp closed.𝓤 ∗ P) (emp∗ closed.𝓤 P)
    (via closed.𝓤 (fact closed.𝓤 φ ∗ P) (mono_l closed.𝓤 P (fact_i closed.𝓤 φ (emp closed.𝓤) x)) (comm∗ closed.𝓤 (fact closed.𝓤 φ) P))

-- whatever is owned can be let go
pub drops : (P : Pr) → ent closed.𝓤 P (emp closed.𝓤)
drops P = via closed.𝓤 (emp closed.𝓤 ∗ P) (emp∗ closed.𝓤 P) (fst∗ closed.𝓤 (emp closed.𝓤) P)

-- a contract about values too: what it says at exit, with a last value for each of its parameters, is brought to the slices'
module _ (L : List Slice) (T : RattleType) (Φ : T.Denot → LastValues L → Type 0) (ids : Ids L) (v : Val) (X : Type 0) (lefts : X → Fml) (Ψ : T.Denot → X → Type 0)
    (to : X → LastValues L) (left : (ws : X) → ent closed.𝓤 (meaning closed.𝓤 closed.H A₀ (lefts ws)) (meaning closed.𝓤 closed.H A₀ (lefts_of L ids (to ws))))
    (says : (r : T.Denot) (ws : X) → Ψ r ws → Φ r (to ws)) where
  abbrev Back : T.Denot → Pr
  Back r = toks_of logic₀ L ids ∗ meaning closed.𝓤 closed.H A₀ (T.own_val r (v ∷ []))

  abbrev Theirs : T.Denot → X → Pr
  Theirs r ws = meaning closed.𝓤 closed.H A₀ (lefts ws) ∗ fact closed.𝓤 (Ψ r ws)

  abbrev Ours : T.Denot → LastValues L → Pr
  Ours r ws = meaning closed.𝓤 closed.H A₀ (lefts_of L ids ws) ∗ fact closed.𝓤 (Φ r ws)

  brought : (r : T.Denot) → ent closed.𝓤 (ex closed.𝓤 (Theirs r)) (ex closed.𝓤 (Ours r))
  brought r = ex_e closed.𝓤 (Theirs r) (λ ws. via closed.𝓤 (Ours r (to ws)) (mono∗ closed.𝓤 (left ws) (fact_mono closed.𝓤 (Ψ r ws) (Φ r (to ws)) (says r ws))) (ex_i closed.𝓤 (Ours r) (to ws)))

  pub leaves_by : ent closed.𝓤 ((closed.H).⇛ (ex closed.𝓤 (λ (r : T.Denot). Back r ∗ ex closed.𝓤 (Theirs r)))) (Leaves L T Φ ids v)
  leaves_by =
      model⁺.⇛_mono (ex closed.𝓤 (λ (r : T.Denot). Back r ∗ ex closed.𝓤 (Theirs r))) (ex closed.𝓤 (λ (r : T.Denot). Back r ∗ ex closed.𝓤 (Ours r)))
      (ex_e closed.𝓤 (λ (r : T.Denot). Back r ∗ ex closed.𝓤 (Theirs r)) (λ r. via closed.𝓤 (Back r ∗ ex closed.𝓤 (Ours r)) (mono_r closed.𝓤 (Back r) (brought r)) (ex_i closed.𝓤 (λ (r : T.Denot). Back r ∗ ex closed.𝓤 (Ours r)) r)))

-- the routine ρ was run on the machine values vs, with the slices L, from σ, and ended so: what is in `loads` is what the
-- machine loads afterwards, and F is as it was
pub record Ran (ρ : Routine) (vs : List Val) (L : List Slice) (T : RattleType) (Φ : T.Denot → LastValues L → Type 0) (σ : Memory) (F : Pr) : Type 1 where
  pub fuel : ℕ
  pub value : Val
  pub result : T.Denot
  pub last : LastValues L
  pub memory : Memory
  pub run : step ρ fuel vs σ ≡ ended (value, memory)
  pub is : Is T result (value ∷ [])
  pub says : Φ result last
  pub same : SameLengths L last
  pub bytes : AreBytes (afters L last)
  pub loads : LoadsAll memory (afters L last)
  pub holds : memory ⊨ Cells (afters L last) ∗ F

-- ---- memories
pub begins : (ps : List (Kind × List ℕ)) → AllBytes ps → start_mem (inarow ps) [] ⊨ Cells (side_by_side 0 ps) ∗ emp closed.𝓤
begins ps f = memories.begins logic₀ model⁺ ps f

pub held_loads : (σ : Memory) (L : List Slice) (F : Pr) → σ ⊨ Cells L ∗ F → ∥ LoadsAll σ L ∥₁
held_loads σ L F h = memories.sat_loads logic₀ model⁺ σ L F h

pub cells_append : (L K : List Slice) → ent closed.𝓤 (Cells (L ++ K)) (Cells L ∗ Cells K)
cells_append [] K = emp∗ closed.𝓤 (Cells K)
cells_append (B ∷ L) K = via closed.𝓤 (Cell B ∗ (Cells L ∗ Cells K)) (mono_r closed.𝓤 (Cell B) (cells_append L K)) (assoc' closed.𝓤 (Cell B) (Cells L) (Cells K))

-- a slice at a place
abbrev pub bytes_at : Kind → ℕ × ℕ → List ℕ → Slice
bytes_at k p d = record { kind = k; bytes = d; b = p.0; o = p.1 }
