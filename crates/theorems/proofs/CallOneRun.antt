-- From one memory the machine has one run: what a call returns, and what it leaves, is the same in all of its runs.
use Prim.Native.Nat.{ℕ}
use mathlib.Core.Path.{◌≡◌, sym, ap, ◌∙◌, subst}
use mathlib.Core.List.{List}
use lib.ListN.{length}
use mir.Syntax.{w8}
use mir.Val.{Val, vint}
use prog.Memory as machine
use prog.Machine.{done as ended}
use prog.Routine.{Routine, step}
use Rattle.running.specs.One.{number_one, loads_one, stores_one, run_one}
use Rattle.mcx11.specs.Contract.{Memory, Sizes}
use Rattle.theorems.proofs.OneCall.{Places}
use Rattle.running.specs.Machine.{Pr, Cells, ◌∗◌, ◌⊨◌}
use Rattle.running.proofs.Buffer.{Buffer}
use Rattle.theorems.proofs.Runs.{lengths_of, arguments, blocks_of, Lies, CallRuns, Called}

lies_one : {q : Places} {s : Sizes} {σ : machine.Memory} {m k : Memory} → Lies q s σ m → Lies q s σ k → m ≡ k
lies_one {q} {s} {σ} {m} {k} l h =
    let e : lengths_of m ≡ lengths_of k = l.sizes ∙ sym h.sizes in
    let c = loads_one σ q.config.0 q.config.1 m.config k.config (ap (λ (z : Sizes). z.config) e) l.loads.0 h.loads.0 in
    let t = loads_one σ q.tables.0 q.tables.1 m.tables k.tables (ap (λ (z : Sizes). z.tables) e) l.loads.1.0 h.loads.1.0 in
    let z = loads_one σ q.slots.0 q.slots.1 m.slots k.slots (ap (λ (z : Sizes). z.slots) e) l.loads.1.1.0 h.loads.1.1.0 in
    let w = loads_one σ q.timers.0 q.timers.1 m.timers k.timers (ap (λ (z : Sizes). z.timers) e) l.loads.1.1.1.0 h.loads.1.1.1.0 in
    let a = loads_one σ q.answer.0 q.answer.1 m.answer k.answer (ap (λ (z : Sizes). z.answer) e) l.loads.1.1.1.1.0 h.loads.1.1.1.1.0 in
    λ i. record { config = c i; tables = t i; slots = z i; timers = w i; answer = a i }

pub call_one : {ρ : Routine} {q : Places} {s : Sizes} {f : List ℕ} {σ σ' σ'' : machine.Memory} {m' m'' : Memory} {r r' : ℕ}
    → CallRuns ρ q s f σ σ' m' r → CallRuns ρ q s f σ σ'' m'' r' → (σ' ≡ σ'') × (m' ≡ m'') × (r ≡ r')
call_one {ρ} {q} {s} {f} {σ} {σ'} {σ''} {m'} {m''} {r} {r'} a b =
    let vs : List Val = arguments q s (length f) in
    let e = run_one ρ vs a.between a.fuel b.fuel a.run (subst (λ (σ₀ : machine.Memory). step ρ b.fuel vs σ₀ ≡ ended (vint w8 r', σ'')) (sym (stores_one a.stores b.stores)) b.run) in
    (e.1, lies_one a.lies (subst (λ (σ₁ : machine.Memory). Lies q s σ₁ m'') (sym e.1) b.lies), number_one w8 e.0)

-- so what one run meets and holds, every run meets and holds
pub record Known (q : Places) (Φ : Memory → ℕ → Type 0) (F : Pr) (d : List ℕ) (σ : machine.Memory) (m : Memory) (r : ℕ) : Type 1 where
  pub says : Φ m r
  pub holds : σ ⊨ Cells (blocks_of q m) ∗ (Buffer q.buffer d ∗ F)

pub known : {ρ : Routine} {q : Places} {s : Sizes} {f : List ℕ} {Φ : Memory → ℕ → Type 0} {n : ℕ} {σ σ' : machine.Memory} {F : Pr} {m' : Memory} {r : ℕ}
    → (k : Called ρ q s f Φ n σ F) → CallRuns ρ q s f σ σ' m' r → Known q Φ F k.buffer σ' m' r
known {q = q} {Φ = Φ} {F = F} {r = r} k c =
    let e = call_one k.runs c in
    subst (λ (z : machine.Memory). Known q Φ F k.buffer z _ r) e.0 (subst (λ (y : Memory). Known q Φ F k.buffer k.last y r) e.1 (subst (λ (i : ℕ). Known q Φ F k.buffer k.last k.memory i) e.2 (record { says = k.says; holds = k.holds })))
