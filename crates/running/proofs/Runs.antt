-- A routine that meets its contract runs, at the closed model, from every memory that holds the slices that it is lent, ends, and leaves them as
-- long as they were, of bytes of which its contract holds: adequacy, between lending and taking back.
use Rattle.std.specs.Prelude.{◌≡◌, List}
use Rattle.std.proofs.Math.Logic.{∥∥₁_prop, ∥∥₁_elim, ∥∥₁_map}
use mir.Val.{Val}
use base.Logic.{ent}
use Rattle.std.specs.Borrow.{RattleType}
use prog.Memory.{Memory}
use prog.Routine.{Routine}
use ghost.Model as closed
use contract.BorrowModel.{logic₀}
use contract.Closed.{model⁺, real⁺_strict}
use denote.Triple.Statement.{Contract, Triple}
use Rattle.running.specs.Slices.{Slice, Ids, LastValues, afters, Rooms}
use Rattle.running.proofs.SlicesStop as slices
use Rattle.running.specs.Memories as memories
use Rattle.running.specs.Machine.{Pr, 𝓡₀, Cells, ◌∗◌, ◌⊨◌, Enters, Leaves, Ran}

pub runs : (ρ : Routine) (c : Contract closed.𝓤) → Triple closed.𝓤 (𝓡₀.run ρ) c → (L : List Slice) (T : RattleType) (x : Ids L → c.Ghost)
    → (vs : List Val) → ((ids : Ids L) → c.args (x ids) ≡ vs) → ((ids : Ids L) → ent closed.𝓤 (Enters L T ids) (c.pre (x ids)))
    → (Φ : T.Denot → LastValues L → Type 0) → ((ids : Ids L) (v : Val) → ent closed.𝓤 (c.post (x ids) v) (Leaves L T Φ ids v))
    → Rooms L → (σ : Memory) (F : Pr) → σ ⊨ Cells L ∗ F → ∥ Ran ρ vs L T Φ σ F ∥₁
runs ρ c met L T x vs args enters Φ leaves rooms σ F s =
    ∥∥₁_elim (slices.stops logic₀ model⁺ L T 𝓡₀ real⁺_strict ρ c met x vs args enters Φ leaves rooms σ F s) ∥∥₁_prop (λ k.
    let ws : LastValues L = k.2.1 in
    ∥∥₁_map (memories.sat_loads logic₀ model⁺ k.3 (afters L ws) F k.6) (λ l.
    record {
      fuel = k.0;
      value = k.1;
      result = k.2.0;
      last = ws;
      memory = k.3;
      run = k.4;
      is = k.5.0;
      says = k.5.1;
      same = k.5.2;
      bytes = k.5.3;
      loads = l;
      holds = k.6;
    }))
