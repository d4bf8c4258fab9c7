-- A call that is fed from a buffer of the host's, at the closed model: the host stores the call's bytes f at the front of the
-- buffer
-- d, which lies at p, and the call is lent them with the slices L; then the buffer is one slice again, f in front of d's rest.
use Rattle.std.specs.Prelude.{◌≡◌, ℕ, ◌+◌, ◌≤◌, List, ◌++◌, length, drop}
use Rattle.std.proofs.Math.Logic.{∥∥₁_map}
use Rattle.std.proofs.Common.{arith, length-append, length-drop}
use Rattle.std.specs.Int.{w8}
use base.Logic.{ent, via, comm∗, assoc∗, assoc', mono_l, mono_r}
use prog.Memory.{Memory}
use prog.Model.{AllFit}
use ghost.Model as closed
use Rattle.running.specs.Slices.{shr, mut, Slice}
use Rattle.running.specs.Memories as memories
use Rattle.running.proofs.Stored as stores
use Rattle.running.specs.Stores.{Stores}
use Rattle.running.specs.Machine.{Pr, Cell, Cells, ◌∗◌, ◌⊨◌, weaken, swap, bytes_at}
use contract.BorrowModel.{logic₀}
use contract.Closed.{model⁺}

to_call : (X Y Z F : Pr) → ent closed.𝓤 (X ∗ (Y ∗ (Z ∗ F))) ((X ∗ Z) ∗ (Y ∗ F))
to_call X Y Z F = via closed.𝓤 (X ∗ (Z ∗ (Y ∗ F))) (mono_r closed.𝓤 X (swap Y Z F)) (assoc' closed.𝓤 X Z (Y ∗ F))

from_call : (X Y Z F : Pr) → ent closed.𝓤 ((X ∗ Z) ∗ (Y ∗ F)) (Z ∗ ((X ∗ Y) ∗ F))
from_call X Y Z F =
    via closed.𝓤 ((Z ∗ X) ∗ (Y ∗ F)) (mono_l closed.𝓤 (Y ∗ F) (comm∗ closed.𝓤 X Z))
    (via closed.𝓤 (Z ∗ (X ∗ (Y ∗ F))) (assoc∗ closed.𝓤 Z X (Y ∗ F)) (mono_r closed.𝓤 Z (assoc' closed.𝓤 X Y F)))

abbrev pub Buffer : ℕ × ℕ → List ℕ → Pr
Buffer p d = Cell (bytes_at mut p d)

abbrev pub overwritten : (f d : List ℕ) → List ℕ
overwritten f d = f ++ drop (length f) d

pub as_long : (f d : List ℕ) → length f ≤ length d → length (overwritten f d) ≡ length d
as_long f d l = simp (length-append, length-drop) (omega (arith, l))

module _ (p : ℕ × ℕ) (f d : List ℕ) (L : List Slice) (σ : Memory) (F : Pr) where
  abbrev pub Front : Pr
  Front = Cell (bytes_at shr p f)

  abbrev pub Rest : Pr
  Rest = Cell (bytes_at shr (p.0, p.1 + length f) (drop (length f) d))

  pub stored : length f ≤ length d → AllFit w8 f → σ ⊨ Cells L ∗ (Buffer p d ∗ F)
      → ∥ ((σ₀ : Memory) × Stores p.0 p.1 f σ σ₀ × (σ₀ ⊨ (Front ∗ Cells L) ∗ (Rest ∗ F))) ∥₁
  stored l fits held =
      ∥∥₁_map (stores.sat_stores logic₀ model⁺ f d σ p.0 p.1 (Cells L ∗ F) l fits (weaken σ (swap (Cells L) (Buffer p d) F) held)) (λ t.
      (t.0, t.1, weaken t.0 (to_call Front Rest (Cells L) F) t.2))

  pub lent_again : σ ⊨ (Front ∗ Cells L) ∗ (Rest ∗ F) → σ ⊨ Cells L ∗ (Buffer p (overwritten f d) ∗ F)
  lent_again held =
      weaken σ (via closed.𝓤 (Cells L ∗ ((Front ∗ Rest) ∗ F)) (from_call Front Rest (Cells L) F)
      (mono_r closed.𝓤 (Cells L) (mono_l closed.𝓤 F (memories.join logic₀ model⁺ f (drop (length f) d) p.0 p.1)))) held
