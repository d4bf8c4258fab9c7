-- Runs of frames, from a memory that holds the blocks and the buffer, are calls as the contract says, from block to block the same: for each frame there is a run that meets it, and the machine has one run.
use Prim.Native.Nat.{ℕ, ◌<◌, ◌^◌}
use mathlib.Core.Path.{◌≡◌, refl, ap}
use mathlib.Core.Logic.{∥∥₁_prop, ∥∥₁_elim, ∥∥₁_map}
use mathlib.Core.List.{List, ◌∷◌}
use lib.ListN.{length}
use base.Logic.{via, snd∗}
use prog.Memory as machine
use ghost.Model as closed
use Rattle.running.specs.Slices.{Slice}
use Rattle.running.specs.Memories.{LoadsAll}
use Rattle.running.specs.Machine.{Pr, Cells, ◌∗◌, ◌⊨◌, weaken, held_loads}
use Rattle.running.proofs.Buffer.{Buffer}
use Rattle.ledger.specs.Config.{Config}
use Rattle.ledger.specs.Seen.{Seen}
use Rattle.ledger.proofs.Theorems.Parts.{Every, nil, cons}
use Rattle.mcx11.specs.Contract.{Memory, Sizes}
use Rattle.theorems.specs.Calls as contracts
use Rattle.theorems.proofs.OneCall.{Places, Executive}
use Rattle.theorems.proofs.Runs.{lengths_of, blocks_of, FramesRun, none, call, seen_run, FitsBuffer, RoomsAt, frame_called}
use Rattle.theorems.proofs.CallOneRun.{known}

-- the calls, of which a host sees the same, and what else lies in the memory afterwards
pub record RunCalls (x : Executive) (O : List Slice) {q : Places} {s : Sizes} {σ σ' : machine.Memory} {m m' : Memory} {fs answers : List (List ℕ)} {numbers : List ℕ}
    (runs : FramesRun x q s σ m fs answers numbers σ' m') : Type 0 where
  pub calls : contracts.FrameCalls x.limits m fs answers numbers m'
  pub seen : (c : Config) → contracts.seen c calls ≡ seen_run c runs
  pub others : LoadsAll σ' O

module _ (x : Executive) (q : Places) (s : Sizes) (rooms : RoomsAt s) (n : ℕ) (small : n < 2 ^ 63) (O : List Slice) (F : Pr) where
  pub run_calls : {fs : List (List ℕ)} → Every (FitsBuffer n) fs → (m : Memory) → lengths_of m ≡ s → (d : List ℕ) → length d ≡ n → (σ : machine.Memory) → σ ⊨ Cells (blocks_of q m) ∗ (Buffer q.buffer d ∗ (Cells O ∗ F))
      → {answers : List (List ℕ)} {numbers : List ℕ} {σ' : machine.Memory} {m' : Memory} (runs : FramesRun x q s σ m fs answers numbers σ' m') → ∥ RunCalls x O runs ∥₁
  unfolding contracts.seen seen_run
  run_calls nil m e d w σ h none =
      let B : Pr = Cells (blocks_of q m) in
      ∥∥₁_map (held_loads σ O F (weaken σ (via closed.𝓤 (Buffer q.buffer d ∗ (Cells O ∗ F)) (snd∗ closed.𝓤 B (Buffer q.buffer d ∗ (Cells O ∗ F))) (snd∗ closed.𝓤 (Buffer q.buffer d) (Cells O ∗ F))) h)) (λ o.
      record { calls = contracts.none; seen = λ c. refl; others = o })
  run_calls (cons {x = f} l ls) m e d w σ h (call {σ₁ = σ₁} {m₁ = m₁} {r = r} k more) =
      ∥∥₁_elim (frame_called q s rooms n small f l m e d w σ (Cells O ∗ F) h x) ∥∥₁_prop (λ t.
      let o = known t k in
      ∥∥₁_map (run_calls ls m₁ k.lies.sizes t.buffer t.size σ₁ o.holds more) (λ z.
      record { calls = contracts.call o.says z.calls; seen = λ c. ap (λ (ss : List Seen). contracts.seen_call c f m m₁ r ∷ ss) (z.seen c); others = z.others }))
