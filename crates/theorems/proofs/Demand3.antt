-- Demand 3 about the exported functions themselves, `mcx11_configure_blocks` and `mcx11_frame_blocks`, and the module's own: a call is what
-- the checker says that a caller of the function learns, and that is the contract in mcx11.
--     demand_3             every list of calls on the ride controller
--     module_demand_3      on the brake module, against the same ledger
--     both_alike           a configuration that both accept, and the same frames
--     every_turn, module_every_turn     no timer misses a turn in what a host sees of a list of calls
use Prim.Native.Nat.{ℕ}
use mathlib.Core.Path.{◌≡◌, refl, ap, subst, ◌∙◌}
use mathlib.Core.Bool.{true}
use mathlib.Core.List.{List, ◌∷◌}
use Rattle.ledger.specs.Config.{Config, Limits, controller, brake_module, config_in, config_refusal, config_refusal_by}
use Rattle.ledger.specs.Seen.{Seen}
use Rattle.ledger.proofs.Theorems.Within.{controller_gives}
use Rattle.configuration.specs.Limits.{controller_made, brake_module_made}
use Rattle.mcx11.specs.Contract.{Memory, full_size, Configures, Frames}
use Rattle.theorems.proofs.Learnt.{FrameLearnt, FrameCallOf, FrameCallsOf, frame_learnt, ConfigureCall, FrameCall, FrameCalls, module_frame_learnt, ModuleConfigureCall, ModuleFrameCall, ModuleFrameCalls}
use Rattle.theorems.specs.Calls as calls
use Rattle.theorems.specs.Calls.{Calls, none, call, seen_call, seen}
use Rattle.mcx11.specs.Answer.{answer_of}
use Rattle.theorems.specs.Same.{Same, every_list}
use Rattle.theorems.specs.TurnsKept.{TurnsKept}
use Rattle.theorems.proofs.TurnsKept.{turns_kept}
use Rattle.theorems.specs.Alike.{Alike, alike, module_accepts}

by_contract : {k : Limits} (L : FrameLearnt) → ((f : List ℕ) (m m' : Memory) (r : ℕ) → FrameCallOf L f m m' r → Frames k f m m' r)
    → {m m' : Memory} {fs answers : List (List ℕ)} {numbers : List ℕ} → FrameCallsOf L m fs answers numbers m' → calls.FrameCalls k m fs answers numbers m'
by_contract L says none = none
by_contract L says (call s more) = call (says _ _ _ _ s) (by_contract L says more)

-- a host sees the same of them
same_seen : {k : Limits} (L : FrameLearnt) (says : (f : List ℕ) (m m' : Memory) (r : ℕ) → FrameCallOf L f m m' r → Frames k f m m' r) (c : Config)
    → {m m' : Memory} {fs answers : List (List ℕ)} {numbers : List ℕ} (all : FrameCallsOf L m fs answers numbers m') → seen c (by_contract L says all) ≡ seen c all
unfolding seen by_contract
same_seen L says c none = refl
same_seen L says c (call {f} {m} {m₁} {r = r} s more) = ap (λ (ss : List Seen). seen_call c f m m₁ r ∷ ss) (same_seen L says c more)

-- ---- the ride controller

pub configures : {g : List ℕ} {m m' : Memory} {r : ℕ} → ConfigureCall g m m' r → Configures controller g m m' r
configures s = rw (← s.bytes, ← s.before, ← s.after, ← s.number) s.learnt

pub frames : {f : List ℕ} {m m' : Memory} {r : ℕ} → FrameCall f m m' r → Frames controller f m m' r
frames s = rw (← s.bytes, ← s.before, ← s.after, ← s.number) s.learnt

-- DEMAND 3: for every accepted configuration, every memory of full size, whatever it held, and every list of frames
pub demand_3 : {g : List ℕ} {m₀ m₁ m : Memory} {r : ℕ} {fs answers : List (List ℕ)} {numbers : List ℕ}
    → config_refusal g ≡ 0 → full_size controller m₀ ≡ true → ConfigureCall g m₀ m₁ r → FrameCalls m₁ fs answers numbers m
    → Same controller g m₀ fs (answer_of m₁ ∷ answers) (r ∷ numbers) m
demand_3 {g} h full s more = every_list controller_made (controller_gives g ∙ h) full (configures s) (by_contract frame_learnt (λ f m m' r. frames) more)

-- no timer misses a turn
pub every_turn : {g : List ℕ} {m₀ m₁ m : Memory} {r : ℕ} {fs answers : List (List ℕ)} {numbers : List ℕ}
    → config_refusal g ≡ 0 → full_size controller m₀ ≡ true → ConfigureCall g m₀ m₁ r → (all : FrameCalls m₁ fs answers numbers m) → TurnsKept (config_in g) (seen (config_in g) all)
every_turn {g} h full s all =
    subst (TurnsKept (config_in g)) (same_seen frame_learnt (λ f m m' r. frames) (config_in g) all)
    (turns_kept controller_made (controller_gives g ∙ h) full (configures s) (by_contract frame_learnt (λ f m m' r. frames) all))

-- ---- the brake module

pub module_configures : {g : List ℕ} {m m' : Memory} {r : ℕ} → ModuleConfigureCall g m m' r → Configures brake_module g m m' r
module_configures s = rw (← s.bytes, ← s.before, ← s.after, ← s.number) s.learnt

pub module_frames : {f : List ℕ} {m m' : Memory} {r : ℕ} → ModuleFrameCall f m m' r → Frames brake_module f m m' r
module_frames s = rw (← s.bytes, ← s.before, ← s.after, ← s.number) s.learnt

-- against the same ledger
pub module_demand_3 : {g : List ℕ} {m₀ m₁ m : Memory} {r : ℕ} {fs answers : List (List ℕ)} {numbers : List ℕ}
    → config_refusal_by brake_module g ≡ 0 → full_size brake_module m₀ ≡ true → ModuleConfigureCall g m₀ m₁ r → ModuleFrameCalls m₁ fs answers numbers m
    → Same brake_module g m₀ fs (answer_of m₁ ∷ answers) (r ∷ numbers) m
module_demand_3 h full s more = every_list brake_module_made h full (module_configures s) (by_contract module_frame_learnt (λ f m m' r. module_frames) more)

pub module_every_turn : {g : List ℕ} {m₀ m₁ m : Memory} {r : ℕ} {fs answers : List (List ℕ)} {numbers : List ℕ}
    → config_refusal_by brake_module g ≡ 0 → full_size brake_module m₀ ≡ true → ModuleConfigureCall g m₀ m₁ r → (all : ModuleFrameCalls m₁ fs answers numbers m) → TurnsKept (config_in g) (seen (config_in g) all)
module_every_turn {g} h full s all =
    subst (TurnsKept (config_in g)) (same_seen module_frame_learnt (λ f m m' r. module_frames) (config_in g) all)
    (turns_kept brake_module_made h full (module_configures s) (by_contract module_frame_learnt (λ f m m' r. module_frames) all))

-- ---- both: what the module accepts the controller accepts too
pub both_alike : {g : List ℕ} {m₀ m₁ m n₀ n₁ n : Memory} {r t : ℕ} {fs answers₁ answers₂ : List (List ℕ)} {numbers₁ numbers₂ : List ℕ} → config_refusal_by brake_module g ≡ 0
    → full_size controller m₀ ≡ true → ConfigureCall g m₀ m₁ r → FrameCalls m₁ fs answers₁ numbers₁ m
    → full_size brake_module n₀ ≡ true → ModuleConfigureCall g n₀ n₁ t → ModuleFrameCalls n₁ fs answers₂ numbers₂ n
    → Alike g fs (answer_of m₁ ∷ answers₁) (answer_of n₁ ∷ answers₂) (r ∷ numbers₁) (t ∷ numbers₂) m n
both_alike {g} h full₁ s more₁ full₂ t more₂ = alike (demand_3 (module_accepts g h) full₁ s more₁) (module_demand_3 h full₂ t more₂)
