-- An executive with its own limits: what document 01 refuses keeps its number, 27 is given just where it refuses nothing and the
-- configuration is above the limits, and the controller gives none.
use Rattle.std.specs.Prelude.{ℕ, ◌≡◌, Bool, not, List, [], ◌∷◌}
use Rattle.std.proofs.Math.Path.{refl, ap}
use Rattle.std.proofs.Common.{sym, ◌∙◌, arith}
use Rattle.std.proofs.Math.Bool.{true, false}
use Rattle.std.proofs.Math.Decide.{ℕ_discrete}
use Rattle.ledger.specs.Lists.{first, ◌⇒◌}
use Rattle.ledger.specs.Config.{Config, Limits, controller, config_in, few_enough, good_values, good_head, good_rest, config_checks, config_refusal, is_within, config_refusal_by}
use Rattle.ledger.proofs.Theorems.Checks.{and_left, and_right, never_given, joined_fails, joined_passes, passes_joined}
use Rattle.ledger.proofs.Theorems.Configured.{passed}

-- ---- the numbers

module _ (m : Limits) (f : List ℕ) where
  pub other_number : (config_refusal f ≡ 0 → ⊥) → config_refusal_by m f ≡ config_refusal f
  unfolding config_refusal config_refusal_by
  other_number h = joined_fails (config_checks f) (not (is_within m (config_in f)) ⇒ 27 ∷ []) h

  last_check : config_refusal f ≡ 0 → config_refusal_by m f ≡ first (not (is_within m (config_in f)) ⇒ 27 ∷ [])
  unfolding config_refusal config_refusal_by
  last_check h = joined_passes (config_checks f) (not (is_within m (config_in f)) ⇒ 27 ∷ []) refl h

  pub accepted_by : config_refusal f ≡ 0 → is_within m (config_in f) ≡ true → config_refusal_by m f ≡ 0
  unfolding first
  accepted_by h k = last_check h ∙ ap (λ (b : Bool). first (not b ⇒ 27 ∷ [])) k

  pub gives_27 : config_refusal f ≡ 0 → is_within m (config_in f) ≡ false → config_refusal_by m f ≡ 27
  unfolding first
  gives_27 h k = last_check h ∙ ap (λ (b : Bool). first (not b ⇒ 27 ∷ [])) k

  pub by_accepted : config_refusal_by m f ≡ 0 → (config_refusal f ≡ 0) × (is_within m (config_in f) ≡ true)
  unfolding config_refusal config_refusal_by first
  by_accepted h =
      let p = passes_joined (config_checks f) (not (is_within m (config_in f)) ⇒ 27 ∷ []) refl h in
      (p.0, go (is_within m (config_in f)) refl p.1)
    where
      go : (b : Bool) → is_within m (config_in f) ≡ b → first (not b ⇒ 27 ∷ []) ≡ 0 → b ≡ true
      go true e z = refl
      go false e z = absurd (omega (arith, z))

  -- and no other configuration gets it
  pub says_27 : config_refusal_by m f ≡ 27 → (config_refusal f ≡ 0) × (is_within m (config_in f) ≡ false)
  unfolding config_refusal first
  says_27 h = elim (ℕ_discrete (config_refusal f) 0) [
    | yes z ↦ (z, go (is_within m (config_in f)) refl (sym (last_check z) ∙ h))
    | no z ↦ absurd (never_given 27 (λ e. omega (arith, e)) (config_checks f) refl (sym (other_number z) ∙ h))
  ]
    where
      go : (b : Bool) → is_within m (config_in f) ≡ b → first (not b ⇒ 27 ∷ []) ≡ 27 → b ≡ false
      go true e z = absurd (omega (arith, z))
      go false e z = refl

-- ---- the limits of a configuration that the checks pass

module _ (m : Limits) (c : Config) (k : is_within m c ≡ true) where
  pub head_within : good_head controller c ≡ true → good_head m c ≡ true
  unfolding good_head is_within
  head_within h = rw (and_left (few_enough m c) _ k) (and_right (few_enough controller c) (good_values c) h)

pub within_controller : (c : Config) → good_head controller c ≡ true → good_rest controller c ≡ true → is_within controller c ≡ true
unfolding good_head good_rest is_within
within_controller c h r = rw (and_left (few_enough controller c) (good_values c) h) (search (and_left, and_right) depth 9)

pub controller_gives : (f : List ℕ) → config_refusal_by controller f ≡ config_refusal f
controller_gives f = elim (ℕ_discrete (config_refusal f) 0) [
  | yes z ↦ let p = passed f z in accepted_by controller f z (within_controller (config_in f) p.head p.rest) ∙ sym z
  | no z ↦ other_number controller f z
]
