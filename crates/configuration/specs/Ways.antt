-- The ways out of a frame's check, in their order.
use Rattle.std.specs.Prelude.{◌≡◌, Bool, true, false, not, List, [], ◌∷◌, ℕ, ◌+◌, ◌*◌, ◌<◌, ◌≤◌, length}
use Rattle.std.proofs.Math.Path.{sym, ap}
use Rattle.std.proofs.Common.{◌∙◌, arith, lt-ltb, le-ltb}
use Rattle.ledger.specs.Lists.{first, ◌⇒◌, byte}
use Rattle.ledger.specs.Config.{Limits, config_in, controller, front, good_head, good_length, good_rest, config_refusal}
use Rattle.ledger.proofs.Theorems.Configured.{long as long_is}

-- ---- by limits that are the controller's
module _ (m : Limits) (is : m ≡ controller) (f : List ℕ) where
  pub too_short : length f < 8 → 2 ≡ config_refusal f
  unfolding config_refusal first
  too_short h = sym (rw (lt-ltb (length f) 8 h))

  module _ (long : 8 ≤ length f) where
    head_of : (b : Bool) → b ≡ good_head m (config_in f) → good_head controller (config_in f) ≡ b
    head_of b e = ap (λ (k : Limits). good_head k (config_in f)) (sym is) ∙ sym e

    pub bad_head : false ≡ good_head m (config_in f) → 3 ≡ config_refusal f
    unfolding config_refusal first
    bad_head e = sym (rw (le-ltb (length f) 8 long, head_of false e))

    module _ (head : true ≡ good_head m (config_in f)) (n : ℕ) (en : n ≡ 8 + byte 0 f + 2 * byte 2 f) where
      length_of : (b : Bool) → b ≡ good_length n (length f) → good_length (front (config_in f)) (length f) ≡ b
      unfolding config_in
      length_of b e = ap (λ (k : ℕ). good_length k (length f)) (sym en) ∙ sym e

      pub wrong_length_lem : false ≡ good_length n (length f) → 2 ≡ config_refusal f
      unfolding config_refusal first
      wrong_length_lem e = sym (rw (le-ltb (length f) 8 long, head_of true head, length_of false e))

      module _ (whole : true ≡ good_length n (length f)) where
        by_rest : (b : Bool) → b ≡ good_rest m (config_in f) → config_refusal f ≡ first (not b ⇒ 3 ∷ [])
        unfolding config_refusal first
        by_rest b e =
            let r : good_rest controller (config_in f) ≡ b = ap (λ (k : Limits). good_rest k (config_in f)) (sym is) ∙ sym e in
            rw (le-ltb (length f) 8 long, head_of true head, length_of true whole, r)

        pub bad_rest : false ≡ good_rest m (config_in f) → 3 ≡ config_refusal f
        unfolding first
        bad_rest e = sym (by_rest false e)

        pub accepted : true ≡ good_rest m (config_in f) → 0 ≡ config_refusal f
        unfolding first
        accepted e = sym (by_rest true e)

        pub front_inside : 8 + byte 0 f + 2 * byte 2 f ≤ length f
        front_inside = omega (arith, (long_is n (length f) (sym whole)).front)
