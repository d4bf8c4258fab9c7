-- What an accepted frame says.
use Rattle.std.specs.Prelude.{◌≡◌, true, ◌&&◌, ℕ, ◌+◌, ◌*◌, ◌≤◌, leb, length}
use Rattle.std.proofs.Common.{refl, sym, ◌∙◌, arith}
use Rattle.std.proofs.Math.Path.{ap, subst}
use mathlib.Core.List.{List, map}
use Rattle.rows.specs.Splice.{cut}
use Rattle.ledger.specs.Lists.{byte, sum, all}
use Rattle.ledger.specs.Config.{QueueShape, config_in, controller, front, config_refusal}
use Rattle.ledger.proofs.Theorems.Configured.{Long, passed, states_many, shapes_many}
use Rattle.ledger.proofs.Theorems.Checks.{and_left, and_right}
use Rattle.tables.specs.declared.shape.Shape.{Shape}
use Rattle.tables.specs.Shows.{Of}
use Rattle.configuration.specs.Block.{product, good_queues, good_pairs, rule, rest_parts, front_is, shapes_in_lem}
use Rattle.configuration.specs.Limits.{controller_made}
use Rattle.configuration.specs.Layout.{laid_out, shape_of, rule_room, of_shape}
use Rattle.configuration.specs.Room.{bytes_in}

pub record Accepted (f : List ℕ) : Type 0 where
  pub whole : Long (8 + byte 0 f + 2 * byte 2 f) (length f)
  pub states : all (λ s. leb s 1) (config_in f).states ≡ true
  pub rule : rule controller (config_in f) ≡ true

pub accepted : (f : List ℕ) → config_refusal f ≡ 0 → Accepted f
unfolding config_in rule
accepted f h =
    let c = config_in f in
    let p = passed f h in
    let r : (all (λ s. leb s 1) c.states && good_queues controller c) ≡ true = and_left _ (good_pairs c) (sym (rest_parts controller c) ∙ p.rest) in
    record {
      whole = p.whole;
      states = and_left _ (good_queues controller c) r;
      rule = rw p.head (and_right (all (λ s. leb s 1) c.states) _ r);
    }

module _ (f : List ℕ) (a : Accepted f) where
  pub accepted_length : 8 ≤ length f
  accepted_length = omega (arith, a.whole.front)

  front_in : front (config_in f) ≤ length f
  front_in = omega (arith, front_is f, a.whole.front)

  pub accepted_states : length (config_in f).states ≡ (config_in f).T
  accepted_states = states_many f front_in

  -- the shape of its tables
  pub accepted_of : Of (config_in f) (shape_of (config_in f))
  accepted_of = of_shape controller controller_made (config_in f) a.rule (shapes_many f front_in)

  -- as it is laid out, with the bytes of the queues
  module _ (n : ℕ) (en : n ≡ bytes_in (cut f (8 + byte 0 f) (8 + byte 0 f + 2 * byte 2 f))) where
    bytes_are : n ≡ sum (map product (config_in f).shapes)
    unfolding bytes_in
    bytes_are = en ∙ ap (λ (x : List QueueShape). sum (map product x)) (sym (shapes_in_lem f (byte 0 f) (byte 2 f) refl refl))

    pub accepted_room : n ≤ 4096
    accepted_room = omega (arith, bytes_are, rule_room controller controller_made (config_in f) a.rule)

    pub accepted_laid : (s : Shape) → s ≡ laid_out (byte 0 f) (byte 1 f) (byte 2 f) (byte 3 f) (byte 4 f) (byte 5 f) n → Of (config_in f) s
    unfolding config_in shape_of
    accepted_laid s es = subst (Of (config_in f)) (sym (es ∙ ap (laid_out (byte 0 f) (byte 1 f) (byte 2 f) (byte 3 f) (byte 4 f) (byte 5 f)) bytes_are)) accepted_of
