-- The frame that the block of the configuration holds: the structure rule for it, and where its parts lie.
use Rattle.std.specs.Prelude.{◌≡◌, refl, Bool, true, false, ◌&&◌, List, map, ℕ, ◌+◌, ◌-◌, ◌*◌, ◌≤◌, length}
use Rattle.std.proofs.Math.Path.{sym, ap}
use Rattle.std.proofs.Common.{◌∙◌}
use Rattle.std.proofs.Math.Bool.{and_assoc}
use native.Mathlib.Omega.{arith}
use Rattle.std.proofs.Math.Dec.{leb}
use borrow.Author.Tests.{leb-true}
use Rattle.std.proofs.Math.ListN.{take, drop, length-drop}
use Rattle.std.proofs.Math.Seq.{take_all}
use Rattle.rows.specs.Splice.{cut}
use Rattle.ledger.specs.Lists.{within, byte, sum, all}
use Rattle.ledger.proofs.Theorems.Checks.{and_left, and_right}
use Rattle.ledger.specs.Config.{QueueShape, Config, Limits, longest, shapes_in, pairs_in, config_in, front, few_enough, good_values, good_head, good_pair, good_rest}

-- ---- the structure rule of number 11. The initial states are not read again

abbrev pub shaped : QueueShape → Bool
shaped s = within 1 16 s.width && within 1 255 s.depth

abbrev pub product : QueueShape → ℕ
product s = s.width * s.depth

unfoldable pub good_shapes : Limits → List QueueShape → Bool
good_shapes m l = all shaped l && leb (sum (map product l)) m.bytes

unfoldable pub good_queues : Limits → Config → Bool
good_queues m c = good_shapes m c.shapes

unfoldable pub rule : Limits → Config → Bool
rule m c = good_head m c && good_queues m c

-- of the frame that the block holds: it has what is in front of the pairs, and is no longer than the longest. The pairs are not tested: any
-- bytes mean pairs
unfoldable pub frame_rule : Limits → List ℕ → Bool
frame_rule m f = leb (front (config_in f)) (length f) && leb (length f) (longest m) && rule m (config_in f)

-- its first part: how long the frame is, and how much there is of each
unfoldable pub counts_rule : Limits → List ℕ → Bool
counts_rule m f = leb (front (config_in f)) (length f) && leb (length f) (longest m) && few_enough m (config_in f)

pub counts_first : (m : Limits) (f : List ℕ) → let c = config_in f in frame_rule m f ≡ (counts_rule m f && (good_values c && good_queues m c))
unfolding frame_rule counts_rule rule good_head
counts_first m f = let c = config_in f in go (leb (front c) (length f)) (leb (length f) (longest m)) (few_enough m c) (good_values c) (good_queues m c)
  where
    go : (a b x v q : Bool) → (a && b && (x && v && q)) ≡ (a && b && x && (v && q))
    go true true true v q = refl
    go true true false v q = refl
    go true false x v q = refl
    go false b x v q = refl

pub counts_fail : (m : Limits) (f : List ℕ) → counts_rule m f ≡ false → frame_rule m f ≡ false
counts_fail m f e = counts_first m f ∙ rw e

-- what a frame that keeps it has
module _ (m : Limits) (f : List ℕ) (keeps : frame_rule m f ≡ true) where
  pub frame_rule_lem : rule m (config_in f) ≡ true
  unfolding frame_rule
  frame_rule_lem = and_right (leb (front (config_in f)) (length f) && leb (length f) (longest m)) (rule m (config_in f)) keeps

  pub frame_front : 8 + byte 0 f + 2 * byte 2 f ≤ length f
  unfolding frame_rule config_in
  frame_front = leb-true (8 + byte 0 f + 2 * byte 2 f) (length f) (search (and_left, and_right) depth 9)

  pub frame_short : length f ≤ longest m
  unfolding frame_rule
  frame_short = leb-true (length f) (longest m) (search (and_left, and_right) depth 9)

unfoldable pub good_pairs : Config → Bool
good_pairs c = all (good_pair c.T c.states) c.pairs

pub rest_parts : (m : Limits) (c : Config) → good_rest m c ≡ (all (λ s. leb s 1) c.states && good_queues m c && good_pairs c)
unfolding good_rest good_queues good_shapes good_pairs
rest_parts m c =
    ap (λ (b : Bool). b && good_pairs c) (and_assoc (all (λ s. leb s 1) c.states) (all shaped c.shapes) (leb (sum (map product c.shapes)) m.bytes))

pub front_is : (f : List ℕ) → front (config_in f) ≡ 8 + byte 0 f + 2 * byte 2 f
unfolding config_in
front_is f = refl

-- ---- where its parts lie, for t tasks and q queues
module _ (f : List ℕ) (t q : ℕ) (et : t ≡ byte 0 f) (eq : q ≡ byte 2 f) where
  pub states_in : (config_in f).states ≡ cut f 8 (8 + t)
  unfolding config_in
  states_in = let e : byte 0 f ≡ 8 + t - 8 = omega arith in ap (λ (n : ℕ). take n (drop 8 f)) e

  pub shapes_in_lem : (config_in f).shapes ≡ shapes_in (cut f (8 + t) (8 + t + 2 * q))
  unfolding config_in
  shapes_in_lem =
      let e : 2 * byte 2 f ≡ 8 + t + 2 * q - (8 + t) = omega arith in
      ap (λ (n : ℕ). shapes_in (take (2 * byte 2 f) (drop (8 + n) f))) (sym et) ∙ ap (λ (n : ℕ). shapes_in (take n (drop (8 + t) f))) e

  pub pairs_in_lem : (config_in f).pairs ≡ pairs_in (cut f (8 + t + 2 * q) (length f))
  unfolding config_in
  pairs_in_lem =
      let e : take (length f - (8 + t + 2 * q)) (drop (8 + t + 2 * q) f) ≡ drop (8 + t + 2 * q) f = take_all (length f - (8 + t + 2 * q)) (drop (8 + t + 2 * q) f) (simp length-drop (omega arith)) in
      sym (ap pairs_in e ∙ rw (et, eq))
