-- What an accepted configuration says: each of its checks has passed.
use Rattle.std.specs.Prelude.{ℕ, ◌+◌, ◌-◌, ◌*◌, ◌≤◌, ◌≡◌, refl, true, ◌&&◌, List, leb, length, take, drop}
use Rattle.std.proofs.Common.{arith, leb-true, length-take, length-drop}
use Rattle.std.proofs.lemmas.Bool.{not-false}
use Rattle.ledger.specs.Lists.{byte, all, within}
use Rattle.ledger.specs.Config.{QueueShape, Config, config_in, controller, most_pairs, front, good_head, few_enough, good_values, good_length, good_pair, good_rest, config_checks, config_refusal}
use Rattle.ledger.specs.Services.{shape}
use Rattle.ledger.specs.Good.{Numbered}
use Rattle.ledger.proofs.Theorems.Twos.{twos_length}
use Rattle.ledger.proofs.Theorems.Checks.{and_left, and_right, within_numbered, passes, at_all}

pub record Shaped (s : QueueShape) : Type 0 where
  pub width : Numbered 16 s.width
  pub depth : Numbered 255 s.depth

pub record Configured (c : Config) : Type 0 where
  pub tasks : Numbered 126 c.T
  pub queues : c.Q ≤ 32
  pub timers : c.R ≤ 64
  pub messages : c.G ≤ 64
  pub ticks : Numbered 255 c.K
  pub semaphores : c.S + c.T + 2 * c.Q ≤ 255
  pub states : length c.states ≡ c.T
  pub low : all (λ s. leb s 1) c.states ≡ true
  pub shapes : length c.shapes ≡ c.Q
  pub shaped : (q : ℕ) → Numbered c.Q q → Shaped (shape c q)
  pub pairs : all (good_pair c.T c.states) c.pairs ≡ true

all_shaped : (c : Config) → length c.shapes ≡ c.Q → all (λ s. within 1 16 s.width && within 1 255 s.depth) c.shapes ≡ true → (q : ℕ) → Numbered c.Q q → Shaped (shape c q)
unfolding shape
all_shaped c e h q n =
    let s = shape c q in
    let k = at_all (λ s. within 1 16 s.width && within 1 255 s.depth) c.shapes q (record { width = 0; depth = 0 }) h (omega arith) in
    record { width = within_numbered 16 s.width (and_left _ (within 1 255 s.depth) k); depth = within_numbered 255 s.depth (and_right (within 1 16 s.width) _ k) }

checked : (c : Config) → good_head controller c ≡ true → good_rest controller c ≡ true → length c.states ≡ c.T → length c.shapes ≡ c.Q → Configured c
unfolding good_head few_enough good_values good_rest
checked c h r s q =
    record {
      tasks = record { from = leb-true 1 c.T (search (and_left, and_right) depth 9); upto = leb-true c.T 126 (search (and_left, and_right) depth 9) };
      queues = leb-true c.Q 32 (search (and_left, and_right) depth 9);
      timers = leb-true c.R 64 (search (and_left, and_right) depth 9);
      messages = leb-true c.G 64 (search (and_left, and_right) depth 9);
      ticks = within_numbered 255 c.K (search (and_left, and_right) depth 9);
      semaphores = leb-true (c.S + c.T + 2 * c.Q) 255 (search (and_left, and_right) depth 9);
      states = s;
      low = search (and_left, and_right) depth 9;
      shapes = q;
      shaped = all_shaped c q (search (and_left, and_right) depth 9);
      pairs = search (and_left, and_right) depth 9;
    }

-- with what is in front of the pairs, and no more than they may be
pub record Long (m n : ℕ) : Type 0 where
  pub front : m ≤ n
  pub most : n ≤ m + 2 * most_pairs

pub long : (m n : ℕ) → good_length m n ≡ true → Long m n
unfolding good_length
long m n h =
    let r : n - m ≤ 2 * most_pairs = leb-true (n - m) (2 * most_pairs) (search (and_left, and_right) depth 9) in
    record { front = leb-true m n (search (and_left, and_right) depth 9); most = omega arith }

-- as many shapes as queues, in a frame that has them all
pub shapes_many : (f : List ℕ) → front (config_in f) ≤ length f → length (config_in f).shapes ≡ (config_in f).Q
unfolding config_in
shapes_many f h =
    let l : length (take (2 * byte 2 f) (drop (8 + byte 0 f) f)) ≡ 2 * byte 2 f = simp (length-take, length-drop) (omega arith) in
    twos_length _ _ (byte 2 f) (omega (arith, l)) (omega (arith, l))

pub states_many : (f : List ℕ) → front (config_in f) ≤ length f → length (config_in f).states ≡ (config_in f).T
unfolding config_in
states_many f h = simp (length-take, length-drop) (omega arith)

-- its checks, but for the first
pub record Passed (g : List ℕ) : Type 0 where
  pub head : good_head controller (config_in g) ≡ true
  pub whole : Long (front (config_in g)) (length g)
  pub rest : good_rest controller (config_in g) ≡ true

pub passed : (g : List ℕ) → config_refusal g ≡ 0 → Passed g
unfolding config_refusal
passed g h =
    let p = passes (config_checks g) refl h in
    record { head = not-false _ p.1.0; whole = long (front (config_in g)) (length g) (not-false _ p.1.1.0); rest = not-false _ p.1.1.1.0 }

pub configured : (g : List ℕ) → config_refusal g ≡ 0 → Configured (config_in g)
configured g h = let p = passed g h in checked (config_in g) p.head p.rest (states_many g p.whole.front) (shapes_many g p.whole.front)
