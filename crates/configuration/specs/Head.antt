-- The rule for the first eight bytes: what its two parts say of them.
use Rattle.std.specs.Prelude.{◌≡◌, true, false, ◌+◌, ◌*◌, ◌≤◌, leb}
use borrow.Author.Tests.{le-leb, leb-true}
use Rattle.tables.specs.Encoded.{case}
use Rattle.ledger.proofs.Theorems.Checks.{and_left, and_right, within_numbered}
use Rattle.ledger.specs.Config.{Config, Limits, few_enough, good_values, good_head}

-- ---- how much there is of each

pub record Few (m : Limits) (c : Config) : Type 0 where
  pub tasks : c.T ≤ m.tasks
  pub queues : c.Q ≤ m.queues
  pub timers : c.R ≤ m.timers
  pub messages : c.G ≤ m.messages

module _ (m : Limits) (c : Config) where
  -- by the last of the tests
  pub few_last : c.T ≤ m.tasks → c.Q ≤ m.queues → c.R ≤ m.timers → few_enough m c ≡ leb c.G m.messages
  unfolding few_enough
  few_last t q r = rw (le-leb c.T m.tasks t, le-leb c.Q m.queues q, le-leb c.R m.timers r)

  pub few_says : few_enough m c ≡ true → Few m c
  unfolding few_enough
  few_says e =
      record {
        tasks = leb-true c.T m.tasks (search (and_left, and_right) depth 9);
        queues = leb-true c.Q m.queues (search (and_left, and_right) depth 9);
        timers = leb-true c.R m.timers (search (and_left, and_right) depth 9);
        messages = leb-true c.G m.messages (search (and_left, and_right) depth 9);
      }

  pub few_not : (Few m c → ⊥) → few_enough m c ≡ false
  few_not n = case (few_enough m c) (λ e. absurd (n (few_says e))) (λ e. e)

-- ---- what no limit is about

pub record Values (c : Config) : Type 0 where
  pub some : 1 ≤ c.T
  pub ticks : 1 ≤ c.K
  pub tocks : c.K ≤ 255
  pub long : 1 ≤ c.ms
  pub short : c.ms ≤ 65535
  pub sum : c.S + c.T + 2 * c.Q ≤ 255

module _ (c : Config) where
  pub values_last : 1 ≤ c.T → (1 ≤ c.K) × (c.K ≤ 255) → (1 ≤ c.ms) × (c.ms ≤ 65535) → good_values c ≡ leb (c.S + c.T + 2 * c.Q) 255
  unfolding good_values
  values_last t k ms = rw (le-leb 1 c.T t, le-leb 1 c.K k.0, le-leb c.K 255 k.1, le-leb 1 c.ms ms.0, le-leb c.ms 65535 ms.1)

  pub values_say : good_values c ≡ true → Values c
  unfolding good_values
  values_say e =
      let k = within_numbered 255 c.K (search (and_left, and_right) depth 9) in
      let ms = within_numbered 65535 c.ms (search (and_left, and_right) depth 9) in
      record {
        some = leb-true 1 c.T (search (and_left, and_right) depth 9);
        ticks = k.from;
        tocks = k.upto;
        long = ms.from;
        short = ms.upto;
        sum = leb-true (c.S + c.T + 2 * c.Q) 255 (search (and_left, and_right) depth 9);
      }

  pub values_not : (Values c → ⊥) → good_values c ≡ false
  values_not n = case (good_values c) (λ e. absurd (n (values_say e))) (λ e. e)

-- ---- both

pub record Head (m : Limits) (c : Config) : Type 0 where
  pub few : Few m c
  pub values : Values c

pub head_says : (m : Limits) (c : Config) → good_head m c ≡ true → Head m c
unfolding good_head
head_says m c e = record { few = few_says m c (and_left (few_enough m c) (good_values c) e); values = values_say c (and_right (few_enough m c) (good_values c) e) }
