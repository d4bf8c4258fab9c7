-- The sum so far and the bytes of the queues from k on are all.
use Rattle.std.proofs.Common.{◌≡◌, ℕ, ◌+◌, ◌*◌, ◌/◌, ◌%◌, ◌≤◌, drop}
use Rattle.ledger.specs.Lists.{sum}
use Rattle.ledger.specs.Config.{twos}
use Rattle.configuration.proofs.frame.total.Given as goal

abbrev pub invariant-loop-k : goal.invariant-loop-k
invariant-loop-k g l = record {
  low : l.sum ≤ 65025 * l.k;
  so_far : (f : ℕ → ℕ → ℕ) → ((size n : ℕ) → goal.F-post g l.bytes size n → n ≡ f (size % 256) (size / 256)) → sum (twos f l.shapes) ≡ l.sum + sum (twos f (drop (2 * l.k) l.shapes));
}
