-- A test of every element, from the first on: the loop's turns and its end.
use Rattle.std.specs.Prelude.{◌≡◌, Bool, true, false, List, ℕ, ◌+◌, ◌<◌, ◌≤◌, length, get_or, drop}
use Rattle.std.proofs.Math.Path.{ap}
use Rattle.std.proofs.Common.{◌∙◌, add-one, drop_of_length-le, drop-cons}
use Rattle.ledger.specs.Lists.{all}

module _ (p : ℕ → Bool) (l : List ℕ) (i : ℕ) where
  pub all_on : i < length l → p (get_or l i 0) ≡ true → all p (drop i l) ≡ all p (drop (i + 1) l)
  unfolding all
  all_on h e = ap (all p) (drop-cons l i 0 h) ∙ rw (e, add-one)

  pub all_stop : i < length l → p (get_or l i 0) ≡ false → all p (drop i l) ≡ false
  unfolding all
  all_stop h e = ap (all p) (drop-cons l i 0 h) ∙ rw e

  pub all_end : length l ≤ i → all p (drop i l) ≡ true
  unfolding all
  all_end h = ap (all p) (drop_of_length-le l {i = i} h)
