-- The numbers with which the ledger refuses the frames of a list, 0 for an accepted one. None is 11: every check has another
-- number, and so has the first that fails.
use Rattle.std.specs.Prelude.{ℕ, ◌≡◌, refl, List, [], ◌∷◌}
use Rattle.std.proofs.Common.{arith}
use Rattle.std.proofs.lemmas.Bool.{eqb-false}
use Rattle.ledger.specs.Config.{Config, Limits, config_refusal_by}
use Rattle.ledger.specs.Ledger.{Ledger, fresh}
use Rattle.ledger.specs.Refusals.{from_input, from_state, refusal}
use Rattle.ledger.specs.Session.{step}
use Rattle.ledger.proofs.Theorems.Checks.{never_given}
use Rattle.ledger.proofs.Theorems.Parts.{Every, nil, cons}

unfoldable pub numbers_from : Config → Ledger → List (List ℕ) → List ℕ
numbers_from c l [] = []
numbers_from c l (f ∷ fs) = refusal c l f ∷ numbers_from c (step c f l).ledger fs

-- that of the accepted configuration first
unfoldable pub numbers : Config → List (List ℕ) → List ℕ
numbers c fs = 0 ∷ numbers_from c (fresh c) fs

-- ---- none is 11

abbrev pub Not11 : ℕ → Type 0
Not11 n = n ≡ 11 → ⊥

pub never_11 : (c : Config) (l : Ledger) (f : List ℕ) → Not11 (refusal c l f)
unfolding refusal from_input from_state
never_11 c l f e = never_given 11 (λ z. omega (arith, z)) _ refl e

pub configuration_never_11 : (k : Limits) (g : List ℕ) → Not11 (config_refusal_by k g)
unfolding config_refusal_by
configuration_never_11 k g e = never_given 11 (λ z. omega (arith, z)) _ refl e

from_11 : (c : Config) (l : Ledger) (fs : List (List ℕ)) → Every Not11 (numbers_from c l fs)
unfolding numbers_from
from_11 c l [] = nil
from_11 c l (f ∷ fs) = cons (never_11 c l f) (from_11 c (step c f l).ledger fs)

pub none_11 : (c : Config) (fs : List (List ℕ)) → Every Not11 (numbers c fs)
unfolding numbers
none_11 c fs = cons (eqb-false 0 11 refl) (from_11 c (fresh c) fs)
