-- That each of an answer's three kinds comes exactly where it should, and that what a C function leaves tells which it is.
use Rattle.std.specs.Prelude.{ℕ, ◌≡◌, ◌↔◌, List, Option, Some, None, Result, Ok, Err}
use Rattle.refusals.specs.declared.Refusal.{Refusal}
use Rattle.refusals.specs.declared.Refusal.TheVariants as refusal
use Rattle.starts.specs.declared.Cycle.{Cycle}
use Rattle.starts.specs.Starts.{Taken, Smallest, Valid, no_start}

module _ (ts : List Cycle) (p : ℕ) where
  -- each kind of answer comes exactly where it should
  pub record Exactly (a : Result (Option ℕ) Refusal) : Type 0 where
    pub turned_away_lem : (a ≡ Err refusal.Cycles) ↔ (Valid ts p → ⊥)
    pub says_none : (a ≡ Ok None) ↔ (Valid ts p × ((s : ℕ) → Taken ts p s))
    pub smallest : (s : ℕ) → (a ≡ Ok (Some s)) ↔ (Valid ts p × Smallest ts p s)

  -- what is returned and what is left says which answer it is
  pub record Told (old new r : ℕ) : Type 0 where
    pub turned_away_lem : (r ≡ 31) ↔ (Valid ts p → ⊥)
    pub says_none : (r ≡ no_start) ↔ (Valid ts p × ((s : ℕ) → Taken ts p s))
    pub smallest : (s : ℕ) → ((r ≡ 0) × (new ≡ s)) ↔ (Valid ts p × Smallest ts p s)
    pub unwritten : (r ≡ 0 → ⊥) → new ≡ old
