-- The due ones among timers that rows mean: these are in order, so they are the first ones.
use Rattle.std.specs.Prelude.{◌≡◌, Bool, length, get_or, ltb}
use Rattle.std.proofs.Math.Path.{refl}
use Rattle.std.proofs.Common.{ap, add-one}
use mathlib.Core.List.{List, [], ◌∷◌}
use Rattle.std.proofs.Math.Bool.{true, false}
use Prim.Native.Nat.{ℕ, suc, ◌<◌, ◌≤◌}
use native.Mathlib.Omega.{arith}
use Rattle.std.proofs.Math.Dec.{eqb}
use borrow.Author.Tests.{lt-ltb, le-ltb, eq-eqb, ne_eqb, eqb-true, eqb-false}
use Rattle.ledger.specs.Lists.{keep, without}
use Rattle.ledger.specs.Ledger.{Timer}
use Rattle.rows.specs.Rows.{remove_at}
use Rattle.rows.specs.First.{first_of}
use Rattle.timers.specs.Timers.{lowest, until_due, left_at, shown_by, later, is_due, due_in, first_due, no_entry, AllFrom}
use Rattle.timers.specs.Order.{low_other}

-- where the least of a list is not due, none is
none_due_lem : (time f m x : ℕ) (l : List Timer) → 0 < until_due time f m → m ≤ lowest x l → due_in (shown_by time f l) ≡ 0
unfolding shown_by lowest keep
none_due_lem time f m x [] h k = refl
none_due_lem time f m x (t ∷ ts) h k =
    let y : ℕ = lowest t.due ts in
    let a : m ≤ y = low_other m x t.due ts (omega arith) (omega arith) in
    let e : eqb (until_due time f y) 0 ≡ false = ne_eqb (until_due time f y) 0 (λ z. omega arith) in
    rw e (none_due_lem time f m x ts h (omega arith))

-- before the floor none is due
pub floor_none : (time f : ℕ) (l : List Timer) → time < f → due_in (shown_by time f l) ≡ 0
floor_none time f l h = none_due_lem time f 0 0 l (omega arith) (omega arith)

-- so the due ones are those before the first that is not
pub due_count : (time f : ℕ) (l : List Timer) → due_in (shown_by time f l) ≡ first_of (later 0) (shown_by time f l)
unfolding shown_by keep
due_count time f [] = refl
due_count time f (t ∷ ts) = go (eqb (until_due time f m) 0) refl (due_count time f ts)
  where
    m : ℕ
    m = lowest t.due ts

    go : (b : Bool) → eqb (until_due time f m) 0 ≡ b → due_in (shown_by time f ts) ≡ first_of (later 0) (shown_by time f ts)
        → due_in (shown_by time f (t ∷ ts)) ≡ first_of (later 0) (shown_by time f (t ∷ ts))
    go true e ih =
        let z : ltb 0 (until_due time f m) ≡ false = le-ltb 0 (until_due time f m) (omega (arith, eqb-true (until_due time f m) 0 e)) in
        rw (e, z, add-one) (ap suc ih)
    go false e ih =
        let nz = eqb-false (until_due time f m) 0 e in
        let p : 0 < until_due time f m = omega arith in
        let z : ltb 0 (until_due time f m) ≡ true = lt-ltb 0 (until_due time f m) p in
        rw (e, z) (none_due_lem time f m t.due ts p (omega arith))

-- and the first due one is the first
module _ (time f : ℕ) where
  pub due_some : (l : List Timer) → 0 < due_in (shown_by time f l) → 0 < length l
  unfolding shown_by keep
  due_some [] h = h
  due_some (t ∷ ts) h = omega arith

  first_now : (t : Timer) (ts : List Timer) → 0 < due_in (shown_by time f (t ∷ ts)) → until_due time f (lowest t.due ts) ≡ 0
  unfolding shown_by keep
  first_now t ts h = go (eqb (until_due time f (lowest t.due ts)) 0) refl
    where
      go : (b : Bool) → eqb (until_due time f (lowest t.due ts)) 0 ≡ b → until_due time f (lowest t.due ts) ≡ 0
      go true e = eqb-true (until_due time f (lowest t.due ts)) 0 e
      go false e =
          let m : ℕ = lowest t.due ts in
          let nz = eqb-false (until_due time f m) 0 e in
          let p : 0 < until_due time f m = omega arith in
          let y : due_in (shown_by time f (t ∷ ts)) ≡ due_in (shown_by time f ts) = rw e in
          absurd (omega (arith, none_due_lem time f m t.due ts p (omega arith)))

  -- none is put in before it, at this time or later
  pub due_before : (y : ℕ) (l : List Timer) → time ≤ y → 0 < due_in (shown_by time f l) → (f ≤ y) × (AllFrom (suc y) l → ⊥)
  unfolding shown_by keep lowest
  due_before y [] k h = absurd (omega arith)
  due_before y (t ∷ ts) k h =
      let z = first_now t ts h in
      let m : ℕ = lowest t.due ts in
      (omega arith, λ a. let b : suc y ≤ m = low_other (suc y) (suc y) t.due ts (omega arith) (omega arith) in omega arith)

  pub due_first : (l : List Timer) → 0 < due_in (shown_by time f l) → first_due (shown_by time f l) ≡ left_at 0 (get_or l 0 no_entry)
  unfolding shown_by first_due
  due_first [] h = refl
  due_first (t ∷ ts) h =
      let z = first_now t ts h in
      rw (eq-eqb (until_due time f (lowest t.due ts)) 0 z) (ap (λ (x : ℕ). left_at x t) z)

  pub due_rest : (l : List Timer) → 0 < due_in (shown_by time f l) → remove_at 0 (shown_by time f l) ≡ without is_due (shown_by time f l)
  unfolding shown_by without
  due_rest [] h = refl
  due_rest (t ∷ ts) h = rw (eq-eqb (until_due time f (lowest t.due ts)) 0 (first_now t ts h))
