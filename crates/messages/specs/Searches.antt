-- A search looks at one item after the other until one passes, and counts each that it looks at.
-- It looks at no more messages than lie, and no more lie than there is room for: its count never passes G.
use Rattle.std.specs.Prelude.{◌≡◌, ℕ, suc, ◌+◌, ◌/◌, ◌<◌, ◌≤◌, Bool, true, false, cond, List, [], ◌∷◌, length, nat_eq, refl, Option, MatchOption, unwrap_or}
use Rattle.std.proofs.Common.{arith}
use Rattle.rows.specs.First.{first_of}

-- G: so many records of four bytes have room in d
abbrev pub record_room : List ℕ → ℕ
record_room d = length d / 4

-- d has room for n records, and for 64 at most
pub record Bounded (n : ℕ) (d : List ℕ) : Type 0 where
  pub few : n ≤ record_room d
  pub most : record_room d ≤ 64

-- how many items a search looks at: each up to the first that passes, and that one
abbrev pub looked_at : {A : Type 0} → (A → Bool) → List A → ℕ
looked_at p [] = 0
looked_at p (u ∷ us) = suc (cond (p u) 0 (looked_at p us))

-- the one that it stops at is counted, and none is counted twice or before the first
pub record Looks : Type 0 where
  where_none_lie : looked_at (nat_eq 7) [] ≡ 0
  the_first_passes : looked_at (nat_eq 7) (7 ∷ 8 ∷ 7 ∷ []) ≡ 1
  the_last_passes : looked_at (nat_eq 7) (5 ∷ 6 ∷ 7 ∷ []) ≡ 3
  none_passes : looked_at (nat_eq 7) (5 ∷ 6 ∷ 8 ∷ []) ≡ 3

pub looks : Looks
looks = record { where_none_lie = refl; the_first_passes = refl; the_last_passes = refl; none_passes = refl }

-- what a search in l gives: where the first that passes lies, if one does, and how many items it looked at
pub record Searched {A : Type 0} (p : A → Bool) (l : List A) (place : Option ℕ) (looked : ℕ) : Type 0 where
  pub found : MatchOption place (first_of p l ≡ length l) (λ k. (k ≡ first_of p l) × (k < length l))
  pub counted : looked ≡ looked_at p l

-- the same by what a test answered of n items, where `said k b` is that it answers b of item k
pub record Answered (said : ℕ → Bool → Type 0) (n : ℕ) (place : Option ℕ) (looked : ℕ) : Type 0 where
  pub before : (k : ℕ) → k < unwrap_or place n → said k false
  pub found : MatchOption place (looked ≡ n) (λ k. (k < n) × (looked ≡ k + 1) × said k true)

module _ {A : Type 0} (p : A → Bool) where
  -- no more are looked at than there are
  pub looked_le : (l : List A) → looked_at p l ≤ length l
  looked_le [] = omega arith
  looked_le (u ∷ us) = go (p u) (looked_le us)
    where
      go : (b : Bool) → looked_at p us ≤ length us → suc (cond b 0 (looked_at p us)) ≤ suc (length us)
      go true h = omega arith
      go false h = omega arith

  -- so where n lie, and there is room for G, the count never passes G
  pub never_past : {n : ℕ} {d : List ℕ} → Bounded n d → (l : List A) → length l ≡ n → looked_at p l ≤ record_room d
  never_past b l e = omega (arith, looked_le l, b.few)
