-- The loop of the searches: a turn of it, in any items that are read one by one.
use Rattle.std.specs.Prelude.{◌≡◌, ℕ, zero, suc, ◌+◌, ◌*◌, ◌<◌, ◌≤◌, Bool, true, false, List, [], length, drop, slice_index, slice_index_or, Option, None, Some, unwrap_or}
use Rattle.std.proofs.Common.{sym, ap, subst, ◌∙◌, zero-add, add-one, arith, drop_of_length-le, drop-cons}
use Rattle.rows.specs.First.{first_of, first_le, first_here, first_on, first_end}
use Rattle.messages.specs.Pending.{Pending, pending_of, pending_at, pending_in, numbers_in}
use Rattle.messages.specs.Records.{pending_length, pending_at_lem, number_length, number_at}
use Rattle.messages.specs.Searches.{looked_at, Searched, Answered}

-- n items, and what is read as the one at k
pub record Listed (A : Type 0) (n : ℕ) : Type 0 where
  items : List A
  many : length items ≡ n
  at : ℕ → A
  else : A
  reads : (k : ℕ) → k < n → slice_index_or items k else ≡ at k

-- the pending messages, and their numbers
abbrev pub pendings : (tasks n : ℕ) → List ℕ → Listed Pending n
pendings T n d = record { items = pending_in T n d; many = pending_length T n d; at = λ k. pending_at T k d; else = pending_of T []; reads = λ k h. pending_at_lem T n k d h }

abbrev pub numbers : (n : ℕ) → List ℕ → Listed ℕ n
numbers n d = record { items = numbers_in n d; many = number_length n d; at = λ k. slice_index d (k * 4 + 1); else = 0; reads = λ k h. number_at n k d h }

-- ---- a search in them that has looked at so many, none of which passes

pub record Looking {A : Type 0} {n : ℕ} (i : Listed A n) (p : A → Bool) (looked : ℕ) : Type 0 where
  pub inside : looked ≤ n
  so_far : first_of p i.items ≡ looked + first_of p (drop looked i.items)
  counted : looked_at p i.items ≡ looked + looked_at p (drop looked i.items)

module _ {A : Type 0} {n : ℕ} (i : Listed A n) (p : A → Bool) where
  abbrev l : List A
  l = i.items

  pub look_start : Looking i p 0
  look_start = record { inside = omega arith; so_far = sym (zero-add _); counted = sym (zero-add _) }

  module _ (k : ℕ) (s : Looking i p k) where
    module _ (h : k < n) where
      tested : {b : Bool} → p (i.at k) ≡ b → p (slice_index_or l k i.else) ≡ b
      tested t = ap p (i.reads k h) ∙ t

      short : k < length l
      short = omega (arith, i.many)

      pub look_here : p (i.at k) ≡ true → (k ≡ first_of p l) × (k + 1 ≡ looked_at p l)
      look_here y =
          let one : looked_at p (drop k l) ≡ 1 = rw (drop-cons l k i.else short, tested y) in
          (first_here p l k s.so_far i.else short (tested y), omega (arith, one, s.counted))

      pub look_on : p (i.at k) ≡ false → Looking i p (k + 1)
      look_on y =
          let more : looked_at p (drop k l) ≡ suc (looked_at p (drop (suc k) l)) = rw (drop-cons l k i.else short, tested y) in
          record { inside = omega arith; so_far = first_on p l k s.so_far i.else short (tested y); counted = rw add-one (omega (arith, more, s.counted)) }

    pub look_end : n ≤ k → (k ≡ first_of p l) × (k ≡ looked_at p l)
    look_end h =
        let none : looked_at p (drop k l) ≡ 0 = rw (drop_of_length-le l {i = k} (omega (arith, i.many))) in
        (first_end p l k s.so_far (omega (arith, i.many)), omega (arith, none, s.counted))

  -- none of the first k passes
  look : (k : ℕ) → k ≤ n → ((j : ℕ) → j < k → p (i.at j) ≡ false) → Looking i p k
  look zero h f = look_start
  look (suc k) h f = subst (Looking i p) (add-one k) (look_on k (look k (omega arith) (λ j g. f j (omega arith))) (omega arith) (f k (omega arith)))

  -- so what a test answered that decides p is what a search for p gives
  pub searched : {said : ℕ → Bool → Type 0} (place : Option ℕ) {looked : ℕ} → Answered said n place looked → ((k : ℕ) (b : Bool) → k < n → said k b → b ≡ p (i.at k)) → Searched p l place looked
  searched None a decides =
      let o = look_end n (look n (omega arith) (λ j h. sym (decides j false h (a.before j h)))) (omega arith) in
      record { found = omega (arith, o.0, i.many); counted = a.found ∙ o.1 }
  searched (Some k) a decides =
      let o = look_here k (look k (omega (arith, a.found.0)) (λ j h. sym (decides j false (omega (arith, a.found.0)) (a.before j h)))) a.found.0 (sym (decides k true a.found.0 a.found.2)) in
      record { found = (o.0, omega (arith, a.found.0, i.many)); counted = a.found.1 ∙ o.1 }

  -- the place, or n
  pub place_is : (place : Option ℕ) {looked : ℕ} → Searched p l place looked → unwrap_or place n ≡ first_of p l
  place_is None s = omega (arith, s.found, i.many)
  place_is (Some k) s = s.found.0

  pub place_inside : (place : Option ℕ) {looked : ℕ} → Searched p l place looked → unwrap_or place n ≤ n
  place_inside place s = omega (arith, place_is place s, first_le p l, i.many)
