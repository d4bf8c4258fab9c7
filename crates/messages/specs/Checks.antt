-- `complete_in`, record by record with the bits of the numbers seen so far, and the turns of the loop that tests it so.
use Rattle.std.specs.Prelude.{◌≡◌, ℕ, zero, suc, ◌+◌, ◌-◌, ◌*◌, ◌^◌, ◌<◌, ◌≤◌, Bool, true, false, not, ◌&&◌, ◌||◌, List, [], ◌∷◌, length, drop, replicate, ◌==◌, bit_or, count_ones, nat_eq, nat_le, slice_index, slice_index_or, slice_set}
use Rattle.std.proofs.Math.Path.{refl, sym, ap, ap₂}
use Rattle.std.proofs.Common.{◌∙◌, add-one, arith, length-set, get_or-set_same, get_or-set_other}
use Rattle.std.proofs.Math.Bool.{and-false, and_assoc}
use Rattle.std.proofs.lemmas.List.{length-replicate}
use Rattle.std.proofs.Math.ListN.{drop_of_length-le}
use Rattle.std.proofs.Math.Seq.{drop-cons}
use borrow.Author.Tests.{eq-eqb, ne_eqb, eqb-true, eqb-false, leb-true}
use Rattle.ledger.specs.Lists.{within, any, all}
use Rattle.messages.specs.Pending.{numbers_in, occurs, distinct, complete_in}
use Rattle.messages.specs.Lists.{and_left, and_right}
use Rattle.messages.specs.Records.{number_length, number_at}
use Rattle.messages.specs.Marks.{bit, bit_low, word_of, trues, word_set, word_none, ones_word, trues_set, trues_none}

-- ---- flag x - 1 is that of the number x

abbrev flag : List Bool → ℕ → Bool
flag f x = slice_index_or f (x - 1) false

abbrev mark : List Bool → ℕ → List Bool
mark f x = slice_set f (x - 1) true

abbrev marks : List Bool → List ℕ → List Bool
marks f [] = f
marks f (x ∷ xs) = marks (mark f x) xs

abbrev unseen : List Bool → List ℕ → Bool
unseen f l = all (λ x. not (flag f x)) l

pub record Number (n x : ℕ) : Type 0 where
  pub from : 1 ≤ x
  pub upto : x ≤ n

-- ---- numbers 1 to n, and n flags

module _ (n : ℕ) where
  number : (x : ℕ) → within 1 n x ≡ true → Number n x
  number x e = record { from = leb-true 1 x (and_left (nat_le 1 x) (nat_le x n) e); upto = leb-true x n (and_right (nat_le 1 x) (nat_le x n) e) }

  abbrev Numbers : List ℕ → Type 0
  Numbers l = all (within 1 n) l ≡ true

  first : (x : ℕ) (xs : List ℕ) → Numbers (x ∷ xs) → Number n x
  unfolding all
  first x xs a = number x (and_left (within 1 n x) (all (within 1 n) xs) a)

  rest : (x : ℕ) (xs : List ℕ) → Numbers (x ∷ xs) → Numbers xs
  unfolding all
  rest x xs a = and_right (within 1 n x) (all (within 1 n) xs) a

  module _ (f : List Bool) (many : length f ≡ n) (x : ℕ) (hx : Number n x) where
    flag_one : (y : ℕ) → Number n y → flag (mark f x) y ≡ (y == x || flag f y)
    flag_one y hy = go (y == x) refl
      where
        go : (b : Bool) → (y == x) ≡ b → flag (mark f x) y ≡ (b || flag f y)
        go true e = rw (eqb-true y x e) (get_or-set_same f (x - 1) true false (omega (arith, hx.from, hx.upto, many)))
        go false e = get_or-set_other f (x - 1) (y - 1) true false (λ q. eqb-false y x e (omega (arith, q, hx.from, hy.from)))

    unseen_one : (l : List ℕ) → Numbers l → unseen (mark f x) l ≡ (not (occurs x l) && unseen f l)
    unfolding all any
    unseen_one [] a = refl
    unseen_one (y ∷ ys) a =
        ap₂ (λ (a b : Bool). not a && b) (flag_one y (first y ys a)) (unseen_one ys (rest y ys a))
        ∙ go (y == x) (flag f y) (occurs x ys) (unseen f ys)
      where
        go : (a b c d : Bool) → (not (a || b) && (not c && d)) ≡ (not (a || c) && (not b && d))
        go true b c d = refl
        go false true c d = sym (and-false (not c))
        go false false c d = refl

    trues_one : trues (mark f x) ≡ trues f + bit (not (flag f x))
    trues_one = trues_set f (x - 1) (omega (arith, hx.from, hx.upto, many))

    marked : length (mark f x) ≡ n
    marked = length-set f (x - 1) true ∙ many

  -- each number sets one flag at most, and each one just where none occurs twice
  trues_most : (f : List Bool) → length f ≡ n → (l : List ℕ) → Numbers l → trues (marks f l) ≤ trues f + length l
  trues_most f m [] a = omega arith
  trues_most f m (x ∷ xs) a =
      let h = first x xs a in
      omega (arith, trues_one f m x h, bit_low (not (flag f x)), trues_most (mark f x) (marked f m x h) xs (rest x xs a))

  trues_all : (f : List Bool) → length f ≡ n → (l : List ℕ) → Numbers l → (trues (marks f l) == trues f + length l) ≡ (unseen f l && distinct l)
  unfolding all distinct
  trues_all f m [] a = eq-eqb (trues f) (trues f + 0) (omega arith)
  trues_all f m (x ∷ xs) a = go (flag f x) refl (trues_all (mark f x) (marked f m x (first x xs a)) xs (rest x xs a))
    where
      shuffle : (m u d : Bool) → ((m && u) && d) ≡ (u && (m && d))
      shuffle true u d = refl
      shuffle false u d = sym (and-false u)

      go : (b : Bool) → flag f x ≡ b
          → (trues (marks (mark f x) xs) == trues (mark f x) + length xs) ≡ (unseen (mark f x) xs && distinct xs)
          → (trues (marks (mark f x) xs) == trues f + suc (length xs)) ≡ ((not b && unseen f xs) && (not (occurs x xs) && distinct xs))
      go true e ih =
          let h = first x xs a in
          let o : trues (mark f x) ≡ trues f + 0 = trues_one f m x h ∙ rw e in
          ne_eqb (trues (marks (mark f x) xs)) (trues f + suc (length xs)) (λ q. omega (arith, q, o, trues_most (mark f x) (marked f m x h) xs (rest x xs a)))
      go false e ih =
          let h = first x xs a in
          let o : trues (mark f x) ≡ trues f + 1 = trues_one f m x h ∙ rw e in
          let s : trues f + suc (length xs) ≡ trues (mark f x) + length xs = omega (arith, o) in
          rw s (ih ∙ rw (unseen_one f m x h xs (rest x xs a)) (shuffle (not (occurs x xs)) (unseen f xs) (distinct xs)))

  unseen_none : (l : List ℕ) → unseen (replicate n false) l ≡ true
  unfolding all
  unseen_none [] = refl
  unseen_none (x ∷ xs) = rw (nothing n (x - 1)) (unseen_none xs)
    where
      nothing : (k i : ℕ) → slice_index_or (replicate k false) i false ≡ false
      nothing zero i = refl
      nothing (suc k) zero = refl
      nothing (suc k) (suc i) = nothing k i

  distinct_is : (l : List ℕ) → Numbers l → (trues (marks (replicate n false) l) == length l) ≡ distinct l
  distinct_is l a =
      let f : List Bool = replicate n false in
      let e : length l ≡ trues f + length l = rw (trues_none n) (omega arith) in
      ap (nat_eq (trues (marks f l))) e ∙ trues_all f (length-replicate n false) l a ∙ rw (unseen_none l)

-- ---- a test that has come to record k

module _ (most n : ℕ) where
  abbrev goes_on : List Bool → List ℕ → Bool
  goes_on f l = all (within 1 most) l && trues (marks f l) == n

  complete_is : (l : List ℕ) → length l ≡ n → goes_on (replicate most false) l ≡ complete_in most l
  unfolding complete_in
  complete_is l h = go (all (within 1 most) l) refl
    where
      go : (b : Bool) → all (within 1 most) l ≡ b → (b && trues (marks (replicate most false) l) == n) ≡ (b && distinct l)
      go true e = ap (nat_eq (trues (marks (replicate most false) l))) (sym h) ∙ distinct_is most l e
      go false e = refl

pub record Checked (most n k seen : ℕ) (d : List ℕ) : Type 0 where
  pub inside : k ≤ n
  flags : List Bool
  many : length flags ≡ most
  bits : seen ≡ word_of flags
  so_far : goes_on most n flags (drop k (numbers_in n d)) ≡ complete_in most (numbers_in n d)

module _ (most n : ℕ) (d : List ℕ) where
  pub check_start : Checked most n 0 0 d
  check_start = record {
    inside = omega arith;
    flags = replicate most false;
    many = length-replicate most false;
    bits = sym (word_none most);
    so_far = complete_is most n (numbers_in n d) (number_length n d);
  }

  module _ (k seen : ℕ) (s : Checked most n k seen d) where
    -- the number in record k
    abbrev here : ℕ
    here = slice_index d (k * 4 + 1)

    module _ (h : k < n) {b : Bool} (t : b ≡ within 1 most here) where
      next : complete_in most (numbers_in n d) ≡ (b && goes_on most n (mark s.flags here) (drop (k + 1) (numbers_in n d)))
      unfolding all
      next =
          let l : List ℕ = numbers_in n d in
          let c : drop k l ≡ here ∷ drop (k + 1) l =
          drop-cons l k 0 (rw number_length h) ∙ ap₂ (λ (x i : ℕ). x ∷ drop i l) (number_at n k d h) (sym (add-one k)) in
          sym s.so_far ∙ ap (goes_on most n s.flags) c ∙ rw (← t) (and_assoc b _ _)

      pub check_range : b ≡ false → false ≡ complete_in most (numbers_in n d)
      check_range y = sym (next ∙ rw y)

      module _ (y : b ≡ true) where
        pub check_number : Number most here
        check_number = number most here (sym t ∙ y)

        pub check_on : {w : ℕ} → w ≡ bit_or seen (2 ^ (here - 1)) → Checked most n (k + 1) w d
        check_on z =
            let x = check_number in
            record {
              inside = omega arith;
              flags = mark s.flags here;
              many = marked most s.flags s.many here x;
              bits = z ∙ ap (λ (v : ℕ). bit_or v (2 ^ (here - 1))) s.bits ∙ word_set s.flags (here - 1) (omega (arith, x.from, x.upto, s.many));
              so_far = sym (next ∙ rw y);
            }

    pub check_end : n ≤ k → (count_ones seen == n) ≡ complete_in most (numbers_in n d)
    unfolding all
    check_end h =
        let e : drop k (numbers_in n d) ≡ [] = drop_of_length-le (numbers_in n d) {i = k} (rw number_length h) in
        ap (λ (x : ℕ). nat_eq x n) (ap count_ones s.bits ∙ ones_word s.flags) ∙ sym (ap (goes_on most n s.flags) e) ∙ s.so_far
