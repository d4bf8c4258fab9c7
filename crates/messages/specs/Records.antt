-- Records and their bytes: what the searches find and what the changes of rows are on mailboxes.
use Rattle.std.specs.Prelude.{◌≡◌, ℕ, ◌+◌, ◌-◌, ◌*◌, ◌<◌, ◌≤◌, Bool, true, false, cond, ◌&&◌, List, [], ◌∷◌, map, length, nat_eq, slice_index, slice_index_or, Option, None, Some, is_some}
use Rattle.std.proofs.Math.Path.{refl, sym, ap}
use Rattle.std.proofs.Common.{ap₂, ◌∙◌, add-zero, arith, le-leb, lt-ltb, le-ltb}
use Rattle.std.proofs.Math.Option.{none, some}
use Rattle.std.proofs.Math.ListN.{length-map, get_or-map}
use Rattle.ledger.specs.Lists.{within, any, all, find}
use Rattle.ledger.specs.Services.{wanted}
use Rattle.rows.specs.Rows.{rows_of, insert_at, remove_at, get_d_row, get_d_rows, length_rows, map_insert_at}
use Rattle.rows.specs.First.{map_remove_at, any_is}
use Rattle.messages.specs.Lists.{all_insert, all_remove, any_map, any_ext}
use Rattle.messages.specs.Pending.{Pending, to_task, addressed, letter, pending, receiver, pending_of, pending_at, pending_in, letter_at, numbers_in, mailbox_of, mailboxes_of, numbered, place_for, wanted_by, place_of, occurs}
use Rattle.messages.specs.Searches.{Searched}
use Rattle.messages.specs.Changes.{Inserted, FoundAt, Found, Removed, Taken}
use Rattle.messages.specs.Mailboxes.{mailbox_insert, mailbox_insert_other, mailbox_remove, mailbox_remove_other, mailbox_find, mailbox_find_none, mailboxes_any}

-- ---- the task that a receiver's byte means

module _ (T b : ℕ) where
  pub means_task : 1 ≤ b → b ≤ T → receiver T b ≡ b
  means_task l h = rw (le-leb 1 b l, le-leb b T h)

  -- it is one of the tasks
  pub means_one : 1 ≤ T → within 1 T (receiver T b) ≡ true
  means_one h = go (within 1 T b) refl
    where
      go : (w : Bool) → within 1 T b ≡ w → within 1 T (cond w b 1) ≡ true
      go true e = e
      go false e = rw (le-leb 1 T h)

-- ---- records, byte by byte

module _ (T : ℕ) where
  pub pending_length : (n : ℕ) (d : List ℕ) → length (pending_in T n d) ≡ n
  unfolding pending_in
  pending_length n d = length-map (rows_of 4 n d) (pending_of T) ∙ length_rows 4 n d

  pub pending_at_lem : (n k : ℕ) (d : List ℕ) → k < n → slice_index_or (pending_in T n d) k (pending_of T []) ≡ pending_at T k d
  unfolding pending_in pending_at
  pending_at_lem n k d h = get_or-map (pending_of T) (rows_of 4 n d) k [] ∙ ap (pending_of T) (get_d_rows 4 n k d h)

  pub pending_bytes : (k : ℕ) (d : List ℕ)
      → pending_at T k d ≡ pending (receiver T (slice_index d (k * 4))) (slice_index d (k * 4 + 1)) (slice_index d (k * 4 + 2)) (slice_index d (k * 4 + 3))
  unfolding pending_at
  pending_bytes k d =
      simp (get_d_row 4 k 0 d (omega arith), get_d_row 4 k 1 d (omega arith), get_d_row 4 k 2 d (omega arith), get_d_row 4 k 3 d (omega arith), add-zero)

pub letter_bytes : (k : ℕ) (d : List ℕ) → letter (slice_index d (k * 4 + 1)) (slice_index d (k * 4 + 2)) (slice_index d (k * 4 + 3)) ≡ letter_at k d
unfolding letter_at
letter_bytes k d = sym (simp (get_d_row 4 k 1 d (omega arith), get_d_row 4 k 2 d (omega arith), get_d_row 4 k 3 d (omega arith)))

pub number_length : (n : ℕ) (d : List ℕ) → length (numbers_in n d) ≡ n
unfolding numbers_in
number_length n d = length-map (rows_of 4 n d) (λ r. slice_index r 1) ∙ length_rows 4 n d

pub number_at : (n k : ℕ) (d : List ℕ) → k < n → slice_index (numbers_in n d) k ≡ slice_index d (k * 4 + 1)
unfolding numbers_in
number_at n k d h =
    get_or-map (λ (r : List ℕ). slice_index r 1) (rows_of 4 n d) k [] ∙ ap (λ (r : List ℕ). slice_index r 1) (get_d_rows 4 n k d h) ∙ get_d_row 4 k 1 d (omega arith)

-- ---- what a search has found

module _ (T n t a : ℕ) (d : List ℕ) where
  module _ (k : ℕ) (f : FoundAt T n t a d k) where
    same_letter : (pending_at T k d).message ≡ letter_at k d
    unfolding pending_at letter_at
    same_letter = refl

    pub found_some : find (wanted a) (mailbox_of t (pending_in T n d)) ≡ some (letter_at k d)
    found_some =
        mailbox_find t a (pending_in T n d) (pending_of T []) (rw (pending_length, ← f.place) f.inside)
        ∙ rw (← f.place) (ap (λ (p : Pending). some p.message) (pending_at_lem T n k d f.inside)) ∙ ap some same_letter

  pub found_none : place_of t a (pending_in T n d) ≡ n → find (wanted a) (mailbox_of t (pending_in T n d)) ≡ none
  found_none e = mailbox_find_none t a (pending_in T n d) (rw (pending_length, e) (omega arith))

  pub found_first : (place : Option ℕ) {looked : ℕ} → Searched (wanted_by t a) (pending_in T n d) place looked → Found T n t a d place
  unfolding place_of
  found_first None s = s.found ∙ pending_length T n d
  found_first (Some k) s = record { place = s.found.0; inside = omega (arith, s.found.1, pending_length T n d) }

-- the number x occurs just where the search for it gave a place
pub found_number : (n x : ℕ) (d : List ℕ) (place : Option ℕ) {looked : ℕ} → Searched (λ y. nat_eq y x) (numbers_in n d) place looked → is_some place ≡ occurs x (numbers_in n d)
found_number n x d None s = sym (any_is (λ y. nat_eq y x) (numbers_in n d) ∙ le-ltb _ _ (omega (arith, s.found)))
found_number n x d (Some k) s = sym (any_is (λ y. nat_eq y x) (numbers_in n d) ∙ lt-ltb _ _ (omega (arith, s.found.0, s.found.1)))

-- then the message x lies in a mailbox: every record does
pub held_is : (T n x : ℕ) (d : List ℕ) → 1 ≤ T → any (any (numbered x)) (mailboxes_of T (pending_in T n d)) ≡ occurs x (numbers_in n d)
unfolding pending_in numbers_in
held_is T n x d h =
    let rows : List (List ℕ) = rows_of 4 n d in
    mailboxes_any T (numbered x) (map (pending_of T) rows)
    ∙ any_map (pending_of T) (λ p. within 1 T p.to && numbered x p.message) rows
    ∙ any_ext _ (λ r. nat_eq (slice_index r 1) x) (λ r. rw (means_one T (slice_index r 0) h)) rows
    ∙ sym (any_map (λ r. slice_index r 1) (λ y. nat_eq y x) rows)

-- ---- the changes of rows, on what is pending and on mailboxes

pub inserted : (T n k t x s b : ℕ) (d d' : List ℕ) → 1 ≤ t → t ≤ T → k ≡ place_for t s (pending_in T n d)
    → rows_of 4 (n + 1) d' ≡ insert_at k (t ∷ x ∷ s ∷ b ∷ []) (rows_of 4 n d) → Inserted T n (pending t x s b) d d'
unfolding pending_in addressed
inserted T n k t x s b d d' low high at e =
    let p : Pending = pending t x s b in
    let l : List Pending = pending_in T n d in
    let m : pending_of T (t ∷ x ∷ s ∷ b ∷ []) ≡ p = ap (λ (u : ℕ). pending u x s b) (means_task T t low high) in
    let q : pending_in T (n + 1) d' ≡ insert_at (place_for t s l) p l =
    ap (map (pending_of T)) e ∙ map_insert_at (pending_of T) k (t ∷ x ∷ s ∷ b ∷ []) (rows_of 4 n d) ∙ ap₂ (λ (i : ℕ) (u : Pending). insert_at i u l) at m in
    record {
      own = ap (mailbox_of t) q ∙ mailbox_insert p l;
      others = λ u ne. ap (mailbox_of u) q ∙ mailbox_insert_other p l u (place_for t s l) ne;
      addressed = λ h. ap (all (to_task T)) e ∙ all_insert (to_task T) k (t ∷ x ∷ s ∷ b ∷ []) (rows_of 4 n d) (rw (le-leb 1 t low, le-leb t T high)) h;
    }

pub removed : (n k : ℕ) (d d' : List ℕ) → rows_of 4 (n - 1) d' ≡ remove_at k (rows_of 4 n d) → Removed n k d d'
unfolding pending_in addressed
removed n k d d' e T = (
  ap (map (pending_of T)) e ∙ map_remove_at (pending_of T) k (rows_of 4 n d),
  λ h. ap (all (to_task T)) e ∙ all_remove (to_task T) k (rows_of 4 n d) h,
)

pub taken : (T n t a k : ℕ) (d d' : List ℕ) → FoundAt T n t a d k → pending_in T (n - 1) d' ≡ remove_at k (pending_in T n d) → Taken T n t a d d'
taken T n t a k d d' f e =
    let l : List Pending = pending_in T n d in
    let q : pending_in T (n - 1) d' ≡ remove_at (place_of t a l) l = e ∙ ap (λ (i : ℕ). remove_at i l) f.place in
    let i : place_of t a l < length l = rw (pending_length, ← f.place) f.inside in
    record {
      own = ap (mailbox_of t) q ∙ mailbox_remove t a l;
      others = λ u ne. ap (mailbox_of u) q ∙ mailbox_remove_other t a l u ne i;
    }
