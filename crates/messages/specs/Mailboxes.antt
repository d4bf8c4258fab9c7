-- Mailboxes after each change of what is pending, by the ledger's own functions.
use Rattle.std.specs.Prelude.{◌≡◌, ℕ, zero, suc, ◌<◌, ◌≤◌, Bool, true, false, ◌&&◌, ltb, List, [], ◌∷◌, map, length, get_or, replicate, ◌≢◌, nat_lt, slice_index_or, refl}
use Rattle.std.proofs.Math.Path.{sym, ap}
use Rattle.std.proofs.Common.{◌∙◌, arith}
use Rattle.std.proofs.Math.Option.{none, some}
use Rattle.std.proofs.lemmas.List.{length-map}
use Rattle.std.proofs.Math.ListN.{get_or-map}
use borrow.Author.Tests.{eq-eqb, ne_eqb, eqb-true, lt-ltb, le-ltb, ltb-true, ltb-false}
use Rattle.ledger.specs.Lists.{within, any, keep, find, without, insert_by}
use Rattle.ledger.specs.Ledger.{Message}
use Rattle.ledger.specs.Services.{wanted}
use Rattle.ledger.proofs.Theorems.Parts.{part_keep, part_length}
use Rattle.rows.specs.Rows.{insert_at, remove_at, map_insert_at}
use Rattle.rows.specs.First.{first_of, keep_insert, keep_insert_other, keep_remove, keep_remove_other, keep_at, map_remove_at, without_is, find_some, find_none, any_is, insert_by_is}
use Rattle.rows.specs.Tab.{tab}
use Rattle.messages.specs.Lists.{and_left, first_map, first_passes, any_map, any_keep, any_ext, below_any, below_tab, below_eqb}
use Rattle.messages.specs.Pending.{Pending, pending, for, mailbox_of, mailboxes_of, place_for, wanted_by, place_of}

-- ---- a message is sent

abbrev contents : Pending → Message
contents p = p.message

module _ (p : Pending) (l : List Pending) where
  pub mailbox_insert : mailbox_of p.to (insert_at (place_for p.to p.message.sender l) p l) ≡ insert_by (λ m. m.sender) p.message (mailbox_of p.to l)
  unfolding mailbox_of place_for
  mailbox_insert =
      let q : Pending → Bool = λ u. ltb p.message.sender u.message.sender in
      let s : Message → Bool = λ m. ltb p.message.sender m.sender in
      let k : List Pending = keep (for p.to) l in
      ap (map contents) (keep_insert (for p.to) q p (eq-eqb p.to p.to refl) l)
      ∙ map_insert_at contents (first_of q k) p k
      ∙ ap (λ (i : ℕ). insert_at i p.message (map contents k)) (sym (first_map contents s k))
      ∙ sym (insert_by_is (λ (m : Message). m.sender) p.message (map contents k))

  pub mailbox_insert_other : (u k : ℕ) → (p.to ≢ u) → mailbox_of u (insert_at k p l) ≡ mailbox_of u l
  unfolding mailbox_of
  mailbox_insert_other u k ne = ap (map contents) (keep_insert_other (for u) k p (ne_eqb p.to u ne) l)

-- ---- a message is received

module _ (t a : ℕ) (l : List Pending) where
  abbrev kept : List Pending
  kept = keep (for t) l

  abbrev asked : Pending → Bool
  asked u = wanted a u.message

  pub mailbox_remove : mailbox_of t (remove_at (place_of t a l) l) ≡ without (wanted a) (mailbox_of t l)
  unfolding mailbox_of place_of
  mailbox_remove =
      ap (map contents) (keep_remove (for t) asked l)
      ∙ map_remove_at contents (first_of asked kept) kept
      ∙ ap (λ (i : ℕ). remove_at i (map contents kept)) (sym (first_map contents (wanted a) kept))
      ∙ sym (without_is (wanted a) (map contents kept))

  pub mailbox_remove_other : (u : ℕ) → (t ≢ u) → place_of t a l < length l → mailbox_of u (remove_at (place_of t a l) l) ≡ mailbox_of u l
  unfolding mailbox_of place_of
  mailbox_remove_other u ne h =
      let z : Pending = pending 0 0 0 0 in
      let p : Pending = get_or l (first_of (wanted_by t a) l) z in
      let e : for t p ≡ true = and_left (for t p) (asked p) (first_passes (wanted_by t a) l z h) in
      let f : for u p ≡ false = ne_eqb p.to u (λ q. ne (sym (eqb-true p.to t e) ∙ q)) in
      ap (map contents) (keep_remove_other (for u) (first_of (wanted_by t a) l) l z f)

  -- the search in all records is the one in the mailbox
  reaches : ltb (first_of (wanted a) (mailbox_of t l)) (length (mailbox_of t l)) ≡ nat_lt (place_of t a l) (length l)
  unfolding mailbox_of place_of
  reaches = sym (any_is (wanted a) (map contents kept)) ∙ any_map contents (wanted a) kept ∙ any_keep (for t) asked l ∙ any_is (wanted_by t a) l

  there : (z : Pending) → slice_index_or (mailbox_of t l) (first_of (wanted a) (mailbox_of t l)) z.message ≡ (get_or l (place_of t a l) z).message
  unfolding mailbox_of place_of
  there z =
      ap (λ (i : ℕ). get_or (map contents kept) i z.message) (first_map contents (wanted a) kept)
      ∙ get_or-map contents kept (first_of asked kept) z
      ∙ ap contents (sym (keep_at (for t) asked l z))

  pub mailbox_find : (z : Pending) → place_of t a l < length l → find (wanted a) (mailbox_of t l) ≡ some (get_or l (place_of t a l) z).message
  mailbox_find z h = find_some (wanted a) (mailbox_of t l) z.message (ltb-true _ _ (reaches ∙ lt-ltb _ _ h)) ∙ ap some (there z)

  pub mailbox_find_none : length l ≤ place_of t a l → find (wanted a) (mailbox_of t l) ≡ none
  mailbox_find_none h = find_none (wanted a) (mailbox_of t l) (ltb-false _ _ (reaches ∙ le-ltb _ _ h))

-- ---- all mailboxes

-- none holds more than there are
pub mailbox_few : (t : ℕ) (l : List Pending) → length (mailbox_of t l) ≤ length l
unfolding mailbox_of
mailbox_few t l = omega (arith, length-map (keep (for t) l) contents, part_length (part_keep (for t) l))

-- nothing is pending
pub mailboxes_none : (n : ℕ) → mailboxes_of n [] ≡ replicate n []
unfolding mailboxes_of mailbox_of keep tab
mailboxes_none zero = refl
mailboxes_none (suc n) = ap (λ (r : List (List Message)). [] ∷ r) (mailboxes_none n)

mailbox_any : (t : ℕ) (q : Message → Bool) (l : List Pending) → any q (mailbox_of t l) ≡ any (λ p. for t p && q p.message) l
unfolding mailbox_of
mailbox_any t q l = any_map contents q (keep (for t) l) ∙ any_keep (for t) (λ p. q p.message) l

-- some message of some mailbox 1 to n passes: some record for a task 1 to n does
pub mailboxes_any : (n : ℕ) (q : Message → Bool) (l : List Pending) → any (any q) (mailboxes_of n l) ≡ any (λ p. within 1 n p.to && q p.message) l
unfolding mailboxes_of
mailboxes_any n q l =
    below_tab n (λ i. mailbox_of (suc i) l) (any q)
    ∙ (simp mailbox_any)
    ∙ below_any n (λ i p. for (suc i) p && q p.message) l
    ∙ any_ext _ _ (λ p. below_eqb n p.to (q p.message)) l
