-- How often a number occurs in the records is how often its message lies in the mailboxes, since every record lies in one.
-- So the numbers are complete just where the mailboxes hold messages 1 to G, none twice.
use Rattle.std.specs.Prelude.{◌≡◌, ℕ, suc, ◌+◌, ◌-◌, ◌≤◌, Bool, true, false, cond, not, ◌||◌, List, [], ◌∷◌, map, length, ◌==◌, ◌≢◌, nat_eq, nat_le, slice_index}
use Rattle.std.proofs.Math.Path.{refl, sym, ap}
use Rattle.std.proofs.Common.{◌∙◌, subst}
use native.Mathlib.Omega.{arith}
use borrow.Author.Tests.{eq-eqb, ne_eqb, eqb-true, le-leb, leb-true, not-true}
use Rattle.ledger.specs.Lists.{at, put, within, any, all, keep}
use Rattle.ledger.specs.Config.{Config}
use Rattle.ledger.specs.Ledger.{Message}
use Rattle.ledger.specs.Good.{Numbered}
use Rattle.ledger.proofs.Theorems.Sound.Messages.{copies, copies_empty, front_more}
use Rattle.ledger.proofs.Theorems.Once.{Once}
use Rattle.rows.specs.Rows.{rows_of}
use Rattle.rows.specs.Tab.{tab, tab_at, tab_put, tab_length}
use Rattle.messages.specs.Lists.{and_left, and_right, or_left, or_right}
use Rattle.messages.specs.Pending.{Pending, receiver, pending_of, pending_in, numbers_in, mailbox_of, mailboxes_of, occurs, distinct, complete_in}
use Rattle.messages.specs.Mailboxes.{mailboxes_none}
use Rattle.messages.specs.Records.{means_one}

-- ---- a number in a list

abbrev bit : Bool → ℕ
bit b = cond b 1 0

abbrev times : ℕ → List ℕ → ℕ
times x [] = 0
times x (y ∷ l) = bit (y == x) + times x l

times_none : (x : ℕ) (l : List ℕ) → times x l ≡ 0 → occurs x l ≡ false
unfolding any
times_none x [] e = refl
times_none x (y ∷ l) e = go (y == x) e (times_none x l)
  where
    go : (b : Bool) → bit b + times x l ≡ 0 → (times x l ≡ 0 → occurs x l ≡ false) → (b || occurs x l) ≡ false
    go true h ih = absurd (omega arith)
    go false h ih = ih (omega arith)

times_absent : (x : ℕ) (l : List ℕ) → occurs x l ≡ false → times x l ≡ 0
unfolding any
times_absent x [] e = refl
times_absent x (y ∷ l) e =
    let h : nat_eq y x ≡ false = or_left (y == x) (occurs x l) e in
    rw h (omega (arith, times_absent x l (or_right (y == x) (occurs x l) e)))

times_own : (y : ℕ) (l : List ℕ) → times y (y ∷ l) ≡ 1 + times y l
times_own y l = rw (eq-eqb y y refl)

times_rest : (x y : ℕ) (l : List ℕ) → times x l ≤ times x (y ∷ l)
times_rest x y l = omega arith

-- each number is 1 to G, and occurs once
pub record Single (G : ℕ) (l : List ℕ) : Type 0 where
  pub known : (x : ℕ) → 1 ≤ times x l → Numbered G x
  pub once : (x : ℕ) → times x l ≤ 1

module _ (G : ℕ) where
  single_range : (l : List ℕ) → Single G l → all (within 1 G) l ≡ true
  unfolding all
  single_range [] h = refl
  single_range (y ∷ l) h =
      let n : Numbered G y = h.known y (omega (arith, times_own y l)) in
      rw (le-leb 1 y n.from, le-leb y G n.upto)
      (single_range l (record { known = λ x k. h.known x (omega (arith, k, times_rest x y l)); once = λ x. omega (arith, h.once x, times_rest x y l) }))

  single_distinct : (l : List ℕ) → Single G l → distinct l ≡ true
  unfolding distinct
  single_distinct [] h = refl
  single_distinct (y ∷ l) h =
      rw (times_none y l (omega (arith, h.once y, times_own y l)))
      (single_distinct l (record { known = λ x k. h.known x (omega (arith, k, times_rest x y l)); once = λ x. omega (arith, h.once x, times_rest x y l) }))

  single_complete : (l : List ℕ) → Single G l → complete_in G l ≡ true
  unfolding complete_in
  single_complete l h = rw (single_range l h, single_distinct l h)

  range_known : (l : List ℕ) → all (within 1 G) l ≡ true → (x : ℕ) → 1 ≤ times x l → Numbered G x
  unfolding all
  range_known [] a x k = absurd (omega arith)
  range_known (y ∷ l) a x k = go (y == x) refl k (range_known l (and_right (within 1 G y) (all (within 1 G) l) a) x)
    where
      w : within 1 G y ≡ true
      w = and_left (within 1 G y) (all (within 1 G) l) a

      go : (b : Bool) → (y == x) ≡ b → 1 ≤ bit b + times x l → (1 ≤ times x l → Numbered G x) → Numbered G x
      go true e h ih = subst (Numbered G) (eqb-true y x e) (record { from = leb-true 1 y (and_left (nat_le 1 y) (nat_le y G) w); upto = leb-true y G (and_right (nat_le 1 y) (nat_le y G) w) })
      go false e h ih = ih (omega arith)

  distinct_once : (l : List ℕ) → distinct l ≡ true → (x : ℕ) → times x l ≤ 1
  unfolding distinct
  distinct_once [] d x = omega arith
  distinct_once (y ∷ l) d x = go (y == x) refl (distinct_once l (and_right (not (occurs y l)) (distinct l) d) x)
    where
      none : times y l ≡ 0
      none = times_absent y l (not-true (occurs y l) (and_left (not (occurs y l)) (distinct l) d))

      go : (b : Bool) → (y == x) ≡ b → times x l ≤ 1 → bit b + times x l ≤ 1
      go true e ih = let z : times x l ≡ 0 = subst (λ i. times i l ≡ 0) (eqb-true y x e) none in omega arith
      go false e ih = omega arith

  complete_single : (l : List ℕ) → complete_in G l ≡ true → Single G l
  unfolding complete_in
  complete_single l c = record {
    known = range_known l (and_left (all (within 1 G) l) (distinct l) c);
    once = distinct_once l (and_right (all (within 1 G) l) (distinct l) c);
  }

-- ---- a record more is a message more in one mailbox

module _ (p : Pending) (l : List Pending) where
  mailbox_front : (t : ℕ) → p.to ≡ t → mailbox_of t (p ∷ l) ≡ p.message ∷ mailbox_of t l
  unfolding mailbox_of keep
  mailbox_front t e = rw (eq-eqb p.to t e)

  mailbox_skip : (t : ℕ) → (p.to ≢ t) → mailbox_of t (p ∷ l) ≡ mailbox_of t l
  unfolding mailbox_of keep
  mailbox_skip t n = rw (ne_eqb p.to t n)

  module _ (T : ℕ) (low : 1 ≤ p.to) (high : p.to ≤ T) where
    pub mailboxes_front : mailboxes_of T (p ∷ l) ≡ put (mailboxes_of T l) p.to (p.message ∷ at (mailboxes_of T l) p.to [])
    unfolding mailboxes_of
    mailboxes_front =
        let f : ℕ → List Message = λ i. mailbox_of (suc i) l in
        let e : suc (p.to - 1) ≡ p.to = omega arith in
        let v : p.message ∷ at (tab T f) p.to [] ≡ mailbox_of (suc (p.to - 1)) (p ∷ l) =
        ap (λ (b : List Message). p.message ∷ b) (tab_at T p.to f [] low high) ∙ sym (mailbox_front (suc (p.to - 1)) (sym e)) in
        sym (tab_put T p.to f (λ i. mailbox_of (suc i) (p ∷ l)) _ low (λ j b ne. sym (mailbox_skip (suc j) (λ q. ne (omega (arith, q))))) (λ q. v))

    pub many : length (mailboxes_of T l) ≡ T
    unfolding mailboxes_of
    many = tab_length T _

    copies_front : (x : ℕ) → copies x (mailboxes_of T (p ∷ l)) ≡ bit (p.message.number == x) + copies x (mailboxes_of T l)
    copies_front x = ap (copies x) mailboxes_front ∙ front_more x (mailboxes_of T l) p.to p.message (record { from = low; upto = omega (arith, many) })

module _ (T : ℕ) (some : 1 ≤ T) where
  pub means_within : (b : ℕ) → (1 ≤ receiver T b) × (receiver T b ≤ T)
  means_within b =
      let w : within 1 T (receiver T b) ≡ true = means_one T b some in
      (leb-true 1 (receiver T b) (and_left (nat_le 1 (receiver T b)) (nat_le (receiver T b) T) w), leb-true (receiver T b) T (and_right (nat_le 1 (receiver T b)) (nat_le (receiver T b) T) w))

  copies_rows : (x : ℕ) (rows : List (List ℕ)) → copies x (mailboxes_of T (map (pending_of T) rows)) ≡ times x (map (λ r. slice_index r 1) rows)
  copies_rows x [] = ap (copies x) (mailboxes_none T) ∙ copies_empty x T
  copies_rows x (r ∷ rows) =
      let w = means_within (slice_index r 0) in
      copies_front (pending_of T r) (map (pending_of T) rows) T w.0 w.1 x ∙ ap (λ (n : ℕ). bit (slice_index r 1 == x) + n) (copies_rows x rows)

  copies_are : (x n : ℕ) (d : List ℕ) → copies x (mailboxes_of T (pending_in T n d)) ≡ times x (numbers_in n d)
  unfolding pending_in numbers_in
  copies_are x n d = copies_rows x (rows_of 4 n d)

  module _ (c : Config) (n : ℕ) (d : List ℕ) where
    pub once_complete : Once c (mailboxes_of T (pending_in T n d)) → complete_in c.G (numbers_in n d) ≡ true
    once_complete h = single_complete c.G (numbers_in n d) (record {
      known = λ x k. h.known x (omega (arith, k, copies_are x n d));
      once = λ x. omega (arith, h.once x, copies_are x n d);
    })

    pub complete_once : complete_in c.G (numbers_in n d) ≡ true → Once c (mailboxes_of T (pending_in T n d))
    complete_once e =
        let h : Single c.G (numbers_in n d) = complete_single c.G (numbers_in n d) e in
        record { known = λ x k. h.known x (omega (arith, k, copies_are x n d)); once = λ x. omega (arith, h.once x, copies_are x n d) }
