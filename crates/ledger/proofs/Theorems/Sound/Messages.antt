-- Messages: each mailbox is ordered by sender, and no message lies in the mailboxes twice. (What they name exists: Named.)
-- To send one, it must lie in none (22), and every other change only takes messages out.
use Rattle.std.specs.Prelude.{ℕ, zero, suc, ◌+◌, ◌<◌, ◌≤◌, ◌≡◌, refl, Bool, true, false, cond, List, [], ◌∷◌, ltb, eqb, length, get_or, set, replicate}
use Rattle.std.proofs.Common.{sym, subst, arith, eqb-true}
use Rattle.ledger.specs.Lists.{at, put, any, insert_by}
use Rattle.ledger.specs.Config.{Config}
use Rattle.ledger.specs.Time.{TockValue}
use Rattle.ledger.specs.Ledger.{Message, Ledger, mailbox, fresh}
use Rattle.ledger.specs.Refusals.{inamailbox}
use Rattle.ledger.specs.Good.{Numbered}
use Rattle.ledger.proofs.Theorems.Items.{at_put_each}
use Rattle.ledger.proofs.Theorems.Checks.{or_left, or_right}
use Rattle.ledger.proofs.Theorems.Parts.{nil, Part, skip, both, Ordered, ordered_part, ordered_insert}
use Rattle.ledger.proofs.Theorems.Fresh.{fresh_mailbox}
use Rattle.ledger.proofs.Theorems.Changes.{Change, alters, restarts, pends, finishes, wakes, waits, delivers, removes, puts_entry, takes_entry, starts_timer, stops_timers, ticks, tocks, updates}

-- how many messages with a number lie in a mailbox, and in all
is : ℕ → Message → ℕ
is x m = cond (eqb m.number x) 1 0

count : ℕ → List Message → ℕ
count x [] = 0
count x (m ∷ box) = is x m + count x box

unfoldable pub copies : ℕ → List (List Message) → ℕ
unfolding is count
copies x [] = 0
copies x (box ∷ boxes) = count x box + copies x boxes

pub record SoundMessages (boxes : List (List Message)) : Type 0 where
  pub ordered : (t : ℕ) → Ordered (λ m. m.sender) (at boxes t [])
  pub once : (x : ℕ) → copies x boxes ≤ 1

-- ---- the laws of the count

count_insert : (x : ℕ) (key : Message → ℕ) (m : Message) (box : List Message) → count x (insert_by key m box) ≡ is x m + count x box
unfolding count insert_by
count_insert x key m [] = refl
count_insert x key m (n ∷ box) = go (ltb (key m) (key n)) (count_insert x key m box)
  where
    go : (b : Bool) → count x (insert_by key m box) ≡ is x m + count x box → count x (cond b (m ∷ n ∷ box) (n ∷ insert_by key m box)) ≡ is x m + (is x n + count x box)
    go true h = refl
    go false h = omega arith

count_part : (x : ℕ) {v box : List Message} → Part v box → count x v ≤ count x box
unfolding count
count_part x nil = omega arith
count_part x (skip p) = omega (arith, count_part x p)
count_part x (both p) = omega (arith, count_part x p)

copies_set : (x : ℕ) (boxes : List (List Message)) (n : ℕ) (v : List Message) → copies x (set boxes n v) + count x (get_or boxes n []) ≤ copies x boxes + count x v
unfolding copies
copies_set x [] n v = omega arith
copies_set x (b ∷ boxes) zero v = omega arith
copies_set x (b ∷ boxes) (suc n) v = omega (arith, copies_set x boxes n v)

copies_put : (x : ℕ) (boxes : List (List Message)) (n : ℕ) (v : List Message) → copies x (put boxes n v) + count x (at boxes n []) ≤ copies x boxes + count x v
unfolding put at count
copies_put x boxes zero v = omega arith
copies_put x boxes (suc n) v = copies_set x boxes n v

count_absent : (x : ℕ) (box : List Message) → any (λ m. eqb m.number x) box ≡ false → count x box ≡ 0
unfolding any count is
count_absent x [] h = refl
count_absent x (m ∷ box) h =
    let e : eqb m.number x ≡ false = or_left _ (any (λ m. eqb m.number x) box) h in
    rw e (omega (arith, count_absent x box (or_right (eqb m.number x) _ h)))

copies_absent : (x : ℕ) (boxes : List (List Message)) → any (any (λ (m : Message). eqb m.number x)) boxes ≡ false → copies x boxes ≡ 0
unfolding any copies
copies_absent x [] h = refl
copies_absent x (b ∷ boxes) h =
    omega (arith, count_absent x b (or_left _ (any (any (λ (m : Message). eqb m.number x)) boxes) h), copies_absent x boxes (or_right (any (λ (m : Message). eqb m.number x) b) _ h))

-- ---- every change

new_once : (x : ℕ) (boxes : List (List Message)) (m : Message) → copies x boxes ≤ 1 → any (any (λ (n : Message). eqb n.number m.number)) boxes ≡ false → copies x boxes + is x m ≤ 1
unfolding is
new_once x boxes m h n = go (eqb m.number x) refl
  where
    go : (b : Bool) → eqb m.number x ≡ b → copies x boxes + cond b 1 0 ≤ 1
    go true e = omega (arith, subst (λ y. copies y boxes ≡ 0) (eqb-true m.number x e) (copies_absent m.number boxes n))
    go false e = omega arith

pub deliver_once : (x : ℕ) (boxes : List (List Message)) (t : ℕ) (m : Message) → copies x boxes ≤ 1 → any (any (λ (n : Message). eqb n.number m.number)) boxes ≡ false
    → copies x (put boxes t (insert_by (λ m. m.sender) m (at boxes t []))) ≤ 1
deliver_once x boxes t m h n = omega (arith, copies_put x boxes t (insert_by (λ m. m.sender) m (at boxes t [])), count_insert x (λ m. m.sender) m (at boxes t []), new_once x boxes m h n)

-- how many there then are
pub deliver_more : (x : ℕ) (boxes : List (List Message)) (t : ℕ) (m : Message)
    → copies x (put boxes t (insert_by (λ m. m.sender) m (at boxes t []))) ≤ copies x boxes + cond (eqb m.number x) 1 0
unfolding is
deliver_more x boxes t m = omega (arith, copies_put x boxes t (insert_by (λ m. m.sender) m (at boxes t [])), count_insert x (λ m. m.sender) m (at boxes t []))

pub remove_less : (x : ℕ) (boxes : List (List Message)) (t : ℕ) {v : List Message} → Part v (at boxes t []) → copies x (put boxes t v) ≤ copies x boxes
remove_less x boxes t {v} p = omega (arith, copies_put x boxes t v, count_part x p)

copies_front : (x : ℕ) (boxes : List (List Message)) (n : ℕ) (m : Message) → n < length boxes → copies x (set boxes n (m ∷ get_or boxes n [])) ≡ cond (eqb m.number x) 1 0 + copies x boxes
unfolding is count copies
copies_front x [] n m h = absurd (omega arith)
copies_front x (b ∷ boxes) zero m h = omega arith
copies_front x (b ∷ boxes) (suc n) m h = omega (arith, copies_front x boxes n m (omega arith))

-- with one more at the front of a mailbox that there is
pub front_more : (x : ℕ) (boxes : List (List Message)) (t : ℕ) (m : Message) → Numbered (length boxes) t
    → copies x (put boxes t (m ∷ at boxes t [])) ≡ cond (eqb m.number x) 1 0 + copies x boxes
unfolding put at
front_more x boxes zero m h = absurd (omega arith)
front_more x boxes (suc n) m h = copies_front x boxes n m (omega arith)

abbrev OrderedAt : ℕ → List Message → Type 0
OrderedAt t box = Ordered (λ m. m.sender) box

pub messages_kept : {c : Config} {X : TockValue → Type 0} (l l' : Ledger) → Change c X l l' → SoundMessages l.mailboxes → SoundMessages l'.mailboxes
unfolding updates inamailbox
messages_kept l l' (alters t v a) h = h
messages_kept l l' (restarts t v a) h = h
messages_kept l l' (pends b w) h = h
messages_kept l l' (finishes b u w) h = h
messages_kept l l' (wakes b t e) h = h
messages_kept l l' (waits t b n w e) h = h
messages_kept l l' (delivers t m s n) h = record {
  ordered = at_put_each OrderedAt l.mailboxes t _ [] h.ordered (ordered_insert _ m _ (h.ordered t));
  once = λ x. deliver_once x l.mailboxes t m (h.once x) n;
}
messages_kept l l' (removes t v p) h = record {
  ordered = at_put_each OrderedAt l.mailboxes t v [] h.ordered (ordered_part p (h.ordered t));
  once = λ x. omega (arith, copies_put x l.mailboxes t v, count_part x p, h.once x);
}
messages_kept l l' (puts_entry q e w f) h = h
messages_kept l l' (takes_entry t q e es n k) h = h
messages_kept l l' (starts_timer a b v n s k f) h = h
messages_kept l l' (stops_timers v p) h = h
messages_kept l l' (ticks n) h = h
messages_kept l l' tocks h = h

pub copies_empty : (x n : ℕ) → copies x (replicate n []) ≡ 0
unfolding copies count
copies_empty x zero = refl
copies_empty x (suc n) = omega (arith, copies_empty x n)

pub messages_fresh : (c : Config) → SoundMessages (fresh c).mailboxes
unfolding fresh mailbox
messages_fresh c = record {
  ordered = λ t. subst (Ordered (λ m. m.sender)) (sym (fresh_mailbox c t)) nil;
  once = λ x. omega (arith, copies_empty x c.T);
}
