-- What is stored decodes to what it was, and what is decoded is in range.
use Rattle.std.specs.Prelude.{◌≡◌, refl, Bool, true, false, List, [], ◌∷◌, ◌++◌, ℕ, ◌<◌, ◌≤◌, min, eqb, leb, ltb, length, take}
use Rattle.std.proofs.Common.{sym, ap, ◌∙◌, arith, length-take, length-take-le, ne_eqb, le-leb, leb-true, ltb-true}
use Rattle.std.proofs.lemmas.Bool.{eqb-false, lt-leb}
use Rattle.tables.specs.declared.tasks.Outcome.{Outcome}
use Rattle.tables.specs.declared.tasks.Outcome.TheVariants.{Plain, Begin, Message, Entry, Refused, Semaphore, Woke}
use Rattle.tables.specs.declared.tasks.Request.{Request}
use Rattle.tables.specs.declared.tasks.Request.TheVariants.{None, Receive, Dequeue, Enqueue}
use Rattle.tables.specs.declared.semaphores.Semaphore as state
use Rattle.tables.specs.declared.semaphores.Semaphore.TheVariants.{Pending, Done, Waiting}
use Rattle.tables.specs.Layout.{OneOf}
use Rattle.rows.specs.Splice.{splice}
use Rattle.ledger.specs.Config.{Config}
use Rattle.ledger.specs.Ledger as ledger
use Rattle.tables.specs.Decode.{outcome_of, outcome_written, outcome_bytes, request_of, request_kind, request_argument, request_bytes, state_of, state_byte, head_of, count_of, view_outcome, view_request, view_semaphore, outcome_as, request_as, state_as}

-- a task that waits is one of the T tasks
abbrev pub Waiter : ℕ → state.Semaphore → Type 0
Waiter T Pending = Unit
Waiter T Done = Unit
Waiter T (Waiting t) = OneOf T t

-- a queue that a request names is one of the Q queues
abbrev pub AsksFor : ℕ → Request → Type 0
AsksFor Q None = Unit
AsksFor Q (Receive a) = Unit
AsksFor Q (Dequeue q) = OneOf Q q
AsksFor Q (Enqueue q) = OneOf Q q

-- an entry has no more bytes than a slot
abbrev pub Narrow : Outcome → Type 0
Narrow Plain = Unit
Narrow Begin = Unit
Narrow (Message a b c) = Unit
Narrow (Entry a) = a ≤ 16
Narrow (Refused a) = Unit
Narrow (Semaphore a) = Unit
Narrow (Woke a) = Unit

pub case {ℓ} : {P : Type ℓ} (b : Bool) → (b ≡ true → P) → (b ≡ false → P) → P
case true y n = y refl
case false y n = n refl

pub outcome_back : (o : Outcome) → outcome_of (outcome_written o).kind (outcome_written o).first (outcome_written o).second (outcome_written o).third ≡ o
outcome_back Plain = refl
outcome_back Begin = refl
outcome_back (Message a b c) = refl
outcome_back (Entry a) = refl
outcome_back (Refused a) = refl
outcome_back (Semaphore a) = refl
outcome_back (Woke a) = refl

pub request_back : (Q : ℕ) (q : Request) → AsksFor Q q → request_of Q (request_kind q) (request_argument q) ≡ q
request_back Q None w = refl
request_back Q (Receive a) w = refl
request_back Q (Dequeue a) w = rw (ne_eqb a 0 (λ e. omega arith), le-leb a Q w.1)
request_back Q (Enqueue a) w = rw (ne_eqb a 0 (λ e. omega arith), le-leb a Q w.1)

pub asks_for : (Q k a : ℕ) → AsksFor Q (request_of Q k a)
asks_for Q k a =
    case (eqb k 1) (λ e. rw e tt)
    (λ e. case (eqb a 0) (λ f. rw (e, f) tt)
    (λ f. case (leb a Q)
    (λ g. let q : OneOf Q a = (omega (arith, eqb-false a 0 f), leb-true a Q g) in
    case (eqb k 2) (λ i. rw (e, f, g, i) q) (λ i. case (eqb k 3) (λ j. rw (e, f, g, i, j) q) (λ j. rw (e, f, g, i, j) tt)))
    (λ g. rw (e, f, g) tt)))

pub state_back : (T : ℕ) (s : state.Semaphore) → T ≤ 126 → Waiter T s → state_of T (state_byte s) ≡ s
state_back T Pending h w = refl
state_back T Done h w = let l : T < 255 = omega arith in rw (lt-leb 255 T l)
state_back T (Waiting t) h w = rw (ne_eqb t 0 (λ e. omega arith), le-leb t T w.1)

pub state_waiter : (T x : ℕ) → Waiter T (state_of T x)
state_waiter T x =
    case (eqb x 0) (λ e. rw e tt)
    (λ e. case (leb x T) (λ g. rw (e, g) (omega (arith, eqb-false x 0 e), leb-true x T g)) (λ g. rw (e, g) tt))

pub head_in_lem : (n x : ℕ) → 1 ≤ n → head_of n x < n
head_in_lem n x h = case (ltb x n) (λ e. rw e (ltb-true x n e)) (λ e. rw e h)

pub count_in_lem : (n x : ℕ) → count_of n x ≤ n
count_in_lem n x = case (leb x n) (λ e. rw e (leb-true x n e)) (λ e. rw e (omega arith))

-- ---- what is stored are the bytes of what it means

pub outcome_as_lem : (o : Outcome) (slot : List ℕ) → Narrow o → length slot ≡ 16 → outcome_bytes o ≡ outcome_as (view_outcome o slot)
unfolding outcome_as view_outcome
outcome_as_lem Plain z n h = refl
outcome_as_lem Begin z n h = refl
outcome_as_lem (Message a b c) z n h = refl
outcome_as_lem (Entry a) z n h = let e : a ≡ length (take a z) = sym (length-take-le a z (omega arith)) in ap (λ (x : ℕ). 3 ∷ x ∷ 0 ∷ 0 ∷ []) e
outcome_as_lem (Refused a) z n h = refl
outcome_as_lem (Semaphore a) z n h = refl
outcome_as_lem (Woke a) z n h = refl

-- a slot as long as another makes the same bytes of an outcome
pub outcome_long : (o : Outcome) (x y : List ℕ) → length x ≡ length y → outcome_as (view_outcome o x) ≡ outcome_as (view_outcome o y)
unfolding outcome_as view_outcome
outcome_long Plain x y h = refl
outcome_long Begin x y h = refl
outcome_long (Message a b c) x y h = refl
outcome_long (Entry a) x y h = let e : length (take a x) ≡ length (take a y) = length-take a x ∙ ap (min a) h ∙ sym (length-take a y) in ap (λ (n : ℕ). 3 ∷ n ∷ 0 ∷ 0 ∷ []) e
outcome_long (Refused a) x y h = refl
outcome_long (Semaphore a) x y h = refl
outcome_long (Woke a) x y h = refl

-- whatever waits beside it
pub request_as_lem : (c : Config) (q : Request) (e : List ℕ) → request_bytes q ≡ request_as (view_request c q e)
unfolding request_as view_request
request_as_lem c None e = refl
request_as_lem c (Receive a) e = refl
request_as_lem c (Dequeue a) e = refl
request_as_lem c (Enqueue a) e = refl

pub state_as_lem : (x : state.Semaphore) → state_byte x ≡ state_as (view_semaphore x)
unfolding state_as view_semaphore
state_as_lem Pending = refl
state_as_lem Done = refl
state_as_lem (Waiting t) = refl

-- either part of a record is new
pub outcome_over : (x : ledger.Outcome) (y : ledger.Request) (o : Outcome) → splice (outcome_as x ++ request_as y) 0 (outcome_bytes o) ≡ outcome_bytes o ++ request_as y
unfolding outcome_as
outcome_over ledger.plain y o = refl
outcome_over ledger.begin y o = refl
outcome_over (ledger.message a b c) y o = refl
outcome_over (ledger.entry e) y o = refl
outcome_over (ledger.refused a) y o = refl
outcome_over (ledger.semaphore a) y o = refl
outcome_over (ledger.woke a) y o = refl

request_over_plain : (a b c d : ℕ) (y : ledger.Request) (q : Request) → splice ((a ∷ b ∷ c ∷ d ∷ []) ++ request_as y) 4 (request_bytes q) ≡ (a ∷ b ∷ c ∷ d ∷ []) ++ request_bytes q
unfolding request_as
request_over_plain a b c d ledger.none q = refl
request_over_plain a b c d (ledger.receive x) q = refl
request_over_plain a b c d (ledger.dequeue x) q = refl
request_over_plain a b c d (ledger.enqueue x e) q = refl

pub request_over : (x : ledger.Outcome) (y : ledger.Request) (q : Request) → splice (outcome_as x ++ request_as y) 4 (request_bytes q) ≡ outcome_as x ++ request_bytes q
unfolding outcome_as
request_over ledger.plain y q = request_over_plain 0 0 0 0 y q
request_over ledger.begin y q = request_over_plain 1 0 0 0 y q
request_over (ledger.message a b c) y q = request_over_plain 2 a b c y q
request_over (ledger.entry e) y q = request_over_plain 3 (length e) 0 0 y q
request_over (ledger.refused a) y q = request_over_plain 4 a 0 0 y q
request_over (ledger.semaphore a) y q = request_over_plain 5 a 0 0 y q
request_over (ledger.woke a) y q = request_over_plain 6 a 0 0 y q
