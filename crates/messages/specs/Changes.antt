-- What the changes promise where there are T tasks, of d before and d' after: for the receiver, and for every other mailbox.
use Rattle.std.specs.Prelude.{◌≡◌, ℕ, ◌+◌, ◌-◌, ◌<◌, true, List, ◌≢◌, Option, MatchOption}
use Rattle.ledger.specs.Lists.{without, insert_by}
use Rattle.ledger.specs.Services.{wanted}
use Rattle.rows.specs.Rows.{remove_at}
use Rattle.messages.specs.Pending.{Pending, addressed, pending_in, mailbox_of, place_of}

-- p is sent: n records before, one more after
pub record Inserted (T n : ℕ) (p : Pending) (d d' : List ℕ) : Type 0 where
  pub own : mailbox_of p.to (pending_in T (n + 1) d') ≡ insert_by (λ m. m.sender) p.message (mailbox_of p.to (pending_in T n d))
  pub others : (u : ℕ) → (p.to ≢ u) → mailbox_of u (pending_in T (n + 1) d') ≡ mailbox_of u (pending_in T n d)
  pub addressed : addressed T n d ≡ true → addressed T (n + 1) d' ≡ true

-- k is the place of the first message that task t receives from a (0: from any)
pub record FoundAt (T n t a : ℕ) (d : List ℕ) (k : ℕ) : Type 0 where
  pub place : k ≡ place_of t a (pending_in T n d)
  pub inside : k < n

-- r is that place, if there is such a message
abbrev pub Found : (T n t a : ℕ) → List ℕ → Option ℕ → Type 0
Found T n t a d r = MatchOption r (place_of t a (pending_in T n d) ≡ n) (FoundAt T n t a d)

-- record k is taken out
abbrev pub Removed : (n k : ℕ) (d d' : List ℕ) → Type 0
Removed n k d d' = (T : ℕ) → (pending_in T (n - 1) d' ≡ remove_at k (pending_in T n d)) × (addressed T n d ≡ true → addressed T (n - 1) d' ≡ true)

-- the message found is taken out: n records before, one less after
pub record Taken (T n t a : ℕ) (d d' : List ℕ) : Type 0 where
  pub own : mailbox_of t (pending_in T (n - 1) d') ≡ without (wanted a) (mailbox_of t (pending_in T n d))
  pub others : (u : ℕ) → (t ≢ u) → mailbox_of u (pending_in T (n - 1) d') ≡ mailbox_of u (pending_in T n d)
