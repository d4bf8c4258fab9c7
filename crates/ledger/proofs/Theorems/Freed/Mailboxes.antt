-- Mailboxes: settling puts nothing into an empty one.
use Rattle.std.specs.Prelude.{ℕ, ◌≡◌}
use Rattle.std.proofs.Common.{sym}
use Rattle.std.proofs.Math.Path.{ap, subst}
use mathlib.Core.List.{List, []}
use Rattle.std.proofs.Math.Option.{Option, none as nothing, some}
use Rattle.ledger.specs.Lists.{at, find, without}
use Rattle.ledger.specs.Config.{Config}
use Rattle.ledger.specs.Ledger.{refused, Request, none, receive, dequeue, enqueue, Message, Ledger, mailbox, queue, held, running, set_outcome, set_request, set_message_wait}
use Rattle.ledger.specs.Services.{wanted, full, received, issue}
use Rattle.ledger.specs.Session.{Settles, stops, goes_on, open_request, refused21, issue_again, reissue}
use Rattle.ledger.proofs.Theorems.Items.{at_put_each}
use Rattle.ledger.proofs.Theorems.Checks.{cond_both}
use Rattle.ledger.proofs.Theorems.Changes.{updates}
use Rattle.ledger.proofs.Theorems.Once.{of_dequeued, of_enqueued}

abbrev Empty : List (List Message) → ℕ → Type 0
Empty boxes a = at boxes a [] ≡ []

module _ (c : Config) (a : ℕ) where
  received_leaves : (t f : ℕ) (o : Option Message) (l : Ledger) → Empty l.mailboxes a → Empty (received t f o l).mailboxes a
  unfolding updates set_request set_message_wait received without
  received_leaves t f nothing l h = h
  received_leaves t f (some m) l h = at_put_each (λ i v. at l.mailboxes i [] ≡ [] → v ≡ []) l.mailboxes t _ [] (λ i q. q) (λ q. ap (without (wanted f)) q) a h

  issue_leaves : (t : ℕ) (r : Request) (l : Ledger) → Empty l.mailboxes a → Empty (issue c t r l).mailboxes a
  unfolding issue
  issue_leaves t none l h = h
  issue_leaves t (receive f) l h = received_leaves t f (find (wanted f) (mailbox l t)) l h
  issue_leaves t (dequeue q) l h = subst (λ v. Empty v a) (sym (of_dequeued c t q (held (queue l q)) l)) h
  issue_leaves t (enqueue q e) l h = subst (λ v. Empty v a) (sym (of_enqueued c t q e (full c l q) l)) h

  reissue_leaves : (l : Ledger) → Empty l.mailboxes a → Empty (reissue c l).mailboxes a
  unfolding updates set_request reissue issue_again
  reissue_leaves l h =
      let m = set_request (running l) none l in
      cond_both (λ k. Empty k.mailboxes a) (refused21 c (open_request l) m) (set_outcome (running l) (refused 21) m) (issue c (running l) (open_request l) m) h (issue_leaves (running l) (open_request l) m h)

  pub empty_on : {l l' : Ledger} {n : ℕ} → Settles c l n l' → mailbox l a ≡ [] → mailbox l' a ≡ []
  unfolding mailbox
  empty_on (stops e) h = h
  empty_on {l} (goes_on o s) h = empty_on s (reissue_leaves l h)
