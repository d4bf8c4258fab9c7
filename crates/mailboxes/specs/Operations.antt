-- Each operation, from what its call of the records promises: the ledger's own change, for a ledger that the memory shows.
use Rattle.std.specs.Prelude.{◌≡◌, Bool, List, ℕ, ◌+◌, ◌-◌, ◌<◌, ◌≤◌, length, get_or, None}
use Rattle.std.proofs.Math.Path.{sym, ap}
use Rattle.std.proofs.Common.{ap₂, ◌∙◌, arith}
use Rattle.std.proofs.Math.Option.{none, some}
use Rattle.messages.specs.Pending.{Pending, letter, pending, pending_in, letter_at, numbers_in, numbered, mailbox_of, mailboxes_of, occurs}
use Rattle.messages.specs.Changes.{Inserted, FoundAt, Found, Removed, Taken}
use Rattle.messages.specs.Records.{held_is, found_some, found_none, taken}
use Rattle.tables.specs.declared.shape.Shape.{Shape}
use Rattle.tables.specs.Layout.{OneOf, count_at}
use Rattle.tables.specs.Decode.{count_of}
use Rattle.tables.specs.Shows.{ShowsAs, mailboxes_in}
use Rattle.ledger.specs.Config.{Config}
use Rattle.ledger.specs.Lists.{any, find, without, insert_by}
use Rattle.ledger.specs.Ledger.{Ledger, Message, mailbox, set_mailbox}
use Rattle.ledger.specs.Services.{wanted}
use Rattle.ledger.specs.Refusals.{inamailbox}
use Rattle.mailboxes.specs.Mail.{bytes, mail, mail_is, mail_tidy, mailbox_in, renewed, mail_renewed}

module _ {tidy : Bool} (c : Config) (s : Shape) (L : Ledger) (d z w : List ℕ) (h : ShowsAs tidy c s L d z w) where
  in_mail : (x : ℕ) → any (any (numbered x)) (mailboxes_of s.tasks (mail s d)) ≡ inamailbox L x
  unfolding inamailbox mailboxes_in
  in_mail x =
      ap (any (any (numbered x)))
      (ap₂ mailboxes_of h.of.tasks (mail_is c s L d z w h) ∙ sym h.shown.mailboxes)

  -- the count that was read
  module _ (n : ℕ) (e : n ≡ count_of s.messages (get_or d count_at 0)) where
    mail_now : pending_in s.tasks n (bytes s d) ≡ mail s d
    mail_now = ap (λ (k : ℕ). pending_in s.tasks k (bytes s d)) e

    pub holds_told : (x : ℕ) (r : Bool) → r ≡ occurs x (numbers_in n (bytes s d)) → r ≡ inamailbox L x
    holds_told x r q =
        q ∙ sym (held_is s.tasks n x (bytes s d) h.of.laid.some)
        ∙ ap (λ (l : List Pending). any (any (numbered x)) (mailboxes_of s.tasks l)) mail_now ∙ in_mail x

    module _ (t : ℕ) (to : OneOf s.tasks t) where
      own_mail : mailbox_of t (pending_in s.tasks n (bytes s d)) ≡ mailbox L t
      own_mail = ap (mailbox_of t) mail_now ∙ sym (mailbox_in c s L d z w h t to)

      pub insert_done : (x f b : ℕ) (ys : List ℕ) → n < s.messages → length ys ≡ length (bytes s d) → Inserted s.tasks n (pending t x f b) (bytes s d) ys
          → ShowsAs tidy c s (set_mailbox t (insert_by (λ m. m.sender) (letter x f b) (mailbox L t)) L) (renewed s d ys (n + 1)) z w
      insert_done x f b ys r l i =
          let m : Message = letter x f b in
          mail_renewed c s L d z w h t to ys l (n + 1) (omega arith) (insert_by (λ m. m.sender) m (mailbox L t))
          (i.own ∙ ap (insert_by (λ m. m.sender) m) own_mail)
          (λ u ne. i.others u ne ∙ ap (mailbox_of u) mail_now)
          (λ q. i.addressed (mail_tidy c s L d z w h q n e))

      -- a receive found nothing
      pub take_none : (a : ℕ) → Found s.tasks n t a (bytes s d) None → none ≡ find (wanted a) (mailbox L t)
      take_none a f = sym (ap (find (wanted a)) (sym own_mail) ∙ found_none s.tasks n t a (bytes s d) f)

      -- or a message, at record k
      module _ (few : n ≤ s.messages) (a k : ℕ) (f : FoundAt s.tasks n t a (bytes s d) k) where
        pub take_some : (m : Message) → m ≡ letter_at k (bytes s d) → some m ≡ find (wanted a) (mailbox L t)
        take_some m q = ap some q ∙ sym (ap (find (wanted a)) (sym own_mail) ∙ found_some s.tasks n t a (bytes s d) k f)

        pub take_done : (ys : List ℕ) → length ys ≡ length (bytes s d) → Removed n k (bytes s d) ys
            → ShowsAs tidy c s (set_mailbox t (without (wanted a) (mailbox L t)) L) (renewed s d ys (n - 1)) z w
        take_done ys l q =
            let i : Taken s.tasks n t a (bytes s d) ys = taken s.tasks n t a k (bytes s d) ys f (q s.tasks).0 in
            mail_renewed c s L d z w h t to ys l (n - 1) (omega arith) (without (wanted a) (mailbox L t))
            (i.own ∙ ap (without (wanted a)) own_mail)
            (λ u ne. i.others u ne ∙ ap (mailbox_of u) mail_now)
            (λ p. (q s.tasks).1 (mail_tidy c s L d z w h p n e))
