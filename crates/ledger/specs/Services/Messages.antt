-- Messages: send, receive issued for task t, now or again in settling, and messages that are dropped.
use Rattle.std.specs.Prelude.{ℕ, Bool, true, false, ◌||◌, [], map, eqb}
use Rattle.std.proofs.Math.Option.{Option, none as nothing, some}
use Rattle.ledger.specs.Lists.{without, insert_by}
use Rattle.ledger.specs.Ledger.{message, semaphore, receive, Message, Ledger, mailbox, set_mailbox, set_outcome, set_request, set_message_wait}
use Rattle.ledger.specs.Services.Semaphores.{signal_all}

-- into A's mailbox, lowest sender number first, equal senders in order of sending; A loses message wait. Outcome semaphore
unfoldable pub send : ℕ → ℕ → ℕ → ℕ → Ledger → Ledger
send self a b x l =
    let m : Message = record { number = x; sender = self; semaphore = b } in
    set_outcome self (semaphore b) (set_message_wait a false (set_mailbox a (insert_by (λ m. m.sender) m (mailbox l a)) l))

-- the first message, or the first from A if A isn't 0
unfoldable pub wanted : ℕ → Message → Bool
wanted a m = eqb a 0 || eqb a m.sender

-- none: message wait and an open request; else it is taken out of the mailbox, outcome message
unfoldable pub received : ℕ → ℕ → Option Message → Ledger → Ledger
received t a nothing l = set_request t (receive a) (set_message_wait t true l)
received t a (some m) l = set_outcome t (message m.number m.sender m.semaphore) (set_mailbox t (without (wanted a) (mailbox l t)) l)

-- nobody will receive the messages in t's mailbox: the semaphore of each is signalled, in mailbox order, and the mailbox emptied
unfoldable pub drop_messages : ℕ → Ledger → Ledger
drop_messages t l = set_mailbox t [] (signal_all (map (λ m. m.semaphore) (mailbox l t)) l)
