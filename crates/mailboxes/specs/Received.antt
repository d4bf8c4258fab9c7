-- A message that was received, as the ledger's, and the ledger that is left.
use Rattle.std.proofs.Math.Option as math
use Rattle.std.proofs.Math.Option.{none, some}
use Rattle.std.specs.Prelude.{ℕ, Option, None, Some}
use Rattle.ledger.specs.Lists.{without, insert_by}
use Rattle.ledger.specs.Ledger as ledger
use Rattle.ledger.specs.Ledger.{Ledger, mailbox, set_mailbox}
use Rattle.ledger.specs.Services.{wanted}
use Rattle.messages.specs.declared.Message.{Message}

unfoldable pub view_received : Option Message → math.Option ledger.Message
view_received None = none
view_received (Some m) = some (record { number = m.number; sender = m.sender; semaphore = m.semaphore })

-- a message more lies in the mailbox of task t, lowest sender first
abbrev pub inserted : (t number sender semaphore : ℕ) → Ledger → Ledger
inserted t x f b L = set_mailbox t (insert_by (λ m. m.sender) (record { number = x; sender = f; semaphore = b }) (mailbox L t)) L

-- what task t received from a (0: from any) is out of its mailbox
unfoldable pub taken : Option Message → (t a : ℕ) → Ledger → Ledger
taken None t a L = L
taken (Some m) t a L = set_mailbox t (without (wanted a) (mailbox L t)) L
