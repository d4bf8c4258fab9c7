-- Messages dropped one by one.
use Rattle.std.specs.Prelude.{ℕ, List, [], ◌∷◌}
use Rattle.ledger.specs.Ledger.{Message, Ledger, set_mailbox}
use Rattle.ledger.specs.Services.{signal}

-- the first of the messages in t's mailbox is taken out, and its semaphore signalled
unfoldable pub drop_first : ℕ → List Message → Ledger → Ledger
drop_first t [] l = l
drop_first t (m ∷ ms) l = (signal m.semaphore (set_mailbox t ms l)).ledger
