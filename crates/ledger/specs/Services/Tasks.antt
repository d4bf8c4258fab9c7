-- Task control: terminate and execute.
use Rattle.std.specs.Prelude.{not, ℕ, eqb}
use Rattle.ledger.specs.Lists.{keep}
use Rattle.ledger.specs.Ledger.{plain, begin, none, Ledger, no_block, only_idle, task, set_task, set_timers}
use Rattle.ledger.specs.Services.Semaphores.{withdraw_wait}
use Rattle.ledger.specs.Services.Messages.{drop_messages}

-- first its WAITING semaphore becomes PENDING and its timers are removed, then its messages are dropped; last, only block idle, outcome plain, no open request
unfoldable pub terminate : ℕ → Ledger → Ledger
terminate a l =
    set_task a (record { blocks = only_idle; outcome = plain; slot = (task l a).slot; request = none })
    (drop_messages a (set_timers (keep (λ t. not (eqb t.task a)) l.timers) (withdraw_wait a l)))

-- no block, no open request, its WAITING semaphore PENDING, outcome begin; timers and mailbox stay
unfoldable pub execute : ℕ → Ledger → Ledger
execute a l = set_task a (record { blocks = no_block; outcome = begin; slot = (task l a).slot; request = none }) (withdraw_wait a l)
