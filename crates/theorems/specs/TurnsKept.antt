-- A timer misses no turn, as a host sees it: what it sees of a list of calls is what it would see of the ledger, call by call. So no turn is missed there, and each turn signals.
use Rattle.std.specs.Prelude.{List}
use Rattle.ledger.specs.Config.{Config}
use Rattle.ledger.specs.Seen.{Seen, NoTurnMissed, TocksAreFed, EachTurnSignals}

pub record TurnsKept (c : Config) (all : List Seen) : Type 0 where
  -- behind each call that started a timer, as long as none ended it: as many turns as the tocks since then ask for
  pub missed : NoTurnMissed c all
  -- these tocks are those of the ticks that were fed, whatever numbers the calls returned for them
  pub fed : TocksAreFed c all
  -- in each turn its semaphore was signalled, and a task that waited there waits no longer, unless it had an open request
  pub signals : EachTurnSignals c all
