-- `drop_messages` drops one message a turn: to drop the rest comes to the same as to drop all, until the mailbox is empty or as many turns are done as there are messages.
use Rattle.tables.specs.Lent.{Step}
use Rattle.services.specs.Dropped.{Dropping}
use Rattle.services.proofs.message.drop_messages.Given as goal

abbrev pub invariant-loop : goal.invariant-loop
invariant-loop l = Step l.initial.tables l.tables (λ s d d'. Dropping s l.t d d' l.end l.counter)
