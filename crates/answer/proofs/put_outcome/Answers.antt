-- `put_outcome` calls, in each arm, the function that writes that outcome.
use Rattle.tables.specs.Decode.{view_outcome}
use Rattle.ledger.specs.Session.{shown}
use Rattle.answer.specs.Written.{line}
use Rattle.answer.proofs.put_outcome.Goals as goal

pub returns-in-Plain : goal.returns-in-Plain
unfolding line shown view_outcome
returns-in-Plain c = rw c.in-Plain.is c.put.ensures

pub returns-in-Begin : goal.returns-in-Begin
unfolding line shown view_outcome
returns-in-Begin c = rw c.in-Begin.is c.put-in-Begin.ensures

pub returns-in-Message : goal.returns-in-Message
unfolding line shown view_outcome
returns-in-Message c = rw c.in-Message.is c.put-in-Message.ensures

pub returns-in-Entry : goal.returns-in-Entry
unfolding view_outcome
returns-in-Entry c = rw c.in-Entry.is c.put_entry.ensures

pub returns-in-Refused : goal.returns-in-Refused
unfolding line shown view_outcome
returns-in-Refused c = rw c.in-Refused.is c.put-in-Refused.ensures

pub returns-in-Semaphore : goal.returns-in-Semaphore
unfolding line shown view_outcome
returns-in-Semaphore c = rw c.in-Semaphore.is c.put-in-Semaphore.ensures

pub returns-in-Woke : goal.returns-in-Woke
unfolding line shown view_outcome
returns-in-Woke c = rw c.in-Woke.is c.put-in-Woke.ensures
