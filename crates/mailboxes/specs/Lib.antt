-- What a message that was received is to the ledger.
pub mod Received
-- Room for one more, and the rule that there is some.
pub mod Room
-- Where the messages lie, and what is shown when they change.
pub mod Mail
pub mod Operations
-- The rule, by the ledger's mailboxes.
pub mod Whole
