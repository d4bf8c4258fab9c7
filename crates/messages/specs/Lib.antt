-- What the bytes mean, and what the contracts promise of it.
pub mod Pending
pub mod Changes
pub mod Searches
-- Laws: of lists, of mailboxes, of records, of a full table.
pub mod Lists
pub mod Mailboxes
pub mod Records
pub mod Full
-- What is complete, and how many records are taken, by the mailboxes.
pub mod Counted
pub mod Lying
-- The loop of the searches, and the one that tests for a complete table.
pub mod Looking
pub mod Marks
pub mod Checks
