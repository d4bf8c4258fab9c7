-- To compute the ledger, also on long sessions, and to write sessions as the document does.
pub mod Hex
pub mod Force
pub mod Quick
pub mod Sessions
