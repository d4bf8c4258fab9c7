pub mod Answers
pub mod Digits
