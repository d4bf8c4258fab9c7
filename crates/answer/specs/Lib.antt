pub mod Written
pub mod Answered
pub mod Read
