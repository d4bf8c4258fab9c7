-- The table of codes, as the program has it; a configuration by its shape.
pub mod Codes
pub mod Configured
pub mod Table
pub mod Numbers
-- the checks of the input and of the state, and what is promised of the number
pub mod Input
pub mod State
pub mod Firsts
pub mod Refused
