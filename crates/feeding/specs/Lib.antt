pub mod Input
pub mod Whole
pub mod Line
pub mod Replies
pub mod Printed
pub mod Feeds
