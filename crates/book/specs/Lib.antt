pub mod Book
pub mod LawOfCounts
pub mod Ledger
pub mod Replies
