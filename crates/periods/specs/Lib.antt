-- The root of the specs: Orders has the least-exponent rule, Answers what the table answers, Finding words of private contracts.
pub mod Orders
pub mod Answers
pub mod Finding
