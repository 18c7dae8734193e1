-- The laws on the order of two, and the table's rule: Orders on the order itself, Powers on squaring and sizes, Units on exponents
-- with 2^N = 1, Factors on dividing a factor out, Totient and Certificate on the two trial divisions, Entries and Answers on the table.
pub mod Orders
pub mod Powers
pub mod Units
pub mod Factors
pub mod Totient
pub mod Certificate
pub mod Entries
pub mod Answers
