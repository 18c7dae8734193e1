-- The laws on the C interface: Unique, that each contract determines the answer.
pub mod Unique
