-- The root of the specs: Refusals has the number and the fields of an answer that may be a refusal.
pub mod Refusals
