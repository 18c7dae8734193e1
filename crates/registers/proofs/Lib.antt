-- The laws on registers: Validity has their ranges, Numerators the step law, States that state and numerator determine each other, Loading the rule for loading,
-- Answers that each answer is unique.
pub mod Validity
pub mod Numerators
pub mod States
pub mod Loading
pub mod Answers
pub mod Memory
pub mod Machine
