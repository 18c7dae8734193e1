-- The laws on walks: LeadIn outside -q .. 0, Round inside, Walks of numerators and of states, Loaded pairs and the period table.
pub mod LeadIn
pub mod Round
pub mod Walks
pub mod Loaded
