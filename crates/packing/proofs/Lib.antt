-- The laws on windows and on appending.
pub mod Five
pub mod Appending
