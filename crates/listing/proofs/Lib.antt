-- Rows has that the pieces of a line are its fields, Refusals what cannot be refused, Meters which line a meter has, Uniqueness that it is one, Existence that
-- there always is one.
pub mod Rows
pub mod Refusals
pub mod Meters
pub mod Uniqueness
pub mod Existence
