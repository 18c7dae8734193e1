-- The reduced basis: Norm has the lemma that carries it, Keys the order, Vectors and Basis the algebra, Turns one bit more, States what a state is after k bits,
-- Moves what the functions on vectors ask.
pub mod Norm
pub mod Keys
pub mod Vectors
pub mod Basis
pub mod Turns
pub mod States
pub mod Moves
