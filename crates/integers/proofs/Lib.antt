-- The laws on numbers that proofs of every crate cite.
pub mod Parts
pub mod Ring
pub mod Equations
pub mod Parity
pub mod Sizes
pub mod Tests
pub mod Log2
pub mod Finite
pub mod Coprime
pub mod Modulo
pub mod Primes
pub mod Fermat
