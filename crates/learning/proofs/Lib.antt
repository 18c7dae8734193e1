-- Laws are those of the contract alone. Ends, Guesses and Tails are what the code leans on: which pair is smallest, why no
-- other fraction than the guess can fit, and what it is to fit more bits.
pub mod Ends
pub mod Guesses
pub mod Tails
pub mod Laws
