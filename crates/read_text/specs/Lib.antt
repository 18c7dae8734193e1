-- The root of the specs: Prints has all that the program `read` prints.
pub mod Prints
