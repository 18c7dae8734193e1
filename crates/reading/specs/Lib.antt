-- The root of the specs: Line has what the program `read` prints.
pub mod Line
