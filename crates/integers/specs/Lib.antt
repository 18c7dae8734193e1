-- The root of the specs: Numbers has the words on numbers that contracts of every crate cite, Inner those of private functions.
pub mod Numbers
pub mod Inner
