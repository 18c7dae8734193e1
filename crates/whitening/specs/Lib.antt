-- The root of the specs: Whitening has the words of the document, Inner the words of private functions, Carrying how an expansion is carried.
pub mod Whitening
pub mod Inner
pub mod Carrying
