-- The root of the specs: Inner has what appending bits to bytes asks of its callers, and the words of private functions.
pub mod Inner
