-- The laws on bytes and bits: Numbers over any base, Bits on single bits, Values on the value of a burst, Laws what the loops lean on.
pub mod Numbers
pub mod Bits
pub mod Values
pub mod Laws
