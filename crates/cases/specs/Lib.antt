-- The root of the specs: Cases has what reading a case can promise.
pub mod Cases
