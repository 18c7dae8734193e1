-- The root of the specs: ByMeter has what learning by meter number answers.
pub mod ByMeter
