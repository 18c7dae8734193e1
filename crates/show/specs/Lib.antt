-- The root of the specs: Checksums has the sum by which programs print many bytes.
pub mod Checksums
