-- Checksums has what a checksum tells of its bytes.
pub mod Checksums
