-- Reading has what several reads consume of known bytes.
pub mod Reading
