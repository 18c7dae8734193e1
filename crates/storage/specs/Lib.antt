-- The root of the specs: Storage has the words of the document on the storage sheet.
pub mod Storage
