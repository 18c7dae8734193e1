-- The root of the specs: Antennas has the words of the request; Search what a private function asks of its callers.
pub mod Antennas
pub mod Search
