-- What reading and writing drawing files do to each other.
pub mod RoundTrip
