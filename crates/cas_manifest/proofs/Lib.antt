pub mod Appends
pub mod Opens
pub mod Begins
pub mod Listings
pub mod Loads
pub mod Loops
pub mod ManifestLaws
pub mod ManifestAgain
