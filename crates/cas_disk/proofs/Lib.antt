pub mod Moments
mod Mixing
mod ImageLaws
mod FileLemmas
mod Listings
mod ReadLemmas
mod Settling
pub mod WrittenLasts
