-- What the listing program prints.
pub mod Listing
