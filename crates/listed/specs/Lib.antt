pub mod Lists
pub mod Listing
