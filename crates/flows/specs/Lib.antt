pub mod Kept
pub mod Stacks
pub mod Units
pub mod Numbers
pub mod Residual
pub mod Found
pub mod Listing
pub mod Closing
