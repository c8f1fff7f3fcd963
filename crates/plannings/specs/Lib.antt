pub mod Ready
pub mod Lending
pub mod Searching
pub mod Running
