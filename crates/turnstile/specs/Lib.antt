pub mod Lending
pub mod Lists
pub mod Making
pub mod Passes
pub mod Rule
pub mod Steps
