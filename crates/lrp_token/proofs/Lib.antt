pub mod Refusals
pub mod Lists
pub mod HexLaws
pub mod Numbers
pub mod Tokens
pub mod Telling
