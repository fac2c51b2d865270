-- What contracts say of calls from C.
pub mod Packed
pub mod Calls
pub mod Handles
pub mod KeptFiles
pub mod Sessions
