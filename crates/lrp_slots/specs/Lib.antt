pub mod KeyOrders
pub mod Keys
pub mod Lines
pub mod Links
pub mod Lists
pub mod Medium
pub mod Narrow
