pub mod Disk
pub mod Outside
pub mod Memory
pub mod MemoryViews
pub mod SureViews
