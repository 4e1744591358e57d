pub mod Mapped
pub mod Open
pub mod Reopening
pub mod Runs
pub mod Tree
pub mod WholeRuns
