pub mod Marks
pub mod Pieces
pub mod Cuts
pub mod Form
pub mod Front
pub mod Objects
pub mod Runs
pub mod computed
