pub mod Batches
pub mod Replays
pub mod Rounds
pub mod Shelves
pub mod Sound
pub mod Stored
pub mod Turns
pub mod Works
