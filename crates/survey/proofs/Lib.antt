mod Soundness
mod Loads
mod Rows
mod OneFile
