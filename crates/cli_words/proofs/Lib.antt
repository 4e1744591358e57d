mod Values
mod Plain
mod Entered
