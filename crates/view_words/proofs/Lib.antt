mod Plain
mod Entered
