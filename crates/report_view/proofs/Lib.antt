mod Keys
mod Turns
