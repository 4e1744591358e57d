pub mod Knot
