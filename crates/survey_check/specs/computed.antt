-- Definitions that mirror code, so that proofs go by them. Laws tie them to the others, and no promise rests on them.
pub mod Endings
