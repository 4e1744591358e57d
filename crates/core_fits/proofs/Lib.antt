pub mod CallersFit
