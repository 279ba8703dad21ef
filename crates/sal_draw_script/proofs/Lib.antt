pub mod Beads
pub mod Fractions
pub mod Weaving
