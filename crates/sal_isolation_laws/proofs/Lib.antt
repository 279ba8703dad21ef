pub mod ByValue
pub mod Committers
pub mod Epochs
pub mod Parted
pub mod Runs
pub mod Stacked
