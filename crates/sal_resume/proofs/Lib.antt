pub mod Committing
pub mod Leading
pub mod Opened
pub mod OverEpochs
