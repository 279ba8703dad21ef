pub mod EpochExamples
pub mod Epochs
pub mod Examples
pub mod Isolation
pub mod IsolationLaws
