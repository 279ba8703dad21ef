pub mod Committed
pub mod Newest
pub mod OverEpochs
pub mod Resumed
pub mod Streamed
