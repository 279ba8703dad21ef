pub mod Answered
pub mod Everyone
pub mod Going
pub mod Looking
pub mod Sendable
pub mod Standing
