pub mod Bases
pub mod Decisions
pub mod Logs
pub mod MountCalls
mod Noted
pub mod Numbered
pub mod Numbers
pub mod Placed
pub mod Receipts
mod Routed
pub mod Spans
pub mod Unbroken
pub mod Versions
pub mod Waiting
