pub mod Ends
pub mod DrawnLogs
