pub mod Views
pub mod Walk
