pub mod Ranges
pub mod Names
pub mod Words
pub mod Bounds
pub mod RangeTexts
pub mod Readings
pub mod Examples
pub mod WholeTexts
