pub mod DepotTable
pub mod Versions
