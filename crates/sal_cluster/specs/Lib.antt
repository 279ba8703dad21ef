pub mod Laws
pub mod Leaders
pub mod Looks
pub mod Numbers
pub mod StandBys
