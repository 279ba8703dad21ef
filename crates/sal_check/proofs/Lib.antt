mod Climbs
mod Combined
mod Counted
mod Doubles
mod Founds
mod FreshCells
mod Freshly
mod Least
mod Members
mod NearFounds
mod NearKids
mod NearRows
pub mod NearTrees
mod Plans
mod SeenTrees
mod Stated
mod There
mod Trails
mod Twins
pub mod Walked
