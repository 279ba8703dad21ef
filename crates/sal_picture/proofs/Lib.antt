pub mod Scenes
pub mod Tables
pub mod Unplayed
