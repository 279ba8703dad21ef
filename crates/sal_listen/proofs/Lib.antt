mod Following
mod Given
mod Patches
