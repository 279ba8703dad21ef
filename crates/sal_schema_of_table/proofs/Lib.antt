mod Climbs
mod Doubles
mod Named
mod Parted
