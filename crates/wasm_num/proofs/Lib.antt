mod Rotations
mod Counts
mod Signs
