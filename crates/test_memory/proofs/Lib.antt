mod Placed
mod Apart
