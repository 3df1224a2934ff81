mod ObjectFrames
mod Finding
mod Steppings
