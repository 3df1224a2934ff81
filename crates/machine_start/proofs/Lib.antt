mod Chains
mod Members
mod Placed
mod Started
mod Defaults
mod FirstHeap
