mod ReadBytes
mod Started
