mod Bodies
mod Following
mod Lists
mod Walk
