mod Same
mod Numbered
mod Texts
mod Bytes
