mod NameChains
mod NamesPushed
mod ServiceReads
