pub mod HelloClass
