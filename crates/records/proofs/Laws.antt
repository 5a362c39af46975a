-- Laws of the definitions in specs/, and of outputs that records are decoded into.
pub mod Stretch
pub mod Filled
