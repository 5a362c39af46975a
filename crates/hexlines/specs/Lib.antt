-- Lines of hexadecimal, as definitions. Each comment names the place of document 01 ("01, ..") that the definition writes down.
pub mod Digit
pub mod Line
pub mod Lines
pub mod Text
pub mod Inner
