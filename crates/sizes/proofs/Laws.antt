-- The laws of the definitions in specs/, under the same file names.
pub mod Records
pub mod Products
pub mod Count
pub mod When
