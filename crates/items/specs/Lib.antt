-- What the items of a list are made of, as definitions: names (BNF: name), types (BNF: nc_type) and values (BNF: values).
pub mod Utf8
pub mod Name
pub mod Types
pub mod Values
pub mod Inner
