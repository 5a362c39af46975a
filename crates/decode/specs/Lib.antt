-- What decoding means. Each comment names the section of document 01 ("01, ..") or the rule of the format's grammar ("BNF: ..") that the
-- definition writes down.
pub mod Decoded
pub mod Inner
