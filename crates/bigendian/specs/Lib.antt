-- Numbers as bytes spell them (01, Header grammar: "all words big-endian"), and lists by the index. Each comment names the section of
-- document 01 ("01, ..") or the rule of the format's grammar ("BNF: ..") that the definition writes down.
pub mod Number
pub mod Lists
pub mod Inner
