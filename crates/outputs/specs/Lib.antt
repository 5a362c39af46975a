-- How an answer crosses to another language.
pub mod Outputs
