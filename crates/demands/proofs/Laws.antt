-- Laws of no statement in specs/, which the documents name.
pub mod Unlimited
