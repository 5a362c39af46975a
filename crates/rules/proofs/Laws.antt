-- Laws of the rules.
pub mod Views
pub mod Spelled
pub mod Sequence
pub mod Sound
pub mod Complete
pub mod Unique
pub mod Encoded
pub mod Capacity
pub mod Cleared
pub mod Weaken
pub mod Range
