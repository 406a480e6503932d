pub mod Description
pub mod Sound
