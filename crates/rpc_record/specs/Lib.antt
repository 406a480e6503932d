pub mod Answers
pub mod Faults
pub mod Hearing
pub mod Run
pub mod Serving
