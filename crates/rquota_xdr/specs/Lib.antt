pub mod Units
pub mod Rows
pub mod Fields
pub mod Call
pub mod Reply
pub mod Question
