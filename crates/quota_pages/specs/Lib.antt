pub mod Overlay
pub mod Page
pub mod Held
pub mod Pages
pub mod Flushed
pub mod Used
pub mod KeptBlocks
