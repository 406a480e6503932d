pub mod Calls
pub mod Images
pub mod Kept
pub mod MemDisk
pub mod Recorded
pub mod Told
pub mod Unsynced
