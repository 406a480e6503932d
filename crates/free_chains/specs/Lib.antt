pub mod Chain
pub mod ChainDefect
pub mod ChainFault
pub mod Links
pub mod FreeList
pub mod EntryList
pub mod Walk
