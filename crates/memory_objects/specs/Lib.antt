pub mod InMemory
pub mod MemStore
pub mod NameSet
