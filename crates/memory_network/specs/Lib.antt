pub mod KeptConnection
pub mod MemConns
pub mod MemPeer
