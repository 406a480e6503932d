pub mod FormedLemmas
pub mod InScriptLemmas
pub mod KnownLemmas
pub mod NameLemmas
pub mod OperandLemmas
