pub mod Help
