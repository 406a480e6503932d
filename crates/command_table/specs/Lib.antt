pub mod CarriedOut
pub mod Table
pub mod Views
