pub mod ReadBig
