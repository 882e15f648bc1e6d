pub mod BoardRight
