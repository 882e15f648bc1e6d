pub mod ReadLaws
pub mod StateLaws
pub mod RoundTrip
pub mod Passing
