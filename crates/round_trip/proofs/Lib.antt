pub mod GreyHints
pub mod GreyLaws
pub mod RoundTripTests
pub mod RoundTripLaws
