pub mod WholeLaws
pub mod YCbCrLaws
pub mod DeliveryLaws
pub mod CornerColours
