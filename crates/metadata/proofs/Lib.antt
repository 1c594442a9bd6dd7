pub mod CardLaws
pub mod ZeroFieldLaws
pub mod PeakOrderLaws
pub mod PeakOrderTheorems
pub mod NoPeakLaws
pub mod RewritingLaws
