pub mod ReachLaws
pub mod CodeLaws
pub mod CancelledLaws
pub mod ProductLaws
pub mod NewtonLaws
pub mod EnclosureLaws
pub mod RootLaws
pub mod SettledLaws
