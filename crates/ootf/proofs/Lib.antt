pub mod CancelledLaws
pub mod LightLaws
pub mod ProductLaws
pub mod RootLaws
