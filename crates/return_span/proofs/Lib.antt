pub mod BlockLaws
pub mod CodesLaws
pub mod NearLaws
pub mod RootLaws
