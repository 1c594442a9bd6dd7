pub mod SceneTests
pub mod SceneLaws
