pub mod SceneLight
pub mod SceneTable
