pub mod Pq
pub mod LightTable
