pub mod LinkLemmas
pub mod PoolLemmas
