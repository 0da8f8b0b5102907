pub mod Orders
pub mod ClusteringOrder
pub mod Cuts
pub mod Points
pub mod Keys
pub mod Laws
pub mod Inner
