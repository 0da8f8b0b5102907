pub mod PointLaws
pub mod KeyLaws
pub mod KeptOrder
pub mod KeptValues
