pub mod Tensors
pub mod Cuts
pub mod Words
pub mod TensorOrder
pub mod PairMaps
pub mod PairDegrees
