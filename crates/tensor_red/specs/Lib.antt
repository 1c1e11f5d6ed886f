pub mod Products
pub mod Tensors
pub mod TensorOrder
