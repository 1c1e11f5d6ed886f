pub mod Kept
pub mod FreeLists
pub mod ListOrders
pub mod Beyond
pub mod IntegersKeys
pub mod SampleKeys
pub mod ShownValues
