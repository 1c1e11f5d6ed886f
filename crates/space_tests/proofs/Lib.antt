pub mod SphereRows
pub mod SphereCells
pub mod IntegerCells
pub mod WorkedPairs
pub mod TorusCells
pub mod IntegerPairs
