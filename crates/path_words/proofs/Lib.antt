pub mod Steps
pub mod PathTests
pub mod SameSteps
pub mod MaskTests
pub mod FaceMoves
