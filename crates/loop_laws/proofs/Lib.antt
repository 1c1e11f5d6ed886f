mod Worked
pub mod Differences
pub mod CellBoundaries
pub mod UnfoxPairs
pub mod FoxWords
pub mod FoxComplex
pub mod LetterLowers
pub mod LateLetters
pub mod ByTwo
pub mod LetterCuts
pub mod WordDegeneracies
pub mod LoopSpaces
pub mod FoxReduction
