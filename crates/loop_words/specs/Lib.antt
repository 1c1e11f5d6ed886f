pub mod LetterWords
pub mod WordForms
pub mod WordFaces
pub mod WordNorms
pub mod LoopCells
