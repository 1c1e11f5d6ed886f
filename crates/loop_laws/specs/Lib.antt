pub mod FoxComplexes
pub mod FoxLaws
pub mod LetterPlaces
