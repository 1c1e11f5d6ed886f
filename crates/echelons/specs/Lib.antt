pub mod Echelon
