pub mod NamedChains
pub mod RightSides
pub mod FirstNamed
pub mod SecondNamed
pub mod NamesBack
pub mod BigNamed
pub mod SmallNamed
pub mod SmallOnNames
