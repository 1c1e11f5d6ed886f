pub mod FirstAlong
pub mod FirstSeries
pub mod NothingAsked
