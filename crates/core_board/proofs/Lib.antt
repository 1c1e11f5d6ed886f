pub mod Maps
pub mod Replays
pub mod Legal
pub mod MadeOver
