pub mod Places
pub mod Bodies
pub mod Suspendable
pub mod Treated
