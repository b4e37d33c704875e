pub mod Apply
pub mod Codable
pub mod Equal
pub mod Fits
pub mod formers
pub mod Kinds
pub mod Settled
