-- Bounds of types.
pub mod NonNull
pub mod NonNullSteps
pub mod Factor
pub mod Counts
pub mod PartsView
pub mod NamedView
pub mod Signatures
pub mod Common
pub mod Bounds
pub mod CommonOf
pub mod BoundsOf
pub mod KnownView
pub mod Valid
pub mod Above
pub mod Chains
pub mod Meetings
pub mod Laws
