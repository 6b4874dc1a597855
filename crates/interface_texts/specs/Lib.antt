pub mod TextParts
pub mod EditedBodies
