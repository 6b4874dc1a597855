pub mod NumberLaws
pub mod PlaceLaws
pub mod HeightLaws
pub mod TreeLaws
