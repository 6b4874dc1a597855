pub mod WithLists
pub mod EachList
pub mod KeptLaws
pub mod HeightLaws
