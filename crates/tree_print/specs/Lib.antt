pub mod Printed
pub mod Seen
