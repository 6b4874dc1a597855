pub mod Words
pub mod Rising
pub mod Tokens
pub mod Groups
pub mod Grammar
pub mod Printing
