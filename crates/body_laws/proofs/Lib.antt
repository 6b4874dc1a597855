mod Follow
mod Lists
mod Tests
mod Same
mod Expressions
mod Bodies
mod Declarations
mod Whole
