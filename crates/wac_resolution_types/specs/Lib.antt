pub mod Types
pub mod NamedParts
pub mod Funcs
pub mod Declarations
pub mod Lists
pub mod Owners
pub mod Bodies
