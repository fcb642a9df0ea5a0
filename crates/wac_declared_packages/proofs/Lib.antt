pub mod Common
mod PackageCopies
mod Declares
mod First
mod Refuses
mod Texts
mod Assembling
mod Choosing
mod Defining
mod Unmoved
