pub mod Printed
pub mod Arguments
pub mod Messages
