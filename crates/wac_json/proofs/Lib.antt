pub mod Common
pub mod Forms
pub mod Members
