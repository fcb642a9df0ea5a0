pub mod Promoted
pub mod Reports
