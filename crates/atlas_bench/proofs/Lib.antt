pub mod JobLines
pub mod Names
pub mod Reports
