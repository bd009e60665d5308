pub mod Answers
pub mod Reports
