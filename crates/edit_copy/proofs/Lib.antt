pub mod Edits
pub mod Plans
pub mod Puts
pub mod Records
pub mod Results
pub mod Runs
pub mod Written
