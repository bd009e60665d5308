pub mod Demand
pub mod History
pub mod Withdrawals
