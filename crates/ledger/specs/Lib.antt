pub mod Demand
pub mod History
pub mod Ledger
pub mod Marked
pub mod Withdrawals
pub mod Worked
