pub mod Answering
mod Asking
mod Putting
