pub mod Answer
pub mod Walking
