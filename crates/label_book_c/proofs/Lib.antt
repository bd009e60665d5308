pub mod HeadStart
pub mod Told
