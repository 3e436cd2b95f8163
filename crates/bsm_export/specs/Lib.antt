pub mod Items
pub mod Back
pub mod Index
pub mod Written
pub mod Lines
pub mod Told
