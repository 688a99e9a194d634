pub mod Records
pub mod Sparse
