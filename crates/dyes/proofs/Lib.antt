pub mod Spelling
pub mod Numbers
pub mod Lawful
pub mod Adding
