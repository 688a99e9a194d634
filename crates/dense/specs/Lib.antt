pub mod Area
pub mod AreaLaws
pub mod Dense
pub mod Making
