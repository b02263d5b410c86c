pub mod Courses
pub mod Openings
pub mod Placed
pub mod Standings
