pub mod OnLiterals
mod Runs
mod Turns
mod Tables
mod Logged
mod Facts
mod Left
pub mod Laws
pub mod Stands
pub mod Steps
pub mod Clashes
pub mod Made
pub mod Kept
pub mod Settings
pub mod Pointers
pub mod Homes
pub mod Rows
pub mod Keeping
pub mod Joining
pub mod Removing
pub mod Putting
pub mod Courses
pub mod Aside
pub mod Settling
pub mod Turning
pub mod Writing
pub mod Going
pub mod Counts
pub mod Lists
pub mod Members
pub mod Sorted
pub mod TablePuts
pub mod Syncing
pub mod Lookups
pub mod Finding
pub mod Logging
pub mod Synced
pub mod Waiting
pub mod Matching
pub mod Named
pub mod Replays
pub mod Keys
pub mod Loops
pub mod Counted
