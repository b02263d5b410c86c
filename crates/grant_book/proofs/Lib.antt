pub mod FreeLaws
pub mod MarkLaws
pub mod BookLaws
pub mod LaneLaws
pub mod GrantLaws
