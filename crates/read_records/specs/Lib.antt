pub mod Cursors
pub mod Reading
pub mod Marked
