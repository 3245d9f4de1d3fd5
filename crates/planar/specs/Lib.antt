pub mod Net
pub mod Numbered
pub mod Outcome
pub mod Seeking
pub mod Chords
pub mod Copying
pub mod Choosable
pub mod Vertices
