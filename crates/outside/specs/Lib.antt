pub mod Causes
pub mod Content
pub mod FileShelf
pub mod MemFile
pub mod MemShelf
pub mod MemSink
