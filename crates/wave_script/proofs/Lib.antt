pub mod CardSays
pub mod LineSays
