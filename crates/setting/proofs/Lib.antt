-- one door shut or opened leaves the others; wrong settings; at which faces sight ends
pub mod Settings
