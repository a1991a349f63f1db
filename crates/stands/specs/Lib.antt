-- stands from a list of doubles, three a stand
pub mod Numbered
