pub mod Picture
pub mod Reader
pub mod Stickers
