pub mod Judge
pub mod Stickers
