pub mod Amounts
pub mod Cases
pub mod Sizes
pub mod Stickers
