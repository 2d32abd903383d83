pub mod Drawing
pub mod Request
pub mod Text
