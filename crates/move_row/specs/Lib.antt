-- What a true move table is, whole and by row and entry.
pub mod Tables
