pub mod Results
pub mod Room
