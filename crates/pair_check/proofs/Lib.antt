pub mod PairRule
