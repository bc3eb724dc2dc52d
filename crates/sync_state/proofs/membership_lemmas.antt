pub mod SetLemmas
pub mod CountLemmas
pub mod SummaryLemmas
