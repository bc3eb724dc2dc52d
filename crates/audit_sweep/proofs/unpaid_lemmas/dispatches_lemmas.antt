pub mod RowDebts
