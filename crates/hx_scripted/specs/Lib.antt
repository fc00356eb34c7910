pub mod OfHistory
