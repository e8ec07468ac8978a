pub mod RunRecord
