pub mod CarryLaws
