pub mod LayoutLaws
