pub mod ApartLaws
pub mod LayoutLaws
