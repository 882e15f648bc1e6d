pub mod FieldLaws
pub mod SignLaws
pub mod PutLaws
pub mod LayoutLaws
pub mod RangeLaws
pub mod WriteLaws
