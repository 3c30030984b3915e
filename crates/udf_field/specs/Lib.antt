pub mod TagView
pub mod FieldView
pub mod Lent
