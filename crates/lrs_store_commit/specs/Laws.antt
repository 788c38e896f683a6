pub mod ImageLaws
pub mod ChangeLaws
pub mod Texts
