pub mod FitsLaws
