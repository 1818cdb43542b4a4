pub mod StartingLaws
