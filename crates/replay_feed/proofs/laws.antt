pub mod FeedingLaws
