pub mod CallerLaws
