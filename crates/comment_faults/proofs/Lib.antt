pub mod CommentFaultLaws
