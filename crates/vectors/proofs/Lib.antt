pub mod FirstElements
