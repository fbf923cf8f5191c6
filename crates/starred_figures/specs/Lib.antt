pub mod StarredFigures
