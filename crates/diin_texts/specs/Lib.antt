pub mod DiinText
