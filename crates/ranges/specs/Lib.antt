-- What words and numbers are judged by: lists, tests of each word, ranges and lengths.
pub mod Lists
pub mod Below
pub mod Distinct
pub mod Orders
pub mod Steps
pub mod Sizes
