-- Lists, numbers and places.
pub mod Lists
pub mod Orders
