mod Leading
mod Finding
mod Lists
mod Word
