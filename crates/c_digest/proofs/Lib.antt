mod Taking
mod Words
