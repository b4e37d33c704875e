mod Least
mod Order
