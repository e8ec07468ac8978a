mod Named
mod Taken
mod Written
