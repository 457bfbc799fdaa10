mod Adding
mod Indices
