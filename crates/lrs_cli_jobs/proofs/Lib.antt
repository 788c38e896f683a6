mod Comparisons
mod Opening
