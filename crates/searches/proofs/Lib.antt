mod Cycling
mod Holes
mod Meets
mod Ranking
mod Walking
