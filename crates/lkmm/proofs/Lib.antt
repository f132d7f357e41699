mod Fitting
mod Splitting
mod Threads
