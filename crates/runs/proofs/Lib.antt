mod Doing
mod Going
