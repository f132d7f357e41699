mod Assembling
mod Columns
mod Decisions
mod Drawing
mod Leading
mod Rounding
