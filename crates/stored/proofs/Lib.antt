mod Chunks
mod Filled
mod Summed
