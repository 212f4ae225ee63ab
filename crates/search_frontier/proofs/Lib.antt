mod Heaps
mod Queue
