mod Parts
mod Reading
mod Whole
