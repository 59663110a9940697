-- Worked rows of lines of labels.
mod Rows
