pub mod CheckedFile
pub mod LinesWritten
