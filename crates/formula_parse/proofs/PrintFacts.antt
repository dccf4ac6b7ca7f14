-- Laws of the canonical text.
pub mod Printed
pub mod PrintedDepth
pub mod PrintedFlow
pub mod PrintedPieces
pub mod PrintedShort
pub mod PrintedSpelled
pub mod PrintedThinned
pub mod PrintedWritten
pub mod Printing
