-- Laws of what the reader's code computes.
pub mod CodeBytes
pub mod CodeDigits
pub mod CodeFaults
pub mod CodeLengths
pub mod CodeLoop
pub mod CodeNames
pub mod CodeQuotes
pub mod CodeReading
pub mod CodeSheets
pub mod CodeTokens
pub mod CodeTurns
pub mod CodeWords
