-- What the product means.
pub mod Callees
pub mod Faults
pub mod Grammar
pub mod Parsing
pub mod Printing
pub mod Tokens
pub mod Tree
-- What the crate's own functions keep.
pub mod Lexing
pub mod ReaderMachine
pub mod Turns
