-- Laws of sinks, sources and lines.
mod GivenLaws
mod LineLaws
mod ReaderLaws
mod SinkLaws
mod SourceLaws
mod StdLines
pub mod PublicLaws
