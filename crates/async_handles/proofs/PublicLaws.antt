-- The laws that crates above may cite: which calls are open after one is opened, ended or served.
pub use Rattle.async_handles.proofs.FoundLaws.{call_at-with, call_at-without, handle_of-serving}
pub use Rattle.async_handles.proofs.OpenLaws.{is_its, length_serving, length_with, length_without, live_is, no_call}
