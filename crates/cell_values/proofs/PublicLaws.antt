-- The laws that crates above may cite: digits, the form of texts, and equality of topics.
pub use Rattle.cell_values.proofs.DigitFacts.{all_three, both_true, whole_of_no_digit, whole_too_large, whole_of_front, outside_digits, value_of_digit, digit_below_ten, length_of_some}
pub use Rattle.cell_values.proofs.TextFacts.{no_text_of_bytes, no_text_from_control, no_text_from_length, parts_of_text}
pub use Rattle.cell_values.proofs.TopicLaws.{same_topics, same_topic-refl}
