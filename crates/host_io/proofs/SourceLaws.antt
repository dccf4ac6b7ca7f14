-- What a read of a piece leaves in a source in memory.
use Rattle.std.proofs.Common.{◌≡◌, ℕ, ◌+◌, List, ◌++◌, length, take, drop, sym, ap, ◌∙◌}
use Rattle.std.proofs.lemmas.List.{take-append-drop, take_at, drop-drop}

-- the piece at the start of the buffer, and what is left
pub piece_given : (bytes piece rest : List ℕ) (start count : ℕ) → piece ≡ take count (drop start bytes) → length piece ≡ count → drop start bytes ≡ take count (piece ++ rest) ++ drop (start + count) bytes
piece_given bytes piece rest start count given fits =
    sym (take-append-drop count (drop start bytes))
    ∙ ap (λ back. take count (drop start bytes) ++ back) (drop-drop count start bytes)
    ∙ ap (λ prefix. prefix ++ drop (start + count) bytes) (sym (take_at piece rest count fits ∙ given))
