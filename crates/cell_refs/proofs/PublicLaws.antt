-- The laws that crates above may cite: the order of cells, the cells of areas, and references and handles read and written.
pub use Rattle.cell_refs.proofs.AmongCells.{found_among, some_among, lies_in-among}
unfoldable pub use Rattle.cell_refs.proofs.BothWays.{reference_capitals}
pub use Rattle.cell_refs.proofs.BothWays.{reference_again, reference_takes, sheet_capitals, sheet_takes}
pub use Rattle.cell_refs.proofs.Capitals.{number_found, number_none, cut_digits}
pub use Rattle.cell_refs.proofs.CellOrder.{cells_total, exact_cells, same_cell_is, same_cells}
pub use Rattle.cell_refs.proofs.Columns.{all_pass, letters_begin}
pub use Rattle.cell_refs.proofs.Front.{stands_from_read, stands_long, nothing_read, ascii_reference, reference_reads_back}
pub use Rattle.cell_refs.proofs.HandleText.{handle_again, handle_takes, one_handle}
pub use Rattle.cell_refs.proofs.Listing.{count_cells, listed_in_order, listed_inside, inside_listed, from_first, no_next}
pub use Rattle.cell_refs.proofs.Numbers.{take_while-append, front_and_rest, rest_stops, number_again}
pub use Rattle.cell_refs.proofs.Numerals.{numerals}
