use Rattle.std.proofs.Common.{◌≡◌, ℕ, map, length, sym, ap, ◌∙◌}
use mathlib.Core.List.{map-map}
use Rattle.std.specs.List.{range_with_len}
use Rattle.media_laws.specs.Model.{value_of, mark_of}
use Rattle.media_laws.specs.Packed.{first_value, first_mark, cell_at}
use Rattle.media.proofs.packed.Packed.show_page.Goals as goal

pub returns : goal.returns
returns c =
    let self = c.args.self.now in
    let n = self.breadth in
    let bytes = self.bytes.now in
    let p = c.args.page in
    let laid : (f : ℕ → ℕ) → map (λ i. f (cell_at bytes c.first.result.value c.first.result.mark i)) (range_with_len 0 (length c.args.cells.now)) ≡ map f (map (cell_at bytes (first_value n p) (first_mark n p)) (range_with_len 0 n)) = λ f. ap (λ v. map (λ i. f (cell_at bytes v c.first.result.mark i)) (range_with_len 0 (length c.args.cells.now))) c.first.ensures.value ∙ ap (λ m. map (λ i. f (cell_at bytes (first_value n p) m i)) (range_with_len 0 (length c.args.cells.now))) c.first.ensures.mark ∙ ap (λ k. map (λ i. f (cell_at bytes (first_value n p) (first_mark n p) i)) (range_with_len 0 k)) c.requires.1.1.0 ∙ sym (map-map f (cell_at bytes (first_value n p) (first_mark n p)) (range_with_len 0 n)) in
    record { cells = c.show.ensures.cells ∙ laid value_of; marks = c.show.ensures.marks ∙ laid mark_of }
