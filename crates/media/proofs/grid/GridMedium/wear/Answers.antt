use Rattle.std.proofs.Common.{◌+◌, ◌*◌, set, refl, ◌∙◌}
use Rattle.std.proofs.lemmas.List.{length-set}
use Rattle.words.proofs.Rises.{checked_ok}
use Rattle.media_laws.specs.Grid.{grid}
use Rattle.media.specs.Promises.{page_refusal, cell_refusal}
use Rattle.media_laws.proofs.Grids.{grid_wear}
use Rattle.media_laws.proofs.Lent.{unrefused}
use Rattle.media.proofs.Working.{worked, none_of_both, page_passed, cell_passed}
use Rattle.media.proofs.grid.GridMedium.wear.Goals as goal

pub returns-clause-sound : goal.returns-clause-sound
returns-clause-sound c =
    let self = c.args.self.now in
    let bytes = self.bytes.now in
    let p = c.args.page in
    let model = grid bytes self.pages self.breadth in
    let fits = c.in_ok-check.ensures.fits in
    let page-ok = checked_ok _ c.in_ok-check_page.ensures in
    let cell-ok = checked_ok _ c.in_ok-check_cell.ensures in
    let page = page_passed p self.pages _ page-ok in
    let cell = cell_passed c.args.cell self.breadth c.args.state _ cell-ok in
    let bytes' = set bytes (p * self.breadth + c.args.cell) c.args.state in
    let sound = unrefused self.pages self.breadth (self.pages * self.breadth) bytes' (fits.0, fits.1, length-set bytes (p * self.breadth + c.args.cell) c.args.state ∙ fits.2) in
    let done = worked _ _ _ (none_of_both (page_refusal model p) (cell_refusal model c.args.cell c.args.state) page-ok cell-ok) (refl, grid_wear bytes self.pages self.breadth fits p page c.args.cell c.args.state cell.0 cell.1) in
    λ _. (sound, done)
