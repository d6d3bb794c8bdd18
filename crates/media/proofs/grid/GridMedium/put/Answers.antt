use Rattle.std.proofs.Common.{◌≡◌, ℕ, ◌+◌, ◌-◌, ◌*◌, List, [], ◌∷◌, length, take, drop, None, Ok, sym, refl, ap, ◌∙◌, subst, ap₂, arith}
use borrow.Rule.Slice.PartMut.{put_mid}
use Rattle.words.specs.declared.fault.Layer.TheVariants.{Medium}
use Rattle.words.specs.Buffers.{refusal, values_below}
use Rattle.words.proofs.Passes.{fits_from_none}
use Rattle.words.proofs.Rises.{checked_ok}
use Rattle.media_laws.specs.Grid.{grid, page_bytes, put_bytes}
use Rattle.media_laws.specs.Lent.{lent_refusal}
use Rattle.media.specs.Promises.{Put, page_refusal}
use Rattle.media_laws.proofs.Grids.{grid_put, length_put}
use Rattle.media_laws.proofs.Lent.{unrefused}
use Rattle.media_laws.proofs.Pages.{length_page, length_over}
use Rattle.media.proofs.Working.{worked, none_of_both, page_passed}
use Rattle.media.proofs.grid.GridMedium.put.Goals as goal

pub returns-clause-sound : goal.returns-clause-sound
returns-clause-sound c =
    let self = c.args.self.now in
    let bytes = self.bytes.now in
    let p = c.args.page in
    let n = self.breadth in
    let cells = c.args.cells.now in
    let model = grid bytes self.pages n in
    let fits = c.in_ok-check.ensures.fits in
    let page-ok = checked_ok _ c.in_ok-check_page.ensures in
    let put-ok = checked_ok _ c.in_ok-check_put.ensures in
    let page = page_passed p self.pages _ page-ok in
    let given = fits_from_none Medium (values_below 2 n cells ∷ []) put-ok in
    let span : p * n + n - p * n ≡ n = omega arith in
    let new : c.store.new.bytes ≡ put_bytes (page_bytes bytes n p) cells = c.store.ensures ∙ ap (λ k. put_bytes (take k (drop (p * n) bytes)) cells) span in
    let after : put_mid (p * n) (p * n + n - p * n) bytes c.store.new.bytes ≡ put_mid (p * n) n bytes (put_bytes (page_bytes bytes n p) cells) = ap₂ (λ k ys. put_mid (p * n) k bytes ys) span new in
    let long : length (put_bytes (page_bytes bytes n p) cells) ≡ n = length_put (page_bytes bytes n p) cells ∙ length_page bytes n self.pages fits.2 p page in
    let Good : List ℕ → Type 0 = λ ys. (lent_refusal self.pages n (self.pages * n) ys ≡ None) × Put model (grid ys self.pages n) p cells (Ok tt) in
    let sound = unrefused self.pages n (self.pages * n) (put_mid (p * n) n bytes (put_bytes (page_bytes bytes n p) cells)) (fits.0, fits.1, length_over bytes n self.pages fits.2 (put_bytes (page_bytes bytes n p) cells) p page long) in
    let done = worked _ _ _ (none_of_both (page_refusal model p) (refusal Medium (values_below 2 n cells ∷ [])) page-ok put-ok) (refl, grid_put bytes self.pages n fits p page cells given.0.1) in
    λ _. subst Good (sym after) (sound, done)
