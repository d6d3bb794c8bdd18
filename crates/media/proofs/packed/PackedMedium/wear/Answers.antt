use Rattle.std.proofs.Common.{ℕ, ◌+◌, ◌*◌, refl, ap, ◌∙◌, subst, subst₂}
use Rattle.words.proofs.Rises.{checked_ok}
use Rattle.media_laws.specs.Packed.{packed, first_value, first_mark, row_bytes, BitsWorn}
use Rattle.media.specs.Promises.{page_refusal, cell_refusal}
use Rattle.media.specs.States.{number}
use Rattle.media_laws.proofs.Lent.{unrefused}
use Rattle.media_laws.proofs.Packs.{packed_wear}
use Rattle.media.proofs.Working.{worked, none_of_both, cell_passed, state_kept}
use Rattle.media.proofs.packed.PackedMedium.wear.Goals as goal

pub returns-clause-sound : goal.returns-clause-sound
returns-clause-sound c =
    let self = c.args.self.now in
    let bytes = self.bytes.now in
    let p = c.args.page in
    let n = self.breadth in
    let i = c.args.cell in
    let s = c.args.state in
    let model = packed bytes self.pages n in
    let fits = c.in_ok-check.ensures.fits in
    let page-ok = checked_ok _ c.in_ok-check_page.ensures in
    let cell-ok = checked_ok _ c.in_ok-check_cell.ensures in
    let cell = cell_passed i n s _ cell-ok in
    let bytes' = c.wear_bits.new.bytes in
    let value = c.further-place.ensures.value ∙ ap (λ v. v + i) c.first.ensures.value in
    let mark = c.further-place.ensures.mark ∙ ap (λ m. m + i) c.first.ensures.mark in
    let at-bits = subst₂ (λ (v m : ℕ). BitsWorn bytes bytes' v m (number c.from.result)) value mark c.wear_bits.ensures.worn in
    let worn : BitsWorn bytes bytes' (first_value n p + i) (first_mark n p + i) s = subst (λ (t : ℕ). BitsWorn bytes bytes' (first_value n p + i) (first_mark n p + i) t) (c.from.ensures ∙ state_kept s cell.1) at-bits in
    let sound = unrefused self.pages n (self.pages * (2 * row_bytes n)) bytes' (fits.0, fits.1, worn.long ∙ fits.2) in
    let done = worked _ _ _ (none_of_both (page_refusal model p) (cell_refusal model i s) page-ok cell-ok) (refl, packed_wear bytes bytes' self.pages n p i s cell.0 cell.1 worn) in
    λ _. (sound, done)
