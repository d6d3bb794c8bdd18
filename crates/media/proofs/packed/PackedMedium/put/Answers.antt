use Rattle.std.proofs.Common.{ℕ, ◌*◌, [], ◌∷◌, length, refl, ◌∙◌, subst, subst₂, arith}
use Rattle.words.specs.declared.fault.Layer.TheVariants.{Medium}
use Rattle.words.specs.Buffers.{refusal, values_below}
use Rattle.words.proofs.Passes.{fits_from_none}
use Rattle.words.proofs.Rises.{checked_ok}
use Rattle.media_laws.specs.Packed.{packed, first_value, first_mark, row_bytes, BitsPut}
use Rattle.media.specs.Promises.{page_refusal}
use Rattle.media_laws.proofs.Lent.{unrefused}
use Rattle.media_laws.proofs.Packs.{marks_behind, marks_within, few_bytes, packed_put}
use Rattle.media.proofs.Working.{worked, none_of_both, page_passed}
use Rattle.media.proofs.packed.PackedMedium.put.Goals as goal

pub store-requires : goal.store-requires
store-requires c =
    let self = c.args.self.now in
    let n = self.breadth in
    let p = c.args.page in
    let fits = c.in_ok-check.ensures.fits in
    let page = page_passed p self.pages _ (checked_ok _ c.in_ok-check_page.ensures) in
    let given = fits_from_none Medium (values_below 2 n c.args.cells.now ∷ []) (checked_ok _ c.in_ok-check_put.ensures) in
    let behind = marks_behind n p in
    let within = marks_within self.bytes.now self.pages n fits p page in
    let long = given.0.0 in
    record {
      apart = omega (arith, c.first-first.ensures.value, c.first-first.ensures.mark);
      within = (omega (arith, c.first-first.ensures.mark), few_bytes self.bytes.now self.pages n fits);
      cells = given.0.1;
    }

pub returns-clause-sound : goal.returns-clause-sound
returns-clause-sound c =
    let self = c.args.self.now in
    let bytes = self.bytes.now in
    let bytes' = c.store.new.bytes in
    let p = c.args.page in
    let n = self.breadth in
    let cells = c.args.cells.now in
    let model = packed bytes self.pages n in
    let fits = c.in_ok-check.ensures.fits in
    let page-ok = checked_ok _ c.in_ok-check_page.ensures in
    let put-ok = checked_ok _ c.in_ok-check_put.ensures in
    let given = fits_from_none Medium (values_below 2 n cells ∷ []) put-ok in
    let long = given.0.0 in
    let at-page = subst₂ (λ (v m : ℕ). BitsPut bytes bytes' v m cells (length cells)) c.first-first.ensures.value c.first-first.ensures.mark c.store.ensures.put in
    let put : BitsPut bytes bytes' (first_value n p) (first_mark n p) cells n = subst (λ (k : ℕ). BitsPut bytes bytes' (first_value n p) (first_mark n p) cells k) long at-page in
    let sound = unrefused self.pages n (self.pages * (2 * row_bytes n)) bytes' (fits.0, fits.1, put.long ∙ fits.2) in
    let done = worked _ _ _ (none_of_both (page_refusal model p) (refusal Medium (values_below 2 n cells ∷ [])) page-ok put-ok) (refl, packed_put bytes bytes' self.pages n p cells long put) in
    λ _. (sound, done)
