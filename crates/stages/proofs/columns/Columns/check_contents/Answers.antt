use Rattle.std.proofs.Common.{◌≡◌, Some, None, Err, not, sym, ap, ◌∙◌}
use Rattle.std.specs.List.{position_from}
use Rattle.std.specs.Option.{option_map}
use Rattle.std.proofs.lemmas.Iterator.Adapters.{position_from-zero}
use Rattle.words.specs.declared.fault.Kind.TheVariants.{TooLarge}
use Rattle.words.specs.declared.fault.Layer.TheVariants.{Pile}
use Rattle.words.specs.Buffers.{checked}
use Rattle.words.specs.Faults.{fault}
use Rattle.stage_laws.specs.Promises.{fits_column}
use Rattle.stages.proofs.Scans.{large_at}
use Rattle.stages.proofs.columns.Columns.check_contents.Goals as goal

pub returns-in-None : goal.returns-in-None
returns-in-None c =
    let d = c.args.self.now.inner in
    let es = c.args.self.now.estimates.now in
    let found : position_from (λ e. not (fits_column c.args.symbols d e)) 0 es ≡ None = sym (position_from-zero (λ e. not (fits_column c.args.symbols d e)) es) ∙ sym c.first_large.ensures ∙ c.in-None.is in
    ap checked (sym (large_at c.args.symbols d 0 es ∙ ap (option_map (fault TooLarge Pile)) found))

pub returns-in-Some : goal.returns-in-Some
returns-in-Some c =
    let d = c.args.self.now.inner in
    let es = c.args.self.now.estimates.now in
    let found : position_from (λ e. not (fits_column c.args.symbols d e)) 0 es ≡ Some c.in-Some.j = sym (position_from-zero (λ e. not (fits_column c.args.symbols d e)) es) ∙ sym c.first_large.ensures ∙ c.in-Some.is in
    ap Err c.new.ensures ∙ ap checked (sym (large_at c.args.symbols d 0 es ∙ ap (option_map (fault TooLarge Pile)) found))
