use Rattle.std.proofs.Common.{◌≡◌, Some, None, Err, leb, sym, ap, ◌∙◌}
use Rattle.std.specs.List.{position_from}
use Rattle.std.specs.Option.{option_map}
use Rattle.std.proofs.lemmas.Iterator.Adapters.{position_from-zero}
use Rattle.words.specs.declared.fault.Kind.TheVariants.{TooLarge}
use Rattle.words.specs.Buffers.{checked}
use Rattle.words.specs.Faults.{fault}
use Rattle.words.proofs.Scans.{large_at}
use Rattle.words.proofs.buffer.Buffer.check_values.Goals as goal

pub returns-in-None : goal.returns-in-None
returns-in-None c =
    let buffer = c.args.self.now in
    let found : position_from (λ x. leb buffer.below x) 0 buffer.content.now ≡ None = sym (position_from-zero (λ x. leb buffer.below x) buffer.content.now) ∙ sym c.first_large.ensures ∙ c.in-None.is in
    ap checked (sym (large_at c.args.layer buffer.below 0 buffer.content.now ∙ ap (option_map (fault TooLarge c.args.layer)) found))

pub returns-in-Some : goal.returns-in-Some
returns-in-Some c =
    let buffer = c.args.self.now in
    let found : position_from (λ x. leb buffer.below x) 0 buffer.content.now ≡ Some c.in-Some.i = sym (position_from-zero (λ x. leb buffer.below x) buffer.content.now) ∙ sym c.first_large.ensures ∙ c.in-Some.is in
    ap Err c.new.ensures ∙ ap checked (sym (large_at c.args.layer buffer.below 0 buffer.content.now ∙ ap (option_map (fault TooLarge c.args.layer)) found))
