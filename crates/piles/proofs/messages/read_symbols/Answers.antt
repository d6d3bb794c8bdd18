use Rattle.std.proofs.Common.{◌≡◌, ℕ, ◌+◌, ◌-◌, ◌*◌, ◌<◌, ◌≤◌, List, length, get_or, take, drop, set, sym, ap, ◌∙◌, subst, mod-eq_of_lt, lt_of_lt_of_le, pow_mono, arith}
use Rattle.std.specs.List.{AllByRecursion}
use Rattle.std.proofs.lemmas.List.Edits.{fill_by_more}
use Rattle.std.proofs.ByRecursion.{All-take, All-drop}
use Rattle.std.proofs.lemmas.List.{length-take}
use Rattle.words.specs.Bits.{spelled}
use Rattle.words.proofs.Spelling.{spelled_small}
use Rattle.pile_laws.specs.Build.{symbols}
use Rattle.pile_laws.proofs.Messages.{symbols_read}
use Rattle.piles.proofs.messages.read_symbols.Goals as goal

spelled_byte : (w i : ℕ) (bits : List ℕ) → w ≤ 8 → AllByRecursion (λ b. b < 2) bits → spelled (take (i * w + w - i * w) (drop (i * w) bits)) < 256
spelled_byte w i bits narrow binary =
    let n = i * w + w - i * w in
    let part = take n (drop (i * w) bits) in
    let small = spelled_small part (All-take (λ b. b < 2) n (drop (i * w) bits) (All-drop (λ b. b < 2) (i * w) bits binary)) in
    let short : length part ≤ 8 = omega (arith, length-take n (drop (i * w) bits)) in
    lt_of_lt_of_le small (pow_mono {i = length part} {j = 8} short)

pub overflow_cast-symbol : goal.overflow_cast-symbol
overflow_cast-symbol c =
    record { fits = omega (arith, c.spell.ensures, spelled_byte c.args.width c.loop-i.i c.args.bits.now c.requires.0 c.requires.1.1) }

pub loop-i-preserved : goal.loop-i-preserved
loop-i-preserved c =
    let w = c.args.width in
    let i = c.loop-i.i in
    let bits = c.args.bits.now in
    let rule : ℕ → ℕ = λ k. spelled (take w (drop (k * w) bits)) in
    let span : i * w + w - i * w ≡ w = omega arith in
    let byte = spelled_byte w i bits c.requires.0 c.requires.1.1 in
    let is : c.spell.result ≡ rule i = c.spell.ensures ∙ mod-eq_of_lt (omega (arith, byte)) ∙ ap (λ (m : ℕ). spelled (take m (drop (i * w) bits))) span in
    subst (λ (x : ℕ). (k : ℕ) → k < i + 1 → get_or (set c.loop-i.symbols i x) k 0 ≡ rule k) (sym is) (fill_by_more rule c.loop-i.symbols i 0 (omega (arith, c.loop-i.auto.symbols, c.loop-i-test.true)) c.loop-i.invariant)

pub returns : goal.returns
returns c =
    symbols_read c.args.width c.args.bits.now c.loop-i.symbols (λ i l. c.loop-i.invariant i (omega (arith, c.loop-i.auto.symbols, c.loop-i-test.false)))
    ∙ ap (λ (m : ℕ). symbols c.args.width m c.args.bits.now) c.loop-i.auto.symbols
