use Rattle.std.proofs.Common.{◌≡◌, ℕ, ◌*◌, ◌<◌, ◌≤◌, List, map, length, take, replicate, Ok, Err, Result, MatchResult, sym, ap, ◌∙◌, subst, arith}
use Rattle.std.proofs.lemmas.List.{length-replicate, length-take-le, take-replicate}
use Rattle.words.specs.declared.fault.Fault.{Fault}
use Rattle.chains.specs.Model.{Cells}
use Rattle.codes.specs.Model.{CodeModel}
use Rattle.codes.specs.Repeats.{all_replicate}
use Rattle.codes.specs.Promises.{Recovered}
use Rattle.codes.proofs.Working.{recovered, word_fits}
use Rattle.pile_laws.specs.Build.{columns, encoded, joined_bits, laid}
use Rattle.pile_laws.specs.Fit.{EachLong}
use Rattle.pile_laws.specs.Flat.{words_in}
use Rattle.pile_laws.specs.Pile.{pile}
use Rattle.pile_laws.proofs.Fitting.{each_long, fitting}
use Rattle.pile_laws.proofs.Messages.{EachMessage}
use Rattle.pile_laws.proofs.Outcomes.{message_of_words}
use Rattle.pile_laws.proofs.Scans.{few_codes, room_for}
use Rattle.piles.proofs.pile.recover.Goals as goal

pub recognize-requires : goal.recognize-requires
recognize-requires g c =
    let model = g.A.Code.model in
    let codes = c.args.codes.now in
    let chain = c.args.chain.now in
    let h = g.H.Chain.model chain in
    let cs : List CodeModel = map model codes in
    let fit = word_fits (pile h cs) c.args.message.now c.args.word.now c.requires.word.0 in
    let word = c.args.word.now in
    let short : length word ≤ 4096 = c.requires.word.1.0 in
    let n = c.count_columns-columns.result in
    let cells : h.breadth * columns cs ≡ h.breadth * n = ap (λ (m : ℕ). h.breadth * m) (sym c.count_columns-columns.ensures.value) in
    let room = room_for model codes h (g.met.H.Chain.lawful chain c.requires.parts.0) c.requires.parts.2 n c.count_columns-columns.ensures.bound in
    let long : length word ≡ h.breadth * n = fit.0.0 ∙ cells in
    let clear : take (length word) (replicate {A = ℕ} 4096 0) ≡ replicate (length word) 0 = take-replicate (length word) 4096 0 short in
    let marks : Cells (h.breadth * n) (take (length word) (replicate {A = ℕ} 4096 0)) = subst (Cells (h.breadth * n)) (sym clear) (length-replicate (length word) 0 ∙ long, all_replicate (λ x. x < 2) (length word) 0 (omega arith)) in
    record {
      search = record { parts = c.requires.parts; columns = c.count_columns-columns.ensures.value; few = c.count_columns-columns.ensures.bound; reads = ((long, fit.0.1), marks) };
      clear = clear;
      found = length-take-le (length word) (replicate {A = ℕ} 4096 0) short;
      room = omega (arith, room, length-replicate {A = ℕ} 20480 0);
    }

pub recover_stages-requires : goal.recover_stages-requires
recover_stages-requires g c =
    let model = g.A.Code.model in
    let codes = c.args.codes.now in
    let chain = c.args.chain.now in
    let h = g.H.Chain.model chain in
    let cs : List CodeModel = map model codes in
    let law = g.met.H.Chain.lawful chain c.requires.parts.0 in
    let n = c.count_columns-columns.result in
    let room = room_for model codes h law c.requires.parts.2 n c.count_columns-columns.ensures.bound in
    let fit = word_fits (pile h cs) c.args.message.now c.args.word.now c.requires.word.0 in
    record {
      codes = (c.requires.parts.1, (few_codes model codes h law c.requires.parts.2, subst (λ (m : ℕ). EachLong m cs) (sym c.count_columns-columns.ensures.value) (each_long h (columns cs) 1 cs (fitting h cs c.requires.parts.2).0)));
      words = (omega (arith, room, length-replicate {A = ℕ} 20480 0, c.recognize.auto.words), c.in_ok-recognize.ensures.1);
      room = fit.1;
    }

pub returns : goal.returns
returns g c =
    let model = g.A.Code.model in
    let codes = c.args.codes.now in
    let h = g.H.Chain.model c.args.chain.now in
    let cs : List CodeModel = map model codes in
    let word = c.args.word.now in
    let message = c.args.message.now in
    let bits = c.recover_stages.new.bits in
    let n = c.count_columns-columns.result in
    let words = words_in n (length codes) c.recognize.new.words in
    let Found = (us : List (List ℕ)) × EachMessage cs us × (encoded cs us ≡ words) × (bits ≡ joined_bits cs us) in
    let fine : Found → Recovered (pile h cs) word message bits (Ok tt) = λ found.
    let us = found.0 in
    let m = message_of_words h cs us found.1 in
    let is : (pile h cs).codeword (joined_bits cs us) ≡ word = ap (laid h (columns cs)) (m.1 ∙ found.2) ∙ ap (λ (i : ℕ). laid h i words) (sym c.count_columns-columns.ensures.value) ∙ c.in_ok-recognize.ensures.0 in
    subst (λ (u : List ℕ). Recovered (pile h cs) word message u (Ok tt)) (sym found.3) (recovered (pile h cs) word message (joined_bits cs us) c.requires.word.0 m.0 is) in
    let by : (r : Result (Unit {0}) Fault) → MatchResult r (λ _. Found) (λ _. ⊥) → Recovered (pile h cs) word message bits r = λ r. elim r as (λ q. MatchResult q (λ _. Found) (λ _. ⊥) → Recovered (pile h cs) word message bits q) [ Ok t ↦ λ found. fine found | Err f ↦ λ no. absurd no ] in
    by c.recover_stages.result c.recover_stages.ensures
