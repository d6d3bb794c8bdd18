use Rattle.std.proofs.Common.{◌≡◌, ℕ, ◌*◌, List, map, length, replicate, Ok, Err, sym, ap, ◌∙◌, subst, arith}
use Rattle.std.proofs.lemmas.List.{length-replicate, length-take-le}
use Rattle.words.specs.Soundness.{Sound}
use Rattle.words.specs.declared.fault.Fault.{Fault}
use Rattle.words.proofs.Rises.{raised}
use Rattle.codes.specs.Model.{CodeModel}
use Rattle.codes.specs.Promises.{Corrected}
use Rattle.codes.proofs.Working.{damage_fits}
use Rattle.pile_laws.specs.Build.{columns, laid}
use Rattle.pile_laws.specs.Flat.{words_in}
use Rattle.pile_laws.specs.Pile.{pile}
use Rattle.pile_laws.proofs.Answers.{pile_answers, pile_refuses}
use Rattle.pile_laws.proofs.Flat.{length_words_in}
use Rattle.pile_laws.proofs.Scans.{each_lawful, length_models, room_for}
use Rattle.piles.proofs.pile.replace.Goals as goal

pub find-requires : goal.find-requires
find-requires g c =
    let model = g.A.Code.model in
    let codes = c.args.codes.now in
    let chain = c.args.chain.now in
    let h = g.H.Chain.model chain in
    let law = g.met.H.Chain.lawful chain c.requires.parts.0 in
    let n = c.count_columns-columns.result in
    let cells : h.breadth * columns (map model codes) ≡ h.breadth * n = ap (λ (m : ℕ). h.breadth * m) (sym c.count_columns-columns.ensures.value) in
    let room = room_for model codes h law c.requires.parts.2 n c.count_columns-columns.ensures.bound in
    let fit = damage_fits (pile h (map model codes)) c.args.word.now c.args.marks.now c.requires.word.0 in
    record {
      search = record { parts = c.requires.parts; columns = c.count_columns-columns.ensures.value; few = c.count_columns-columns.ensures.bound; reads = ((fit.0.0 ∙ cells, fit.0.1), (fit.1.0 ∙ cells, fit.1.1)) };
      found = length-take-le (length c.args.word.now) (replicate {A = ℕ} 4096 0) c.requires.word.1;
      room = omega (arith, room, length-replicate {A = ℕ} 20480 0);
    }

pub returns-in_err-harm : goal.returns-in_err-harm
returns-in_err-harm g c =
    let model = g.A.Code.model in
    let codes = c.args.codes.now in
    let chain = c.args.chain.now in
    let h = g.H.Chain.model chain in
    let cs : List CodeModel = map model codes in
    let laws = each_lawful model (Sound g.A.Code.refusal) codes g.met.A.Code.lawful c.requires.parts.1 in
    let word = c.args.word.now in
    let marks = c.args.marks.now in
    let none = c.requires.word.0 in
    let fit = damage_fits (pile h cs) word marks none in
    let refused = c.in_err-harm.ensures in
    rw (raised c.from_residual.result c.from_residual.ensures.1)
    (subst (λ (f : Fault). Corrected (pile h cs) word marks word (Err f)) (sym refused.2) (pile_refuses h (g.met.H.Chain.lawful chain c.requires.parts.0) cs laws c.requires.parts.2 word marks fit.0.0 fit.1.0 none refused.0 refused.1))

pub returns : goal.returns
returns g c =
    let model = g.A.Code.model in
    let codes = c.args.codes.now in
    let chain = c.args.chain.now in
    let h = g.H.Chain.model chain in
    let cs : List CodeModel = map model codes in
    let laws = each_lawful model (Sound g.A.Code.refusal) codes g.met.A.Code.lawful c.requires.parts.1 in
    let word = c.args.word.now in
    let marks = c.args.marks.now in
    let none = c.requires.word.0 in
    let fit = damage_fits (pile h cs) word marks none in
    let found = c.in_ok-harm.ensures in
    let n = c.count_columns-columns.result in
    let words = words_in n (length codes) c.find.new.words in
    let all : length words ≡ length cs = length_words_in n (length codes) c.find.new.words ∙ sym (length_models model codes) in
    let is : c.find.new.found ≡ laid h (columns cs) words = found.1 ∙ ap (λ (m : ℕ). laid h m words) c.count_columns-columns.ensures.value in
    subst (λ (w : List ℕ). Corrected (pile h cs) word marks w (Ok c.in_ok-harm.harm)) (sym c.copy_from_slice.ensures.after) (pile_answers h (g.met.H.Chain.lawful chain c.requires.parts.0) cs laws c.requires.parts.2 word marks fit.0.0 fit.1.0 none words c.find.new.found c.in_ok-harm.harm all found.0 is found.2 found.3)
