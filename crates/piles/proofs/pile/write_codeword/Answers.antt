use Rattle.std.proofs.Common.{◌≡◌, ℕ, ◌*◌, List, map, sym, ap, ◌∙◌, subst, arith}
use Rattle.std.proofs.lemmas.List.{length-replicate}
use Rattle.words.specs.Soundness.{Sound}
use Rattle.chains.specs.Model.{Row}
use Rattle.codes.specs.Model.{CodeModel}
use Rattle.pile_laws.specs.Build.{columns, labels_at, laid, stage_words}
use Rattle.pile_laws.specs.Fit.{EachLong}
use Rattle.pile_laws.specs.Flat.{words_in}
use Rattle.pile_laws.proofs.Calls.{cases_with}
use Rattle.pile_laws.proofs.Encoding.{rows_encoded}
use Rattle.pile_laws.proofs.Fitting.{each_long, fitting}
use Rattle.pile_laws.proofs.Scans.{codes_many, each_lawful, few_codes, room_for}
use Rattle.piles.proofs.pile.write_codeword.Goals as goal

pub encode_stages-requires : goal.encode_stages-requires
encode_stages-requires g c =
    let model = g.A.Code.model in
    let codes = c.args.codes.now in
    let chain = c.args.chain.now in
    let h = g.H.Chain.model chain in
    let cs : List CodeModel = map model codes in
    let law = g.met.H.Chain.lawful chain c.requires.parts.0 in
    let n = c.count_columns-columns.result in
    let room = room_for model codes h law c.requires.parts.2 n c.count_columns-columns.ensures.bound in
    record {
      codes = (c.requires.parts.1, (few_codes model codes h law c.requires.parts.2, subst (λ (m : ℕ). EachLong m cs) (sym c.count_columns-columns.ensures.value) (each_long h (columns cs) 1 cs (fitting h cs c.requires.parts.2).0)));
      message = (c.requires.message.0, c.requires.message.1);
      room = omega (arith, room, length-replicate {A = ℕ} 20480 0);
    }

pub lay_columns-requires : goal.lay_columns-requires
lay_columns-requires g c =
    let model = g.A.Code.model in
    let codes = c.args.codes.now in
    let chain = c.args.chain.now in
    let h = g.H.Chain.model chain in
    let cs : List CodeModel = map model codes in
    let law = g.met.H.Chain.lawful chain c.requires.parts.0 in
    let laws = each_lawful model (Sound g.A.Code.refusal) codes g.met.A.Code.lawful c.requires.parts.1 in
    let many = codes_many model codes h c.requires.parts.2 in
    let n = c.count_columns-columns.result in
    let value = c.count_columns-columns.ensures.value in
    let room = room_for model codes h law c.requires.parts.2 n c.count_columns-columns.ensures.bound in
    let row = c.encode_stages.new.words in
    let words_are : words_in n h.stages row ≡ stage_words cs c.args.message.now = ap (λ (s : ℕ). words_in n s row) (sym many) ∙ c.in_ok-encode_stages.ensures in
    (c.requires.parts.0, (omega (arith, room, ap (λ (s : ℕ). n * s) many, length-replicate {A = ℕ} 20480 0, c.encode_stages.auto.words), (c.requires.word ∙ ap (λ (m : ℕ). h.breadth * m) (sym value), λ j l. subst (λ (ws : List (List ℕ)). Row h (labels_at ws j)) (sym words_are) (rows_encoded h law cs laws c.requires.parts.2 c.args.message.now c.requires.message j (omega (arith, value))))))

pub returns : goal.returns
returns g c =
    let model = g.A.Code.model in
    let codes = c.args.codes.now in
    let h = g.H.Chain.model c.args.chain.now in
    let cs : List CodeModel = map model codes in
    let many = codes_many model codes h c.requires.parts.2 in
    let n = c.count_columns-columns.result in
    let value = c.count_columns-columns.ensures.value in
    let row = c.encode_stages.new.words in
    let words_are : words_in n h.stages row ≡ stage_words cs c.args.message.now = ap (λ (s : ℕ). words_in n s row) (sym many) ∙ c.in_ok-encode_stages.ensures in
    cases_with c.lay_columns.result _ _ (λ _ e. e ∙ ap (laid h n) words_are ∙ ap (λ (m : ℕ). laid h m (stage_words cs c.args.message.now)) value) c.lay_columns.ensures
