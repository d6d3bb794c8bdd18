use Rattle.std.proofs.Common.{◌≡◌, ℕ, ◌*◌, ◌<◌, ◌≤◌, List, map, length, Ok, Err, Result, sym, refl, ap, ◌∙◌, subst, inr, arith}
use Rattle.std.specs.List.{AllByRecursion}
use Rattle.std.proofs.ByRecursion.{All-weaker}
use Rattle.words.specs.Soundness.{Sound}
use Rattle.words.specs.declared.fault.Fault.{Fault}
use Rattle.words.specs.declared.fault.Layer.TheVariants.{Code}
use Rattle.words.specs.Buffers.{answered, refusal}
use Rattle.words.specs.Harm.{harm, harm_buffers}
use Rattle.words.proofs.Rises.{raised}
use Rattle.chains.specs.Model.{Row}
use Rattle.codes.specs.Model.{CodeModel}
use Rattle.pile_laws.specs.Build.{columns, labels_at, laid}
use Rattle.pile_laws.specs.Flat.{words_in}
use Rattle.pile_laws.proofs.Fitting.{fitting}
use Rattle.pile_laws.proofs.Calls.{harm_answer}
use Rattle.pile_laws.proofs.Flat.{length_words_in}
use Rattle.pile_laws.proofs.Scans.{codes_many, each_lawful, length_models}
use Rattle.pile_laws.proofs.Stepping.{laid_chosen, rows_chosen}
use Rattle.piles.proofs.choices.Search.find.Given.{Over}
use Rattle.piles.proofs.choices.Search.find.Goals.{In_ok-lay_columns}
use Rattle.piles.proofs.choices.Search.find.Goals as goal

ok_same : {x y : ℕ} → ◌≡◌ {A = Result ℕ Fault} (Ok x) (Ok y) → x ≡ y
ok_same e = cc

never_ok : {f : Fault} {y : ℕ} → ◌≡◌ {A = Result ℕ Fault} (Err f) (Ok y) → ⊥
never_ok e = let z : ◌≡◌ {A = ℕ} 0 1 = cc in omega arith

pub lay_columns-requires : goal.lay_columns-requires
lay_columns-requires g c =
    let model = g.A.Code.model in
    let codes = c.args.self.now.codes.now in
    let chain = c.args.self.now.chain.now in
    let h = g.H.Chain.model chain in
    let cs : List CodeModel = map model codes in
    let law = g.met.H.Chain.lawful chain c.requires.search.parts.0 in
    let laws = each_lawful model (Sound g.A.Code.refusal) codes g.met.A.Code.lawful c.requires.search.parts.1 in
    let many : length codes ≡ h.stages = codes_many model codes h c.requires.search.parts.2 in
    let row = c.choose_all.new.words in
    let n = c.args.self.now.columns in
    let word = c.args.self.now.word.now in
    let marks = c.args.self.now.marks.now in
    let choices = c.in_ok-choose_all.ensures in
    let rows = rows_chosen h cs laws c.requires.search.parts.2 word marks n c.requires.search.columns (length codes) row choices law (sym (length_models model codes)) in
    (c.requires.search.parts.0, (omega (arith, c.requires.room, c.choose_all.auto.words, ap (λ (m : ℕ). n * m) many), (c.requires.found ∙ c.requires.search.reads.0.0, λ j l. subst (λ (s : ℕ). Row h (labels_at (words_in n s row) j)) many (rows j l))))

-- what was laid is the word of the choices, and its harm can be measured
abbrev Measured : (g : Over) → In_ok-lay_columns g → Type 0
Measured g c =
    let h = g.H.Chain.model c.args.self.now.chain.now in
    let found = c.lay_columns.new.cells in
    let far = harm c.args.self.now.word.now c.args.self.now.marks.now found in
    (found ≡ laid h c.args.self.now.columns (words_in c.args.self.now.columns (length c.args.self.now.codes.now) c.choose_all.new.words)) × (answered (refusal Code (harm_buffers c.args.self.now.word.now c.args.self.now.marks.now found)) far ≡ Ok far)

measured : (g : Over) → (c : In_ok-lay_columns g) → Measured g c
measured g c =
    let model = g.A.Code.model in
    let codes = c.args.self.now.codes.now in
    let chain = c.args.self.now.chain.now in
    let h = g.H.Chain.model chain in
    let cs : List CodeModel = map model codes in
    let law = g.met.H.Chain.lawful chain c.requires.search.parts.0 in
    let laws = each_lawful model (Sound g.A.Code.refusal) codes g.met.A.Code.lawful c.requires.search.parts.1 in
    let many : length codes ≡ h.stages = codes_many model codes h c.requires.search.parts.2 in
    let row = c.choose_all.new.words in
    let n = c.args.self.now.columns in
    let word = c.args.self.now.word.now in
    let marks = c.args.self.now.marks.now in
    let found = c.lay_columns.new.cells in
    let is : found ≡ laid h n (words_in n (length codes) row) = c.in_ok-lay_columns.ensures ∙ ap (λ (s : ℕ). laid h n (words_in n s row)) (sym many) in
    let cells = laid_chosen h cs laws c.requires.search.parts.2 word marks n c.requires.search.columns (length codes) row c.in_ok-choose_all.ensures law (sym (length_models model codes)) in
    let short : length word ≤ 4096 = omega (arith, c.requires.search.reads.0.0, (fitting h cs c.requires.search.parts.2).1, ap (λ (m : ℕ). h.breadth * m) c.requires.search.columns) in
    let bytes : (xs : List ℕ) → AllByRecursion (λ x. x < 2) xs → AllByRecursion (λ x. x < 256) xs = λ xs a. All-weaker (λ x. x < 2) (λ x. x < 256) (λ x l. omega arith) xs a in
    (is, harm_answer Code word marks found short (c.requires.search.reads.1.0 ∙ sym c.requires.search.reads.0.0) (ap length is ∙ cells.0 ∙ sym c.requires.search.reads.0.0) c.requires.search.reads.1.1 (bytes word c.requires.search.reads.0.1) (subst (AllByRecursion (λ x. x < 256)) (sym is) (bytes _ cells.1)))

pub returns-in_err-far : goal.returns-in_err-far
returns-in_err-far g c = absurd (never_ok (c.in_err-far.ensures ∙ (measured g (goal.at.returns-in_err-far g c).In_ok-lay_columns).1))

pub returns-in_err-check_near : goal.returns-in_err-check_near
returns-in_err-check_near g c =
    let model = g.A.Code.model in
    let codes = c.args.self.now.codes.now in
    let h = g.H.Chain.model c.args.self.now.chain.now in
    let cs : List CodeModel = map model codes in
    let word = c.args.self.now.word.now in
    let marks = c.args.self.now.marks.now in
    let known = measured g (goal.at.returns-in_err-check_near g c).In_ok-lay_columns in
    let words = words_in c.args.self.now.columns (length codes) c.choose_all.new.words in
    let all : length words ≡ length cs = length_words_in c.args.self.now.columns (length codes) c.choose_all.new.words ∙ sym (length_models model codes) in
    let laid-is : c.lay_columns.new.cells ≡ laid h (columns cs) words = known.0 ∙ ap (λ (m : ℕ). laid h m words) c.requires.search.columns in
    let far : c.in_ok-far.far ≡ harm word marks (laid h (columns cs) words) = ok_same (c.in_ok-far.ensures ∙ known.1) ∙ ap (harm word marks) laid-is in
    let refused = c.in_err-check_near.ensures in
    rw (raised c.from_residual-in_err-check_near.result c.from_residual-in_err-check_near.ensures.1)
    (0, (words, c.in_ok-choose_all.ensures, inr (refl, all, omega (arith, refused.0, far, c.in_ok-least_reach.ensures))), refused.1)

pub returns : goal.returns
returns g c =
    let known = measured g (goal.at.returns g c).In_ok-lay_columns in
    let far : c.in_ok-far.far ≡ harm c.args.self.now.word.now c.args.self.now.marks.now c.lay_columns.new.cells = ok_same (c.in_ok-far.ensures ∙ known.1) in
    (c.in_ok-choose_all.ensures, known.0, far, omega (arith, c.in_ok-check_near.ensures, far, c.in_ok-least_reach.ensures))
