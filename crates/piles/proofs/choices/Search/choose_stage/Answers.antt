use Rattle.std.proofs.Common.{◌≡◌, ℕ, suc, ◌+◌, ◌-◌, ◌*◌, ◌<◌, ◌≤◌, List, map, MatchResult, Result, length, get_or, take, drop, replicate, Option, None, Ok, Err, sym, ap, ◌∙◌, subst, add-one, arith}
use Rattle.std.proofs.ByRecursion.{All-get_or}
use Rattle.std.proofs.lemmas.List.{length-drop, length-take-le}
use Rattle.words.specs.declared.fault.Fault.{Fault}
use Rattle.chains.specs.declared.chain.Estimate.{Estimate}
use Rattle.chains.specs.Model.{Stage}
use Rattle.chains.specs.FromLaw.{within}
use Rattle.codes.specs.Model.{CodeModel}
use borrow.Rule.Slice.PartMut.{put_mid}
use Rattle.std.specs.Option.{MatchOption}
use Rattle.words.specs.Soundness.{Sound}
use Rattle.stage_laws.specs.Promises.{Chose}
use Rattle.pile_laws.specs.Flat.{words_in}
use Rattle.pile_laws.specs.Stages.{NextChoice, NoChoice, column}
use Rattle.pile_laws.proofs.Calls.{stage_never, stage_number}
use Rattle.pile_laws.proofs.Flat.{part_in}
use Rattle.pile_laws.proofs.Scans.{codes_many, each_lawful, length_models, model_at}
use Rattle.pile_laws.proofs.Stepping.{labels_chosen, stage_outcome}
use Rattle.piles.proofs.choices.Search.choose_stage.Given.{Over}
use Rattle.piles.proofs.choices.Search.choose_stage.Goals.{After-choose}
use Rattle.piles.proofs.choices.Search.choose_stage.Goals as goal

room_long : (n : ℕ) → n ≤ 4096 → length (take n (replicate {A = Option Estimate} 4096 None)) ≡ n
room_long n few = length-take-le n (replicate {A = Option Estimate} 4096 None) few

pub estimate_columns-requires : goal.estimate_columns-requires
estimate_columns-requires g c =
    let model = g.A.Code.model in
    let codes = c.args.self.now.codes.now in
    let h = g.H.Chain.model c.args.self.now.chain.now in
    let cs : List CodeModel = map model codes in
    let laws = each_lawful model (Sound g.A.Code.refusal) codes g.met.A.Code.lawful c.requires.search.parts.1 in
    let many = codes_many model codes h c.requires.search.parts.2 in
    let less : c.args.chosen ≤ length cs = omega (arith, length_models model codes, c.requires.stage.0) in
    let room = part_in c.args.self.now.columns (length codes) c.args.chosen c.requires.stage.0 in
    record {
      chain = (c.requires.search.parts.0, (omega arith, omega (arith, many, c.requires.stage.0)));
      word = c.requires.search.reads;
      words = (omega (arith, room, c.requires.stage.1.0), labels_chosen h cs laws c.requires.search.parts.2 c.args.self.now.word.now c.args.self.now.marks.now c.args.self.now.columns c.requires.search.columns c.args.chosen c.args.words.now c.requires.stage.1.1 less);
      estimates = room_long c.args.self.now.columns c.requires.search.few;
    }

pub returns-in_err-inner : goal.returns-in_err-inner
returns-in_err-inner g c =
    let h = g.H.Chain.model c.args.self.now.chain.now in
    let many = codes_many g.A.Code.model c.args.self.now.codes.now h c.requires.search.parts.2 in
    absurd (stage_never h h.distance (c.args.chosen + 1) c.in_err-inner.field-0.0 (omega arith, omega (arith, many, c.requires.stage.0)) (c.in_err-inner.ensures.sound c.requires.search.parts.0))

pub overflow_cast-inner : goal.overflow_cast-inner
overflow_cast-inner g c =
    let chain = c.args.self.now.chain.now in
    let h = g.H.Chain.model chain in
    let law = g.met.H.Chain.lawful chain c.requires.search.parts.0 in
    let many = codes_many g.A.Code.model c.args.self.now.codes.now h c.requires.search.parts.2 in
    let stage : Stage h (c.args.chosen + 1) = (omega arith, omega (arith, many, c.requires.stage.0)) in
    let is = stage_number h h.distance (c.args.chosen + 1) c.in_ok-inner.inner stage (c.in_ok-inner.ensures.sound c.requires.search.parts.0) in
    record { fits = omega (arith, is, within h law (c.args.chosen + 1) stage, law.few_cells) }

-- with its choice the code's part of the row is written, and there may be none
abbrev Outcome : (g : Over) → After-choose g → Result (Option ℕ) Fault → Type 0
Outcome g c r =
    let h = g.H.Chain.model c.args.self.now.chain.now in
    let cs : List CodeModel = map g.A.Code.model c.args.self.now.codes.now in
    let n = c.args.self.now.columns in
    let k = c.args.chosen in
    let row = c.args.words.now in
    let row' = put_mid (n * k) (n * k + n - n * k) row c.choose.new.word in
    let before = words_in n k row in
    MatchResult r (λ o. MatchOption o (NoChoice h cs c.args.self.now.word.now c.args.self.now.marks.now before) (λ _. (words_in n k row' ≡ before) × NextChoice h cs c.args.self.now.word.now c.args.self.now.marks.now before (column n k row'))) (λ _. ⊥)

outcome : (g : Over) → (c : After-choose g) → (r : Result (Option ℕ) Fault) →
    (Sound g.A.Code.refusal (get_or c.args.self.now.codes.now c.args.chosen c.index-self-chosen.result) → Chose (g.A.Code.model (get_or c.args.self.now.codes.now c.args.chosen c.index-self-chosen.result)) c.in_ok-inner.inner c.estimate_columns.new.estimates (take (c.args.self.now.columns * c.args.chosen + c.args.self.now.columns - c.args.self.now.columns * c.args.chosen) (drop (c.args.self.now.columns * c.args.chosen) c.args.words.now)) c.choose.new.word r) →
    Outcome g c r
outcome g c r told =
    let chose = subst (λ a. Sound g.A.Code.refusal a → Chose (g.A.Code.model a) c.in_ok-inner.inner c.estimate_columns.new.estimates (take (c.args.self.now.columns * c.args.chosen + c.args.self.now.columns - c.args.self.now.columns * c.args.chosen) (drop (c.args.self.now.columns * c.args.chosen) c.args.words.now)) c.choose.new.word r) (sym c.index-self-chosen.is) told in
    let model = g.A.Code.model in
    let codes = c.args.self.now.codes.now in
    let chain = c.args.self.now.chain.now in
    let h = g.H.Chain.model chain in
    let cs : List CodeModel = map model codes in
    let laws = each_lawful model (Sound g.A.Code.refusal) codes g.met.A.Code.lawful c.requires.search.parts.1 in
    let many = codes_many model codes h c.requires.search.parts.2 in
    let n = c.args.self.now.columns in
    let k = c.args.chosen in
    let row = c.args.words.now in
    let a = c.index-self-chosen.result in
    let few : k < length cs = omega (arith, length_models model codes, c.requires.stage.0) in
    let stage : Stage h (k + 1) = (omega arith, omega (arith, many, c.requires.stage.0)) in
    let distance : c.in_ok-inner.inner ≡ h.distance (suc k) = stage_number h h.distance (k + 1) c.in_ok-inner.inner stage (c.in_ok-inner.ensures.sound c.requires.search.parts.0) ∙ ap h.distance (add-one k) in
    let room = part_in n (length codes) k c.requires.stage.0 in
    let fits : n * k + n ≤ length row = omega (arith, room, c.requires.stage.1.0) in
    let span = n * k + n - n * k in
    let width : span ≡ n = omega arith in
    let part : length (take span (drop (n * k) row)) ≡ n = ap (λ (i : ℕ). length (take i (drop (n * k) row))) width ∙ length-take-le n (drop (n * k) row) (omega (arith, length-drop (n * k) row, fits)) in
    let sound = subst (Sound g.A.Code.refusal) (sym c.index-self-chosen.is) (All-get_or (Sound g.A.Code.refusal) codes k a c.requires.stage.0 c.requires.search.parts.1) in
    let les : length c.estimate_columns.new.estimates ≡ n = c.estimate_columns.auto.estimates ∙ room_long n c.requires.search.few in
    let is = model_at model codes k a c.requires.stage.0 c.index-self-chosen.is in
    stage_outcome h cs laws c.requires.search.parts.2 c.args.self.now.word.now c.args.self.now.marks.now n c.requires.search.columns k row c.requires.stage.1.1 few c.estimate_columns.new.estimates les c.in_ok-estimate_columns.ensures (model a) is c.in_ok-inner.inner distance fits span width c.choose.new.word (c.choose.auto.word ∙ part) r (chose sound)

pub returns-in_err-choose : goal.returns-in_err-choose
returns-in_err-choose g c = absurd (outcome g (goal.at.returns-in_err-choose g c).After-choose (Err c.in_err-choose.field-0.0) c.in_err-choose.ensures.sound)

pub returns-in-Some : goal.returns-in-Some
returns-in-Some g c =
    let after = (goal.at.returns-in-Some g c).After-choose in
    subst (Outcome g after) (ap Ok c.in-Some.is) (outcome g after (Ok c.in_ok-choose.field-0) c.in_ok-choose.ensures.sound)

pub returns-in-None : goal.returns-in-None
returns-in-None g c =
    let after = (goal.at.returns-in-None g c).After-choose in
    let none = subst (Outcome g after) (ap Ok c.in-None.is) (outcome g after (Ok c.in_ok-choose.field-0) c.in_ok-choose.ensures.sound) in
    (c.without_choice.ensures, none)
