use Rattle.std.proofs.Common.{◌≡◌, ℕ, ◌*◌, ◌<◌, ◌≤◌, List, map, length, Ok, Err, Result, sym, ap, ◌∙◌, arith, MatchResult}
use Rattle.words.specs.Soundness.{Sound}
use Rattle.words.specs.declared.fault.Fault.{Fault}
use Rattle.words.specs.declared.fault.Kind.TheVariants.{NoCodeword}
use Rattle.words.specs.declared.fault.Layer.TheVariants.{Code}
use Rattle.words.specs.Faults.{fault}
use Rattle.codes.specs.Model.{CodeModel}
use Rattle.pile_laws.specs.Build.{columns}
use Rattle.pile_laws.proofs.Exact.{exact_parts, exact_word, inexact_word, no_codeword}
use Rattle.pile_laws.proofs.Scans.{each_lawful, length_models}
use Rattle.piles.specs.Decoding.{Recognizes}
use Rattle.piles.proofs.choices.Search.recognize.Goals as goal

pub returns-in-Ok : goal.returns-in-Ok
returns-in-Ok g c =
    let model = g.A.Code.model in
    let codes = c.args.self.now.codes.now in
    let chain = c.args.self.now.chain.now in
    let h = g.H.Chain.model chain in
    let cs : List CodeModel = map model codes in
    let law = g.met.H.Chain.lawful chain c.requires.search.parts.0 in
    let laws = each_lawful model (Sound g.A.Code.refusal) codes g.met.A.Code.lawful c.requires.search.parts.1 in
    let n = c.args.self.now.columns in
    let word = c.args.self.now.word.now in
    let marks = c.args.self.now.marks.now in
    let row = c.find.new.words in
    let found = c.in-Ok.ensures in
    let lw : length word ≡ h.breadth * columns cs = c.requires.search.reads.0.0 ∙ ap (λ (m : ℕ). h.breadth * m) c.requires.search.columns in
    let all = sym (length_models model codes) in
    let long : length c.find.new.found ≡ length word = c.find.auto.found ∙ c.requires.found in
    let exact = exact_word h law cs laws c.requires.search.parts.2 word marks c.requires.clear lw n c.requires.search.columns (length codes) all row c.find.new.found c.in-Ok.harm found.0 found.1 found.2 long in
    let parts = exact_parts h law cs laws c.requires.search.parts.2 word marks c.requires.clear lw n c.requires.search.columns (length codes) all row c.find.new.found c.in-Ok.harm found.0 found.1 found.2 long in
    let inexact = inexact_word h law cs laws c.requires.search.parts.2 word marks c.requires.clear lw n c.requires.search.columns (length codes) all row c.find.new.found c.in-Ok.harm found.0 found.1 found.2 long in
    let Near = λ (q : Result (Unit {0}) Fault). MatchResult q (λ _. c.in-Ok.harm < 1) (λ f. (1 ≤ c.in-Ok.harm) × (f ≡ fault NoCodeword Code 0)) in
    let none_left : c.in-Ok.harm < 1 → c.in-Ok.harm ≡ 0 = λ l. omega arith in
    let some_left : 1 ≤ c.in-Ok.harm → c.in-Ok.harm ≡ 0 → ⊥ = λ l e. omega arith in
    let by : (r : Result (Unit {0}) Fault) → Near r → Recognizes h cs n (length codes) word row r = λ r. elim r as (λ q. Near q → Recognizes h cs n (length codes) word row q) [ Ok t ↦ λ near. (exact (none_left near), parts) | Err f ↦ λ far. (far.1, inexact (some_left far.0)) ] in
    by c.check_near.result c.check_near.ensures

pub returns-in-Err : goal.returns-in-Err
returns-in-Err g c =
    let model = g.A.Code.model in
    let codes = c.args.self.now.codes.now in
    let chain = c.args.self.now.chain.now in
    let h = g.H.Chain.model chain in
    let cs : List CodeModel = map model codes in
    let law = g.met.H.Chain.lawful chain c.requires.search.parts.0 in
    let laws = each_lawful model (Sound g.A.Code.refusal) codes g.met.A.Code.lawful c.requires.search.parts.1 in
    let word = c.args.self.now.word.now in
    let lw : length word ≡ h.breadth * columns cs = c.requires.search.reads.0.0 ∙ ap (λ (m : ℕ). h.breadth * m) c.requires.search.columns in
    let refused = c.in-Err.ensures in
    (c.new.ensures, no_codeword h law cs laws c.requires.search.parts.2 word c.args.self.now.marks.now c.requires.clear lw refused.0 refused.1)
