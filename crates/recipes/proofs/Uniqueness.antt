-- The bytes of a recipe have one meaning. Assumes nothing.
use Rattle.std.proofs.Common.{◌≡◌, ℕ, zero, suc, ◌+◌, ◌*◌, ◌<◌, ◌≤◌, true, false, cond, eqb, List, length, get_or, Some, None, sym, ap, ◌∙◌, subst, ap₂, subst₂, ⊎_elim, arith, le-ltb, ne_eqb}
use Rattle.std.proofs.lemmas.List.{ext_get_or}
use Rattle.std.proofs.lemmas.Bool.{cases_lt}
use Rattle.words.specs.declared.fault.Kind.TheVariants.{RecipeEnds}
use Rattle.words.specs.declared.fault.Layer.TheVariants.{Recipe}
use Rattle.words.specs.Buffers.{either}
use Rattle.words.specs.Faults.{fault}
use Rattle.recipes.specs.declared.kinds.ChainKind.{ChainKind}
use Rattle.recipes.specs.declared.kinds.CodeKind.{CodeKind}
use Rattle.recipes.specs.declared.table.Stage.{Stage}
use Rattle.recipes.specs.declared.table.Table.{Table}
use Rattle.recipes.specs.Chains.{Known, chain_byte, chain_named, cells_of, stages_of, width_at}
use Rattle.recipes.specs.Codes.{allowed, code_byte, code_named, fits_kind}
use Rattle.recipes.specs.Meaning.{two_bytes, stage_at, LawfulStage, SpelledStage, Describes}
use Rattle.recipes.specs.Rules.{SingleMeaning, first_broken, stage_rules, rules_from, chain_rules, recipe_refusal}
use Rattle.recipes.specs.Stages.{stage_of, blank}
use Rattle.recipes.proofs.Breaking.{broken_append, stage_passes}
use Rattle.recipes.proofs.Naming.{byte_of_chain, byte_of_code}

same_chain : (c d : ChainKind) → Known c → Known d → chain_byte c ≡ chain_byte d → c ≡ d
same_chain c d kc kd e = let p = sym (byte_of_chain c kc) ∙ ap chain_named e ∙ byte_of_chain d kd in cc

same_kind : (w : ℕ) (c d : CodeKind) → allowed c w ≡ true → allowed d w ≡ true → code_byte c ≡ code_byte d → c ≡ d
same_kind w c d ac ad e = let p = sym (byte_of_code c w ac) ∙ ap (λ byte. code_named byte w) e ∙ byte_of_code d w ad in cc

same_stage : (b : List ℕ) (chain : ChainKind) (n i : ℕ) (s u : Stage) → LawfulStage chain n i s → LawfulStage chain n i u → SpelledStage b i s → SpelledStage b i u → s ≡ u
same_stage b chain n i s u ls lu ps pu =
    let kind = same_kind (width_at chain i) s.kind u.kind ls.1 lu.1 (sym ps.0 ∙ pu.0) in
    let message = sym ps.1 ∙ pu.1 in
    ls.0 ∙ ap₂ (stage_of chain n i) kind message ∙ sym lu.0

module _ (b : List ℕ) (t u : Table) (dt : Describes b t) (du : Describes b u) where
  chains : t.chain ≡ u.chain
  chains = same_chain _ _ dt.lawful.known du.lawful.known (sym dt.chain ∙ du.chain)

  columns : t.columns ≡ u.columns
  columns = sym dt.columns ∙ du.columns

  stage : (i : ℕ) → stage_at t i ≡ stage_at u i
  stage i = ⊎_elim used unused (cases_lt i (stages_of t.chain))
    where
      used : i < stages_of t.chain → stage_at t i ≡ stage_at u i
      used l =
          let l' = subst (λ (h : ChainKind). i < stages_of h) chains l in
          same_stage b t.chain t.columns i (stage_at t i) (stage_at u i) (dt.lawful.used i l)
          (subst₂ (λ (h : ChainKind) (n : ℕ). LawfulStage h n i (stage_at u i)) (sym chains) (sym columns) (du.lawful.used i l'))
          (dt.stages i l) (du.stages i l')

      unused : stages_of t.chain ≤ i → stage_at t i ≡ stage_at u i
      unused l =
          dt.lawful.unused i l ∙ sym (du.lawful.unused i (subst (λ (h : ChainKind). stages_of h ≤ i) chains l))

  same_table : t ≡ u
  same_table =
      let stages = ext_get_or blank t.stages u.stages (dt.lawful.five ∙ sym du.lawful.five) (λ i _. stage i) in
      λ k. record { chain = chains k; columns = columns k; stages = stages k }

module _ (b : List ℕ) (t : Table) (d : Describes b t) where
  stage_unbroken : (i : ℕ) → i < stages_of t.chain → first_broken (stage_rules b t.chain i) ≡ None
  stage_unbroken i l =
      let s = stage_at t i in
      let lawful = d.lawful.used i l in
      let spelled = d.stages i l in
      let named = ap (λ byte. code_named byte (width_at t.chain i)) spelled.0 ∙ byte_of_code s.kind (width_at t.chain i) lawful.1 in
      stage_passes b t.chain i s.kind (omega (arith, d.whole)) named
      (subst₂ (λ (n k : ℕ). fits_kind s.kind (width_at t.chain i) n k ≡ true) (sym d.columns) (sym spelled.1) lawful.2)

  rules_unbroken : (left i : ℕ) → i + left ≡ stages_of t.chain → first_broken (rules_from b t.chain left i) ≡ None
  rules_unbroken zero i e = rw (le-ltb (3 + 3 * i) (length b) (omega (arith, d.whole)))
  rules_unbroken (suc left) i e =
      broken_append (stage_rules b t.chain i) (rules_from b t.chain left (suc i))
      ∙ ap (λ z. either z (first_broken (rules_from b t.chain left (suc i)))) (stage_unbroken i (omega arith))
      ∙ rules_unbroken left (suc i) (omega arith)

  chain_unbroken : first_broken (chain_rules b (Some t.chain)) ≡ None
  chain_unbroken =
      let n = two_bytes b 1 in
      let some : eqb n 0 ≡ false = ne_eqb n 0 (omega (arith, d.columns, d.lawful.some_columns)) in
      let fit : cells_of t.chain * n ≤ 4096 = subst (λ (m : ℕ). cells_of t.chain * m ≤ 4096) (sym d.columns) d.lawful.cells_fit in
      rw (le-ltb (length b) 3 (omega (arith, d.whole)), some, le-ltb 4096 (cells_of t.chain * n) fit) (rules_unbroken (stages_of t.chain) 0 (omega arith))

  unbroken : recipe_refusal b ≡ None
  unbroken =
      let named : chain_named (get_or b 0 0) ≡ Some t.chain = ap chain_named d.chain ∙ byte_of_chain t.chain d.lawful.known in
      ap (λ end. cond end (Some (fault RecipeEnds Recipe (length b))) (first_broken (chain_rules b (chain_named (get_or b 0 0))))) (le-ltb (length b) 1 (omega (arith, d.whole)))
      ∙ ap (λ h. first_broken (chain_rules b h)) named
      ∙ chain_unbroken

pub single_meaning : (b : List ℕ) → SingleMeaning b
single_meaning b = (same_table b, unbroken b)
