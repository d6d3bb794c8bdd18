-- A table while its stages are read, one after the other. Assumes nothing.
use Rattle.std.proofs.Common.{◌≡◌, ℕ, ◌+◌, ◌*◌, ◌<◌, ◌≤◌, true, ◌≢◌, List, length, get_or, set, sym, ap, ◌∙◌, subst, subst₂, ⊎_elim, mul-le-mul_right, one-mul, arith, pow_pos}
use Rattle.std.proofs.lemmas.List.{length-set, get_or-set_same, get_or-set_other}
use Rattle.std.proofs.lemmas.Bool.{cases_lt}
use Rattle.std.proofs.lemmas.Bool.Decides.{nat_tests}
use Rattle.recipes.specs.declared.kinds.ChainKind.{ChainKind}
use Rattle.recipes.specs.declared.kinds.ChainKind.TheVariants.{ReedMuller, Even}
use Rattle.recipes.specs.declared.kinds.CodeKind.{CodeKind}
use Rattle.recipes.specs.declared.kinds.CodeKind.TheVariants.{Open, ReedSolomon, Repetition, ExtendedReedSolomon}
use Rattle.recipes.specs.declared.table.Stage.{Stage}
use Rattle.recipes.specs.declared.table.Table.{Table}
use Rattle.recipes.specs.Chains.{Known, cells_of, stages_of}
use Rattle.recipes.specs.Codes.{fits_kind}
use Rattle.recipes.specs.Meaning.{stage_at, LawfulStage, SpelledStage, Describes}
use Rattle.recipes.specs.Rules.{Headed}
use Rattle.recipes.specs.Stages.{blank}
use Rattle.recipes.proofs.Naming.{chain_of_byte}

-- the stages before i are those of the bytes, and the others are blank
pub record Filled (b : List ℕ) (chain : ChainKind) (columns : ℕ) (i : ℕ) (t : Table) : Type 0 where
  pub chain_is : t.chain ≡ chain
  pub columns_are : t.columns ≡ columns
  pub five : length t.stages ≡ 5
  pub before : (j : ℕ) → j < i → LawfulStage chain columns j (stage_at t j) × SpelledStage b j (stage_at t j)
  pub after : (j : ℕ) → i ≤ j → stage_at t j ≡ blank

pub few_stages : (chain : ChainKind) → Known chain → stages_of chain ≤ 5
few_stages (ReedMuller r) k = omega arith
few_stages (Even n) k = omega arith

some_cells : (chain : ChainKind) → Known chain → 1 ≤ cells_of chain
some_cells (ReedMuller r) k = pow_pos r
some_cells (Even n) k = omega arith

-- a chain has cells, so there are no more columns than cells on the page
pub few_columns : (chain : ChainKind) (n : ℕ) → Known chain → cells_of chain * n ≤ 4096 → n ≤ 4096
few_columns chain n k h = omega (arith, one-mul n, mul-le-mul_right n (some_cells chain k))

pub message_within : (kind : CodeKind) (width n k : ℕ) → 0 < n → fits_kind kind width n k ≡ true → (0 < k) × (k ≤ n)
message_within Open width n k h e = (grind (arith, nat_tests), grind (arith, nat_tests))
message_within ReedSolomon width n k h e = (grind (arith, nat_tests), grind (arith, nat_tests))
message_within Repetition width n k h e = (grind (arith, nat_tests), grind (arith, nat_tests))
message_within ExtendedReedSolomon width n k h e = (grind (arith, nat_tests), grind (arith, nat_tests))

module _ (b : List ℕ) (chain : ChainKind) (columns i : ℕ) (t u : Table) (s : Stage) where
  pub filled_more : i < 5 → Filled b chain columns i t → u.chain ≡ t.chain → u.columns ≡ t.columns → u.stages ≡ set t.stages i s → LawfulStage chain columns i s → SpelledStage b i s → Filled b chain columns (i + 1) u
  filled_more l f ec en es lawful spelled =
      let here : stage_at u i ≡ s = ap (λ xs. get_or xs i blank) es ∙ get_or-set_same t.stages i s blank (omega (arith, f.five)) in
      let other : (j : ℕ) → j ≢ i → stage_at u j ≡ stage_at t j = λ j ne. ap (λ xs. get_or xs j blank) es ∙ get_or-set_other t.stages i j s blank ne in
      let Good : ℕ → Stage → Type 0 = λ j x. LawfulStage chain columns j x × SpelledStage b j x in
      record {
        chain_is = ec ∙ f.chain_is;
        columns_are = en ∙ f.columns_are;
        five = ap length es ∙ length-set t.stages i s ∙ f.five;
        before = λ j h. ⊎_elim (λ (l : j < i). subst (Good j) (sym (other j (omega arith))) (f.before j l)) (λ (l : i ≤ j). let e : i ≡ j = omega arith in subst (λ (k : ℕ). Good k (stage_at u k)) e (subst (Good i) (sym here) (lawful, spelled))) (cases_lt j i);
        after = λ j h. other j (omega arith) ∙ f.after j (omega arith);
      }

own : (b : List ℕ) (t : Table) → Headed b t.chain t.columns → Filled b t.chain t.columns (stages_of t.chain) t → length b ≡ 3 + 3 * stages_of t.chain → Describes b t
own b t h f e =
    let named = chain_of_byte (get_or b 0 0) t.chain h.named in
    record {
      lawful = record {
        known = named.0;
        some_columns = h.some_columns;
        cells_fit = h.cells_fit;
        five = f.five;
        used = λ i l. (f.before i l).0;
        unused = f.after;
      };
      whole = e;
      chain = named.1;
      columns = sym h.spelled;
      stages = λ i l. (f.before i l).1;
    }

pub described : (b : List ℕ) (chain : ChainKind) (columns : ℕ) (t : Table) → Headed b chain columns → Filled b chain columns (stages_of chain) t → length b ≡ 3 + 3 * stages_of chain → Describes b t
described b chain columns t h f e =
    let P : ChainKind → ℕ → Type 0 = λ c n. Headed b c n → Filled b c n (stages_of c) t → length b ≡ 3 + 3 * stages_of c → Describes b t in
    subst₂ P f.chain_is f.columns_are (own b t) h f e
