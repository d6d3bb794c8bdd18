-- A call on packed pages is a step of a life, and its refusals are those of the memory. Assumes nothing.
use Rattle.std.proofs.Common.{◌≡◌, ℕ, ◌*◌, ◌≤◌, List, None, Ok, Err, Option, Result, MatchOption, MatchResult, refl, sym, subst}
use Rattle.words.specs.declared.fault.Fault.{Fault}
use Rattle.words.specs.Soundness.{Refused}
use Rattle.codes.specs.Model.{CodeModel, Lawful}
use Rattle.recipes.specs.declared.table.Table.{Table}
use Rattle.recipes.specs.Meaning.{Describes}
use Rattle.recipes.specs.Rules.{recipe_refusal}
use Rattle.recipes.specs.Totals.{page_cells, message_bits}
use Rattle.media_laws.specs.Model.{MediumModel}
use Rattle.media_laws.specs.Packed.{PackedFits, packed, row_bytes}
use Rattle.media_laws.proofs.Lent.{fits, unrefused}
use Rattle.media_laws.proofs.Packs.{packed_lawful}
use Rattle.memory_laws.specs.Calls.{Joins}
use Rattle.memory_laws.specs.Lives.{Life, Step}
use Rattle.memory_laws.specs.Payload.{page_bytes}
use Rattle.memory_laws.proofs.ComesBack.{comes_back}
use Rattle.memory_laws.proofs.Lives.{life_follows}
use Rattle.piles.specs.declared.pile.Pile.{Pile}
use Rattle.recipe_piles.specs.Made.{PileOf}
use Rattle.recipe_piles.specs.Parts.{RecipeChain, StageCode}
use Rattle.player.specs.Pages.{Called, GoesOn, Under, page_code, pages_in}
use Rattle.player.proofs.Laws.{code_of_pile, is_page_code, model_lawful}
use Rattle.player.proofs.Refusing.{Due, Join, bytes_refusal, no_byte, unfit_bytes}

-- a step leaves the numbers of a packed memory as they are
module _ (c : CodeModel) (lawful : Lawful c) (before after : List ℕ) (pages pages' cells cells' : ℕ) where
  settled : (Asked : MediumModel → MediumModel → CodeModel → Type 0) (step : (m m' : MediumModel) (c : CodeModel) → Asked m m' c → Step c m m') → PackedFits before pages cells → Joins (packed before pages cells) c → PackedFits after pages' cells' × Asked (packed before pages cells) (packed after pages' cells') c → PackedFits after pages cells × Asked (packed before pages cells) (packed after pages cells) c
  settled Asked step fits joins got =
      let follows = life_follows c lawful (packed_lawful before pages cells fits) joins (Life.goes_on Life.begins (step (packed before pages cells) (packed after pages' cells') c got.1)) in
      subst (λ n. PackedFits after n cells × Asked (packed before pages cells) (packed after n cells) c) follows.pages
      (subst (λ n. PackedFits after pages' n × Asked (packed before pages cells) (packed after pages' n) c) follows.breadth got)

module _ (t : Table) (p : Pile RecipeChain StageCode) (is : PileOf t p) (pages : ℕ) where
  joins : (bytes : List ℕ) → 1 ≤ page_bytes (message_bits t) → Joins (pages_in t pages bytes) (code_of_pile p)
  joins bytes some =
      record {
        bits = refl;
        same_length = is.described.numbers.cells;
        some_byte = subst (λ k. 1 ≤ page_bytes k) (sym is.described.numbers.bits) some;
      }

  goes_on : (before after : List ℕ) → 1 ≤ page_bytes (message_bits t) → (step : Step (page_code t) (pages_in t pages before) (pages_in t pages after)) → GoesOn t pages before after step
  goes_on before after some step start fit life =
      let same = is_page_code t p is in
      comes_back (page_code t) (subst Lawful same (model_lawful t p is)) (pages_in t pages start) (pages_in t pages after) (packed_lawful start pages (page_cells t) fit) (subst (Joins (pages_in t pages start)) same (joins start some)) (Life.goes_on life step)

  -- a call of a memory over these pages: what refuses it, and what it does where its parts are joined
  module _ (before after : List ℕ) (page : ℕ) (r : Result ℕ Fault) (Stays : Type 0) (code : Option Fault) where
    abbrev pub Refuses : ℕ → Type 0
    Refuses cells = Refused (Due before pages cells (code_of_pile p) code page) r Stays

    abbrev pub Does : (cells pages' cells' : ℕ) → (MediumModel → MediumModel → CodeModel → Type 0) → Type 0
    Does cells pages' cells' Asked =
        Join before pages cells (code_of_pile p) code page
        → (bytes_refusal after pages' cells' (code_of_pile p) code page ≡ None) × Asked (packed before pages cells) (packed after pages' cells') (code_of_pile p)

    -- whatever is asked of a call that is done, and the step that it then is
    module _ (sound : code ≡ None) (recipe : List ℕ) (describes : Describes recipe t) (none : recipe_refusal recipe ≡ None) (Asked : MediumModel → MediumModel → CodeModel → Type 0) (step : (m m' : MediumModel) (c : CodeModel) → Asked m m' c → Step c m m') where
      abbrev Goes : Table → Type 0
      Goes u =
          (does : Asked (pages_in u pages before) (pages_in u pages after) (page_code u)) × GoesOn u pages before after (step _ _ _ does)

      called_here : (pages' cells' : ℕ) → Refuses (page_cells t) → Does (page_cells t) pages' cells' Asked → Called recipe pages before after page r Goes
      called_here pages' cells' refused joined =
          subst (λ o. MatchOption o ((u : Table) × Describes recipe u × Under recipe pages before after page r u (Goes u)) (λ f. r ≡ Err f)) (sym none) (
            t,
            describes,
            record {
              done = λ fit some.
                  let j = joins before some in
                  let wanted = λ (n m : ℕ). n * (2 * row_bytes m) in
                  let whole = unrefused pages (page_cells t) (wanted pages (page_cells t)) before fit in
                  let told = joined (whole, sound, j) in
                  let got = settled (code_of_pile p) (model_lawful t p is) before after pages pages' (page_cells t) cells' Asked step fit j (fits pages' cells' (wanted pages' cells') after told.0, told.1) in
                  let does = subst (Asked (pages_in t pages before) (pages_in t pages after)) (is_page_code t p is) got.1 in
                  (got.0, (does, goes_on before after some (step _ _ _ does)));
              unfit = λ not. (refused _ (unfit_bytes before pages (page_cells t) (code_of_pile p) code page not)).0;
              no_byte = λ fit zero.
                  let holds = subst (λ k. page_bytes k ≡ 0) (sym is.described.numbers.bits) zero in
                  (refused _ (no_byte before pages (page_cells t) (code_of_pile p) code page fit sound holds)).0;
            },
          )

      pub called : (cells : ℕ) → cells ≡ page_cells t → (pages' cells' : ℕ) → Refuses cells → Does cells pages' cells' Asked → Called recipe pages before after page r Goes
      called cells e pages' cells' refused does =
          called_here pages' cells' (subst Refuses e refused) (subst (λ n. Does n pages' cells' Asked) e does)

  -- what is put, or that nothing is
  pub left : (recipe : List ℕ) → Describes recipe t → (r : Result ℕ Fault) (Stays : Type 0) (Told : ℕ → Type 0) (Put : CodeModel → ℕ → Type 0) → ((n : ℕ) → Told n → Put (code_of_pile p) n) → (cells : ℕ) → cells ≡ page_cells t → MatchResult r (λ _. Told cells) (λ _. Stays) → MatchResult r (λ _. (u : Table) × Describes recipe u × Put (page_code u) (page_cells u)) (λ _. Stays)
  left recipe describes (Ok n) Stays Told Put puts cells e told =
      (t, describes, subst (λ c. Put c (page_cells t)) (is_page_code t p is) (puts (page_cells t) (subst Told e told)))
  left recipe describes (Err f) Stays Told Put puts cells e same = same
