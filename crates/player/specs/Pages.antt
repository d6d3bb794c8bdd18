-- What a call on packed pages under a recipe answers and leaves. Assumes nothing.
use Rattle.std.specs.Prelude.{◌≡◌, ℕ, ◌≤◌, List, length, Err, Result, MatchOption, MatchResult}
use Rattle.words.specs.declared.fault.Fault.{Fault}
use Rattle.words.specs.declared.fault.Kind.TheVariants.{UnfitMedium, UnfitMemory}
use Rattle.words.specs.declared.fault.Layer.TheVariants.{Medium, Memory}
use Rattle.words.specs.Faults.{fault, on_page}
use Rattle.codes.specs.Model.{CodeModel}
use Rattle.recipes.specs.declared.table.Table.{Table}
use Rattle.recipes.specs.Meaning.{Describes}
use Rattle.recipes.specs.Rules.{recipe_refusal}
use Rattle.recipes.specs.Totals.{page_cells, message_bits}
use Rattle.recipe_pile_laws.specs.Named.{named_chain, table_codes}
use Rattle.pile_laws.specs.Pile.{pile}
use Rattle.recipe_piles.specs.Made.{PileOf}
use Rattle.player.specs.declared.layout.Layout.{Layout}
use Rattle.media_laws.specs.Model.{MediumModel}
use Rattle.media_laws.specs.Packed.{BitsPut, PackedFits, first_mark, first_value, packed}
use Rattle.memory_laws.specs.Calls.{Patrolled, Recalled, Restores, Written}
use Rattle.memory_laws.specs.Lives.{BringsBack, Life, Step}
use Rattle.memory_laws.specs.Payload.{page_bytes}

-- the code of a recipe's pages: the pile of the chain and the codes that it names
abbrev pub page_code : Table → CodeModel
page_code t = pile (named_chain t.chain) (table_codes t)

module _ (t : Table) (pages : ℕ) where
  -- bytes as so many packed pages
  abbrev pub pages_in : List ℕ → MediumModel
  pages_in bytes = packed bytes pages (page_cells t)

  abbrev pub Fit : List ℕ → Type 0
  Fit bytes = PackedFits bytes pages (page_cells t)

  module _ (before after : List ℕ) where
    -- any life of these pages goes on by a call of them, and then brings back what was last written to each
    abbrev pub GoesOn : Step (page_code t) (pages_in before) (pages_in after) → Type 0
    GoesOn step =
        (start : List ℕ) → Fit start → (life : Life (page_code t) (pages_in start) (pages_in before)) → BringsBack (page_code t) (Life.goes_on life step)

    -- the calls as a memory answers them, each a step of a life
    abbrev pub Writes : ℕ → List ℕ → Result ℕ Fault → Type 0
    Writes page payload r =
        (does : Written (pages_in before) (pages_in after) (page_code t) page payload r) × GoesOn (Step.writes page payload r does)

    abbrev pub Reads : ℕ → List ℕ → List ℕ → Result ℕ Fault → Type 0
    Reads page payload payload' r =
        (does : Recalled (pages_in before) (pages_in after) (page_code t) page payload payload' r) × GoesOn (Step.reads page payload payload' r does)

    abbrev pub Patrols : ℕ → Result ℕ Fault → Type 0
    Patrols page r =
        (does : Patrolled (pages_in before) (pages_in after) (page_code t) page r) × GoesOn (Step.patrols page r does)

    -- which bits a codeword that is put to a page changes
    abbrev pub Puts : ℕ → List ℕ → Type 0
    Puts page codeword =
        BitsPut before after (first_value (page_cells t) page) (first_mark (page_cells t) page) codeword (page_cells t)

-- any call on a page: a recipe that describes nothing gives its own refusal, bytes that are not so many pages 21, and a page that holds
-- no byte 19; else the call is done
module _ (recipe : List ℕ) (pages : ℕ) (before after : List ℕ) (page : ℕ) (r : Result ℕ Fault) where
  pub record Under (t : Table) (Done : Type 0) : Type 0 where
    pub done : Fit t pages before → 1 ≤ page_bytes (message_bits t) → Fit t pages after × Done
    pub unfit : (Fit t pages before → ⊥) → r ≡ Err (on_page (fault UnfitMedium Medium (length before)) page)
    pub no_byte : Fit t pages before → page_bytes (message_bits t) ≡ 0 → r ≡ Err (fault UnfitMemory Memory 0)

  abbrev pub Called : (Table → Type 0) → Type 0
  Called Done =
      MatchOption (recipe_refusal recipe) ((t : Table) × Describes recipe t × Under t (Done t)) (λ f. r ≡ Err f)

-- every byte afterwards: a codeword is put to the page, or a refusal leaves all as it was
abbrev pub Left : (recipe before after : List ℕ) → Result ℕ Fault → (Table → Type 0) → Type 0
Left recipe before after r Put = MatchResult r (λ _. (t : Table) × Describes recipe t × Put t) (λ _. after ≡ before)

-- the codeword that a page was corrected to is put back
abbrev pub PutsBack : Table → ℕ → List ℕ → List ℕ → ℕ → Type 0
PutsBack t pages before after page =
    (u : List ℕ) × Restores (pages_in t pages before) (page_code t) page u × Puts t pages before after page ((page_code t).codeword u)

-- the layout that a recipe orders: its code makes the pile that the recipe describes
abbrev pub LayoutOf : List ℕ → Layout → Type 0
LayoutOf recipe l = (t : Table) × Describes recipe t × PileOf t l.code × (l.cells ≡ page_cells t)
