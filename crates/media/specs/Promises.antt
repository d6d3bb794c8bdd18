-- What the calls of a sound medium answer, refusals, buffers and states included. Assumes nothing.
use Rattle.std.specs.Prelude.{◌≡◌, ℕ, cond, ◌&&◌, List, [], ◌∷◌, map, Some, None, Ok, Err, Option, Result, MatchOption, nat_le, nat_lt, slice_set}
use Rattle.words.specs.declared.fault.Fault.{Fault}
use Rattle.words.specs.declared.fault.Kind.TheVariants.{PageOutOfRange, CellOutOfRange}
use Rattle.words.specs.declared.fault.Layer.TheVariants.{Medium}
use Rattle.words.specs.Buffers.{either, refusal, values_below, written_to}
use Rattle.words.specs.Faults.{fault}
use Rattle.media_laws.specs.Model.{MediumModel, value_of, mark_of, stored, Unchanged, Changed}

abbrev pub page_refusal : MediumModel → ℕ → Option Fault
page_refusal m p = cond (nat_lt p m.pages) None (Some (fault PageOutOfRange Medium p))

abbrev pub cell_refusal : MediumModel → ℕ → ℕ → Option Fault
cell_refusal m i s = cond (nat_lt i m.breadth && nat_le s 2) None (Some (fault CellOutOfRange Medium i))

-- fetch: the cells of a page and their marks; nothing in the medium changes
abbrev pub Fetched : MediumModel → MediumModel → ℕ → List ℕ → List ℕ → List ℕ → List ℕ → Result (Unit {0}) Fault → Type 0
Fetched m m' p cells marks cells' marks' r =
    Unchanged m m'
    × MatchOption (either (page_refusal m p) (refusal Medium (written_to m.breadth cells ∷ written_to m.breadth marks ∷ [])))
    ((r ≡ Ok tt) × (cells' ≡ map value_of (m.page p)) × (marks' ≡ map mark_of (m.page p)))
    (λ f. (r ≡ Err f) × (cells' ≡ cells) × (marks' ≡ marks))

-- put: a page's cells take the values, but for those that are blank
abbrev pub Put : MediumModel → MediumModel → ℕ → List ℕ → Result (Unit {0}) Fault → Type 0
Put m m' p cells r =
    MatchOption (either (page_refusal m p) (refusal Medium (values_below 2 m.breadth cells ∷ [])))
    ((r ≡ Ok tt) × Changed m m' p (stored (m.page p) cells))
    (λ f. (r ≡ Err f) × Unchanged m m')

-- wear: one cell takes a state
abbrev pub Worn : MediumModel → MediumModel → ℕ → ℕ → ℕ → Result (Unit {0}) Fault → Type 0
Worn m m' p i s r =
    MatchOption (either (page_refusal m p) (cell_refusal m i s))
    ((r ≡ Ok tt) × Changed m m' p (slice_set (m.page p) i s))
    (λ f. (r ≡ Err f) × Unchanged m m')
