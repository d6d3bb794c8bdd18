-- What a call owes once its checks have passed. Assumes nothing.
use Rattle.std.proofs.Common.{◌≡◌, ℕ, ◌<◌, ◌≤◌, cond, ◌&&◌, ltb, leb, Some, None, Option, ap₂, ltb-true, leb-true, MatchOption, arith}
use Rattle.std.proofs.lemmas.Bool.{and_parts}
use Rattle.std.proofs.lemmas.Bool.Decides.{nat_tests}
use Rattle.words.specs.declared.fault.Fault.{Fault}
use Rattle.words.specs.Buffers.{either}
use Rattle.words.proofs.Passes.{passed}
use Rattle.media_laws.specs.Grid.{state_of}

pub worked : (due : Option Fault) (Worked : Type 0) (Refused : Fault → Type 0) → due ≡ None → Worked → MatchOption due Worked Refused
worked due Worked Refused e w = rw e w

pub none_of_both : (x y : Option Fault) → x ≡ None → y ≡ None → either x y ≡ None
none_of_both x y ex ey = ap₂ either ex ey

pub page_passed : (p pages : ℕ) (f : Fault) → cond (ltb p pages) None (Some f) ≡ None → p < pages
page_passed p pages f e = ltb-true p pages (passed (ltb p pages) f e)

pub cell_passed : (i breadth s : ℕ) (f : Fault) → cond (ltb i breadth && leb s 2) None (Some f) ≡ None → (i < breadth) × (s ≤ 2)
cell_passed i breadth s f e =
    let p = and_parts (ltb i breadth) (leb s 2) (passed (ltb i breadth && leb s 2) f e) in
    (ltb-true i breadth p.0, leb-true s 2 p.1)

pub state_kept : (s : ℕ) → s ≤ 2 → state_of s ≡ s
state_kept s l = grind (arith, nat_tests)
