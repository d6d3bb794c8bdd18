-- When a medium over lent bytes is refused. Assumes nothing.
use Rattle.std.specs.Prelude.{ℕ, Bool, ◌&&◌, cond, List, length, Some, None, Option, ◌==◌, nat_le}
use Rattle.words.specs.declared.fault.Fault.{Fault}
use Rattle.words.specs.declared.fault.Kind.TheVariants.{UnfitMedium}
use Rattle.words.specs.declared.fault.Layer.TheVariants.{Medium}
use Rattle.words.specs.Faults.{fault}

abbrev pub in_range : (pages breadth : ℕ) → Bool
in_range pages breadth = (nat_le 1 pages && nat_le pages 65535) && (nat_le 1 breadth && nat_le breadth 4096)

-- pages or cells out of range, or bytes of another length than theirs
abbrev pub lent_refusal : (pages breadth wanted : ℕ) → (bytes : List ℕ) → Option Fault
lent_refusal pages breadth wanted bytes =
    cond (in_range pages breadth && (length bytes == wanted)) None (Some (fault UnfitMedium Medium (length bytes)))
