-- A byte that names a chain or a kind is the byte of what it names. Assumes nothing.
use Rattle.std.proofs.Common.{◌≡◌, ℕ, true, Some, refl, arith}
use Rattle.std.proofs.lemmas.Bool.Decides.{nat_tests}
use Rattle.recipes.specs.declared.kinds.ChainKind.{ChainKind}
use Rattle.recipes.specs.declared.kinds.ChainKind.TheVariants.{ReedMuller, Even}
use Rattle.recipes.specs.declared.kinds.CodeKind.{CodeKind}
use Rattle.recipes.specs.declared.kinds.CodeKind.TheVariants.{Open, ReedSolomon, Repetition, ExtendedReedSolomon}
use Rattle.recipes.specs.Chains.{Known, chain_byte, chain_named}
use Rattle.recipes.specs.Codes.{allowed, code_byte, code_named}

pub chain_of_byte : (byte : ℕ) (chain : ChainKind) → chain_named byte ≡ Some chain → Known chain × (byte ≡ chain_byte chain)
chain_of_byte byte (ReedMuller r) e = (grind (arith, nat_tests), grind (arith, nat_tests))
chain_of_byte byte (Even n) e = (grind (arith, nat_tests), grind (arith, nat_tests))

pub byte_of_chain : (chain : ChainKind) → Known chain → chain_named (chain_byte chain) ≡ Some chain
byte_of_chain (ReedMuller r) k = grind (arith, nat_tests)
byte_of_chain (Even n) k = grind (arith, nat_tests)

pub code_of_byte : (byte width : ℕ) (kind : CodeKind) → code_named byte width ≡ Some kind → (allowed kind width ≡ true) × (byte ≡ code_byte kind)
code_of_byte byte width Open e = (refl, grind (arith, nat_tests))
code_of_byte byte width ReedSolomon e = (refl, grind (arith, nat_tests))
code_of_byte byte width Repetition e = (refl, grind (arith, nat_tests))
code_of_byte byte width ExtendedReedSolomon e = (grind (arith, nat_tests), grind (arith, nat_tests))

pub byte_of_code : (kind : CodeKind) (width : ℕ) → allowed kind width ≡ true → code_named (code_byte kind) width ≡ Some kind
byte_of_code Open width e = refl
byte_of_code ReedSolomon width e = refl
byte_of_code Repetition width e = refl
byte_of_code ExtendedReedSolomon width e = rw e
