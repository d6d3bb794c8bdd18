-- A medium over lent bytes is refused by nothing exactly where its numbers and its bytes fit. Assumes nothing.
use Rattle.std.proofs.Common.{◌≡◌, ℕ, ◌≤◌, true, ◌&&◌, eqb, leb, List, length, None, refl, ap₂, leb-true, le-leb, eq-eqb, eqb-true}
use Rattle.std.proofs.lemmas.Bool.{and_parts}
use Rattle.words.proofs.Passes.{passed}
use Rattle.media_laws.specs.Lent.{in_range, lent_refusal}

-- what GridFits and PackedFits say, each of its own number of bytes
abbrev pub Fits : (pages breadth wanted : ℕ) → (bytes : List ℕ) → Type 0
Fits pages breadth wanted bytes =
    ((1 ≤ pages) × (pages ≤ 65535)) × ((1 ≤ breadth) × (breadth ≤ 4096)) × (length bytes ≡ wanted)

between : (low n high : ℕ) → (leb low n && leb n high) ≡ true → (low ≤ n) × (n ≤ high)
between low n high e = let p = and_parts (leb low n) (leb n high) e in (leb-true low n p.0, leb-true n high p.1)

lies_between : (low n high : ℕ) → (low ≤ n) × (n ≤ high) → (leb low n && leb n high) ≡ true
lies_between low n high h = ap₂ (λ s t. s && t) (le-leb low n h.0) (le-leb n high h.1)

module _ (pages breadth wanted : ℕ) (bytes : List ℕ) where
  pub fits : lent_refusal pages breadth wanted bytes ≡ None → Fits pages breadth wanted bytes
  fits e =
      let p = and_parts (in_range pages breadth) (eqb (length bytes) wanted) (passed _ _ e) in
      let numbers = and_parts (leb 1 pages && leb pages 65535) (leb 1 breadth && leb breadth 4096) p.0 in
      (between 1 pages 65535 numbers.0, between 1 breadth 4096 numbers.1, eqb-true (length bytes) wanted p.1)

  pub unrefused : Fits pages breadth wanted bytes → lent_refusal pages breadth wanted bytes ≡ None
  unrefused h =
      rw (lies_between 1 pages 65535 h.0) (rw (lies_between 1 breadth 4096 h.1) (rw (eq-eqb (length bytes) wanted h.2) refl))
