-- A pile's parts give no refusal exactly where they are sound and fit each other. Assumes nothing.
use Rattle.std.specs.Prelude.{◌≡◌, List, [], ◌∷◌, map, Some, None, Option, refl}
use Rattle.std.specs.List.{AllByRecursion}
use Rattle.std.specs.Option.{option_map}
use Rattle.words.specs.declared.fault.Fault.{Fault}
use Rattle.words.specs.Buffers.{either}
use Rattle.words.specs.Soundness.{Sound}
use Rattle.words.proofs.Passes.{none_left, none_right}
use Rattle.chains.specs.declared.chain.Chain.{Ghosts as ChainGhosts}
use Rattle.chains.specs.Model.{ChainModel, LawfulChain}
use Rattle.codes.specs.declared.code.Code.{Ghosts as CodeGhosts}
use Rattle.codes.specs.Model.{CodeModel, Lawful}
use Rattle.pile_laws.specs.Fit.{unfit}
use Rattle.pile_laws.specs.Pile.{pile}
use Rattle.pile_laws.proofs.Calls.{both_none}
use Rattle.pile_laws.proofs.Law.{pile_lawful}
use Rattle.pile_laws.proofs.Scans.{each_lawful}
use Rattle.piles.specs.Sound.{SoundParts, first_refusal, fit_refusal, parts_refusal}

pub each_sound : {A : Type 0} (refusal : A → Option Fault) (codes : List A) → first_refusal refusal codes ≡ None → AllByRecursion (Sound refusal) codes
each_sound refusal [] e = tt
each_sound refusal (a ∷ codes) e =
    (none_left (refusal a) (first_refusal refusal codes) e, each_sound refusal codes (none_right (refusal a) (first_refusal refusal codes) e))

none_first : {A : Type 0} (refusal : A → Option Fault) (codes : List A) → AllByRecursion (Sound refusal) codes → first_refusal refusal codes ≡ None
none_first refusal [] all = refl
none_first refusal (a ∷ codes) all =
    both_none (refusal a) (first_refusal refusal codes) all.0 (none_first refusal codes all.1)

unmapped : {X Y : Type 0} (f : X → Y) (o : Option X) → option_map f o ≡ None → o ≡ None
unmapped f None e = refl
unmapped f (Some x) e = cc

module _ {H A : Type 0} (chains : ChainGhosts H) (codes : CodeGhosts A) (chain : H) (stages : List A) where
  pub sound_parts : parts_refusal chains codes chain stages ≡ None → SoundParts chains codes chain stages
  sound_parts e =
      let rest = none_right (chains.refusal chain) _ e in (
        none_left (chains.refusal chain) _ e,
        each_sound codes.refusal stages (none_left (first_refusal codes.refusal stages) _ rest),
        unmapped _ (unfit (chains.model chain) (map codes.model stages)) (none_right (first_refusal codes.refusal stages) _ rest),
      )

  pub none_refused : SoundParts chains codes chain stages → parts_refusal chains codes chain stages ≡ None
  none_refused s =
      both_none (chains.refusal chain) _ s.0
      (both_none (first_refusal codes.refusal stages) _ (none_first codes.refusal stages s.1) (fits s.2))
    where
      fits : unfit (chains.model chain) (map codes.model stages) ≡ None → fit_refusal (chains.model chain) (map codes.model stages) ≡ None
      fits e = rw e refl

-- so a pile whose parts give none is a lawful code
pub parts_lawful : {H A : Type 0} (hm : H → ChainModel) (hr : H → Option Fault) (am : A → CodeModel) (ar : A → Option Fault) → ((h : H) → Sound hr h → LawfulChain (hm h)) → ((a : A) → Sound ar a → Lawful (am a)) → (chain : H) (stages : List A) → either (hr chain) (either (first_refusal ar stages) (fit_refusal (hm chain) (map am stages))) ≡ None → Lawful (pile (hm chain) (map am stages))
parts_lawful {H = H} {A = A} hm hr am ar law laws chain stages e =
    let chains : ChainGhosts H = record { model = hm; refusal = hr } in
    let codes : CodeGhosts A = record { model = am; refusal = ar } in
    let s = sound_parts chains codes chain stages e in
    pile_lawful (hm chain) (law chain s.0) (map am stages) (each_lawful am (Sound ar) stages laws s.1) s.2
