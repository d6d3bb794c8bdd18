-- What a pile answers, by the stages' choices. Assumes nothing.
use Rattle.std.proofs.Common.{◌≡◌, ℕ, ◌*◌, ◌<◌, List, length, None, Ok, Err, ap, ◌∙◌, inl, inr, arith}
use Rattle.words.specs.declared.fault.Kind.TheVariants.{NoCodeword}
use Rattle.words.specs.declared.fault.Layer.TheVariants.{Code}
use Rattle.words.specs.Buffers.{refusal}
use Rattle.words.specs.Faults.{fault}
use Rattle.words.specs.Harm.{harm}
use Rattle.chains.specs.Model.{ChainModel, LawfulChain}
use Rattle.codes.specs.Model.{CodeModel, Near}
use Rattle.codes.specs.Promises.{Corrected}
use Rattle.codes.proofs.Working.{correct_buffers, corrected, uncorrected}
use Rattle.pile_laws.specs.Build.{columns, laid, reach}
use Rattle.pile_laws.specs.Fit.{EachLawful, Fits}
use Rattle.pile_laws.specs.Pile.{GivesUp, pile}
use Rattle.pile_laws.specs.Stages.{Choices}
use Rattle.pile_laws.proofs.Near.{none_chosen, none_whole}
use Rattle.pile_laws.proofs.Outcomes.{chosen_codeword}

module _ (h : ChainModel) (law : LawfulChain h) (cs : List CodeModel) (laws : EachLawful cs) (fits : Fits h cs) (word marks : List ℕ) (lw : length word ≡ h.breadth * columns cs) (lm : length marks ≡ h.breadth * columns cs) where
  -- where decoding gives up, no codeword is near
  pub none_near : (place : ℕ) → GivesUp h cs word marks place → (u : List ℕ) → Near (pile h cs) word marks u → ⊥
  none_near place (words, choices, inl stage) u near =
      none_chosen h law cs laws fits word marks lw lm u near words (omega (arith, stage.1)) choices stage.1 stage.2
  none_near place (words, choices, inr whole) u near =
      none_whole h law cs laws fits word marks lw lm u near words (omega (arith, whole.1)) choices whole.1 whole.2

  module _ (none : refusal Code (correct_buffers (pile h cs) 2 word marks) ≡ None) where
    pub pile_refuses : (place : ℕ) → GivesUp h cs word marks place → Corrected (pile h cs) word marks word (Err (fault NoCodeword Code place))
    pile_refuses place gives-up = uncorrected (pile h cs) word marks place none gives-up (none_near place gives-up)

    pub pile_answers : (words : List (List ℕ)) (found : List ℕ) (d : ℕ) → length words ≡ length cs → Choices h cs word marks words → found ≡ laid h (columns cs) words → d ≡ harm word marks found → d < reach h cs → Corrected (pile h cs) word marks found (Ok d)
    pile_answers words found d all choices is e near =
        let u = chosen_codeword h cs word marks words all choices in
        let found-is : found ≡ (pile h cs).codeword u.0 = is ∙ u.2 in
        let d-is : d ≡ harm word marks ((pile h cs).codeword u.0) = e ∙ ap (harm word marks) found-is in
        corrected (pile h cs) word marks found d none u.0 (u.1, omega (arith, d-is, near)) found-is d-is
