-- What the stages' choices come to as the answer of a pile. Assumes nothing.
use Rattle.std.proofs.Common.{◌≡◌, ℕ, suc, ◌<◌, List, [], ◌∷◌, length, get_or, take, sym, refl, ap, ◌∙◌, subst, ap₂, arith}
use Rattle.std.proofs.lemmas.List.{length-take-le}
use Rattle.chains.specs.Model.{ChainModel}
use Rattle.codes.specs.Model.{CodeModel, Message}
use Rattle.pile_laws.specs.Build.{columns, encoded, joined_bits, laid, stage_words}
use Rattle.pile_laws.specs.Pile.{pile}
use Rattle.pile_laws.specs.Stages.{Choices, code_at, no_code}
use Rattle.pile_laws.proofs.Fitting.{code_after}
use Rattle.pile_laws.proofs.Messages.{EachMessage, joined_bits_are, messages_again}

-- each word is the codeword of a message of its code
abbrev pub EncodedAt : List CodeModel → List (List ℕ) → ℕ → Type 0
EncodedAt cs words k = (u : List ℕ) × Message (get_or cs k no_code) u × (get_or words k [] ≡ (get_or cs k no_code).codeword u)

pub gathered : (cs : List CodeModel) (words : List (List ℕ)) → length words ≡ length cs → ((k : ℕ) → k < length words → EncodedAt cs words k) → (us : List (List ℕ)) × EachMessage cs us × (encoded cs us ≡ words)
gathered [] [] l at = ([], tt, refl)
gathered [] (w ∷ words) l at = absurd (omega arith)
gathered (c ∷ cs) [] l at = absurd (omega arith)
gathered (c ∷ cs) (w ∷ words) l at =
    let first = at 0 (omega arith) in
    let rest = gathered cs words (omega arith) (λ k lk. at (suc k) (omega arith)) in
    (first.0 ∷ rest.0, (first.1, rest.1), ap₂ ◌∷◌ (sym first.2) rest.2)

-- so together they are the stages of one message
pub message_of_words : (h : ChainModel) (cs : List CodeModel) (us : List (List ℕ)) → EachMessage cs us → Message (pile h cs) (joined_bits cs us) × (stage_words cs (joined_bits cs us) ≡ encoded cs us)
message_of_words h cs us each = (joined_bits_are cs us each, ap (encoded cs) (messages_again cs us each))

pub chosen_encoded : (h : ChainModel) (cs : List CodeModel) (word marks : List ℕ) (words : List (List ℕ)) → Choices h cs word marks words → (k : ℕ) → k < length words → EncodedAt cs words k
chosen_encoded h cs word marks words choices k l =
    let next = choices k l in
    let front : length (take k words) ≡ k = length-take-le k words (omega arith) in
    let code : code_at cs (suc (length (take k words))) ≡ get_or cs k no_code = code_after cs (length (take k words)) ∙ ap (λ (m : ℕ). get_or cs m no_code) front in
    subst (λ (c : CodeModel). (u : List ℕ) × Message c u × (get_or words k [] ≡ c.codeword u)) code (next.2.0, next.2.1.0, next.2.2)

-- all stages' choices are a codeword of the pile
pub chosen_codeword : (h : ChainModel) (cs : List CodeModel) (word marks : List ℕ) (words : List (List ℕ)) → length words ≡ length cs → Choices h cs word marks words → (u : List ℕ) × Message (pile h cs) u × (laid h (columns cs) words ≡ (pile h cs).codeword u)
chosen_codeword h cs word marks words all choices =
    let g = gathered cs words all (chosen_encoded h cs word marks words choices) in
    let m = message_of_words h cs g.0 g.1 in
    (joined_bits cs g.0, m.0, ap (laid h (columns cs)) (sym (m.1 ∙ g.2)))
