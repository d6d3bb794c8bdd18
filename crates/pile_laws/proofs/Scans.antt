-- Codes of one type, gone through one by one. Assumes nothing.
use Rattle.std.proofs.Common.{◌≡◌, ℕ, zero, suc, ◌+◌, ◌*◌, ◌<◌, ◌≤◌, List, [], ◌∷◌, ◌++◌, map, length, get_or, take, drop, sym, refl, ap, ◌∙◌, subst, ap₂, mul-le-mul, arith}
use borrow.Rule.Slice.PartMut.{put_mid}
use Rattle.std.specs.List.{AllByRecursion}
use Rattle.std.proofs.lemmas.List.{append_assoc, drop-drop, drop_more}
use Rattle.chains.specs.Model.{ChainModel, LawfulChain}
use Rattle.codes.specs.Model.{CodeModel, Lawful}
use Rattle.pile_laws.specs.Build.{columns, stage_bits, stage_words, symbols, total_bits}
use Rattle.pile_laws.specs.Fit.{EachLawful, EachLong, Fits}
use Rattle.pile_laws.specs.Flat.{words_in}
use Rattle.pile_laws.specs.Stages.{no_code}
use Rattle.pile_laws.proofs.Fitting.{fitting, fitting_length}
use Rattle.pile_laws.proofs.Flat.{words_written}
use Rattle.pile_laws.proofs.Messages.{symbols_front}

module _ {A : Type 0} (model : A → CodeModel) (codes : List A) (i : ℕ) where
  pub models_more : (a : A) → a ≡ get_or codes i a → i < length codes → map model (drop i codes) ≡ model a ∷ map model (drop (i + 1) codes)
  models_more a is l = ap (map model) (drop_more codes i a l) ∙ ap (λ x. model x ∷ map model (drop (i + 1) codes)) (sym is)

-- the number of columns is the first code's length
pub no_columns : {A : Type 0} (model : A → CodeModel) (codes : List A) → length codes ≡ 0 → columns (map model codes) ≡ 0
no_columns model [] l = refl
no_columns model (a ∷ codes) l = absurd (omega arith)

-- the message bits, code after code
pub bits_more : {A : Type 0} (model : A → CodeModel) (codes : List A) (i : ℕ) (a : A) (so_far all here : ℕ) → a ≡ get_or codes i a → i < length codes → here ≡ stage_bits (model a) → so_far + total_bits (map model (drop i codes)) ≡ all → so_far + here + total_bits (map model (drop (i + 1) codes)) ≡ all
bits_more model codes i a so_far all here is l e inv =
    omega (arith, ap total_bits (models_more model codes i a is l), e, inv)

pub length_models : {A : Type 0} (model : A → CodeModel) (codes : List A) → length (map model codes) ≡ length codes
length_models model [] = refl
length_models model (a ∷ codes) = ap suc (length_models model codes)

-- codes that fit a chain are as many as its stages
pub codes_many : {A : Type 0} (model : A → CodeModel) (codes : List A) (h : ChainModel) → Fits h (map model codes) → length codes ≡ h.stages
codes_many model codes h fits =
    omega (arith, length_models model codes, fitting_length h (columns (map model codes)) 1 (map model codes) (omega arith) (omega arith) (fitting h (map model codes) fits).0)

-- as a chain has five stages at most, their words of n symbols have room in five times 4,096
module _ {A : Type 0} (model : A → CodeModel) (codes : List A) (h : ChainModel) (law : LawfulChain h) (fits : Fits h (map model codes)) where
  pub few_codes : length codes ≤ 5
  few_codes = omega (arith, codes_many model codes h fits, law.few_stages)

  pub room_for : (n : ℕ) → n ≤ 4096 → n * length codes ≤ 20480
  room_for n few = mul-le-mul {n₁ = n} {m₁ = length codes} {n₂ = 4096} {m₂ = 5} few few_codes

-- the stages' codewords, code after code
module _ {A : Type 0} (model : A → CodeModel) (codes : List A) (n k : ℕ) (a : A) (is : a ≡ get_or codes k a) (l : k < length codes) where
  pub long_here : EachLong n (map model (drop k codes)) → ((model a).len ≡ n) × EachLong n (map model (drop (k + 1) codes))
  long_here e = subst (EachLong n) (models_more model codes k a is l) e

  pub words_more : (message row ys : List ℕ) (at bits : ℕ) (all : List (List ℕ)) → bits ≡ stage_bits (model a) → n * k ≤ length row → length ys ≡ n → ys ≡ (model a).codeword (symbols (model a).width (model a).message_len (take bits (drop at message))) → words_in n k row ++ stage_words (map model (drop k codes)) (drop at message) ≡ all → words_in n (k + 1) (put_mid (n * k) n row ys) ++ stage_words (map model (drop (k + 1) codes)) (drop (at + bits) message) ≡ all
  words_more message row ys at bits all eb lr ly e inv =
      let c = model a in
      let rest = map model (drop (k + 1) codes) in
      let front : symbols c.width c.message_len (take bits (drop at message)) ≡ symbols c.width c.message_len (drop at message) = symbols_front c.width c.message_len bits (drop at message) (omega (arith, eb)) in
      let past : drop (at + bits) message ≡ drop (stage_bits c) (drop at message) = sym (drop-drop bits at message) ∙ ap (λ (m : ℕ). drop m (drop at message)) eb in
      ap₂ (λ ws x. ws ++ stage_words rest x) (words_written n k row ys lr ly) past
      ∙ append_assoc (words_in n k row) (ys ∷ []) (stage_words rest (drop (stage_bits c) (drop at message)))
      ∙ ap (λ w. words_in n k row ++ (w ∷ stage_words rest (drop (stage_bits c) (drop at message)))) (e ∙ ap c.codeword front)
      ∙ sym (ap (λ cs. words_in n k row ++ stage_words cs (drop at message)) (models_more model codes k a is l))
      ∙ inv

-- parts that are sound are lawful
pub each_lawful : {A : Type 0} (model : A → CodeModel) (sound : A → Type 0) (codes : List A) → ((a : A) → sound a → Lawful (model a)) → AllByRecursion sound codes → EachLawful (map model codes)
each_lawful model sound [] law all = tt
each_lawful model sound (a ∷ codes) law all = (law a all.0, each_lawful model sound codes law all.1)

-- the model of the code with index k
pub model_at : {A : Type 0} (model : A → CodeModel) (codes : List A) (k : ℕ) (a : A) → k < length codes → a ≡ get_or codes k a → model a ≡ get_or (map model codes) k no_code
model_at model [] k a l is = absurd (omega arith)
model_at model (b ∷ codes) zero a l is = ap model is
model_at model (b ∷ codes) (suc k) a l is = model_at model codes k a (omega arith) is
