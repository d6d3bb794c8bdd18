-- The messages of the stages' codewords and their bits, found one by one. Assumes nothing.
use Rattle.std.proofs.Common.{◌≡◌, ℕ, suc, ◌+◌, ◌*◌, ◌<◌, ◌≤◌, List, [], ◌∷◌, ◌++◌, map, length, get_or, take, Ok, Result, sym, refl, ap, ◌∙◌, subst, ap₂, suc-mul, arith}
use borrow.Rule.Slice.PartMut.{put_mid}
use Rattle.std.specs.List.{AllByRecursion}
use Rattle.words.specs.declared.fault.Fault.{Fault}
use Rattle.std.proofs.lemmas.List.{append_assoc, append-nil, take_more}
use Rattle.std.proofs.lemmas.Slice.{take-put_mid}
use Rattle.chains.specs.Bits.{bits_of}
use Rattle.codes.specs.Model.{CodeModel, Lawful, Message, Symbols}
use Rattle.codes.specs.Promises.{Recovered}
use Rattle.pile_laws.specs.Build.{encoded, joined_bits, spelled_out}
use Rattle.pile_laws.specs.Flat.{words_in}
use Rattle.pile_laws.specs.Stages.{column, no_code}
use Rattle.pile_laws.proofs.Calls.{recovered_answer}
use Rattle.pile_laws.proofs.Flat.{words_in_at, words_in_more}
use Rattle.pile_laws.proofs.Messages.{EachMessage}
use Rattle.pile_laws.proofs.Outcomes.{EncodedAt}
use Rattle.pile_laws.proofs.Scans.{model_at}

spelled_out_push : (m : ℕ) (us : List ℕ) (x : ℕ) → spelled_out m (us ++ (x ∷ [])) ≡ spelled_out m us ++ bits_of m x
spelled_out_push m [] x = append-nil (bits_of m x)
spelled_out_push m (y ∷ us) x =
    ap (λ bs. bits_of m y ++ bs) (spelled_out_push m us x) ∙ sym (append_assoc (bits_of m y) (spelled_out m us) (bits_of m x))

-- the bits of one symbol more
pub spelled_more : (m i : ℕ) (us bits ys : List ℕ) → i < length us → i * m ≤ length bits → length ys ≡ m → ys ≡ bits_of m (get_or us i 0) → take (i * m) bits ≡ spelled_out m (take i us) → take ((i + 1) * m) (put_mid (i * m) m bits ys) ≡ spelled_out m (take (i + 1) us)
spelled_more m i us bits ys l lb ly e inv =
    let more : (i + 1) * m ≡ i * m + m = let on : i + 1 ≡ suc i = omega arith in ap (λ (n : ℕ). n * m) on ∙ omega (arith, suc-mul i m) in
    take-put_mid (i * m) m bits ys ((i + 1) * m) (omega arith) lb
    ∙ ap₂ ◌++◌ inv e
    ∙ sym (spelled_out_push m (take i us) (get_or us i 0))
    ∙ ap (spelled_out m) (sym (take_more us i 0 l))

-- messages of some codes by their codewords, and the bits that spell them
abbrev pub MessagesOf : List CodeModel → List (List ℕ) → List ℕ → Type 0
MessagesOf cs words bits = (us : List (List ℕ)) × EachMessage cs us × (encoded cs us ≡ words) × (bits ≡ joined_bits cs us)

module _ (c : CodeModel) (u : List ℕ) where
  messages_push : (cs : List CodeModel) (us : List (List ℕ)) → Message c u → EachMessage cs us → EachMessage (cs ++ (c ∷ [])) (us ++ (u ∷ []))
  messages_push [] [] m e = (m, tt)
  messages_push [] (v ∷ us) m e = absurd e
  messages_push (d ∷ cs) [] m e = absurd e
  messages_push (d ∷ cs) (v ∷ us) m e = (e.0, messages_push cs us m e.1)

  encoded_push : (cs : List CodeModel) (us : List (List ℕ)) → EachMessage cs us → encoded (cs ++ (c ∷ [])) (us ++ (u ∷ [])) ≡ encoded cs us ++ (c.codeword u ∷ [])
  encoded_push [] [] e = refl
  encoded_push [] (v ∷ us) e = absurd e
  encoded_push (d ∷ cs) [] e = absurd e
  encoded_push (d ∷ cs) (v ∷ us) e = ap (λ ws. d.codeword v ∷ ws) (encoded_push cs us e.1)

  joined_push : (cs : List CodeModel) (us : List (List ℕ)) → EachMessage cs us → joined_bits (cs ++ (c ∷ [])) (us ++ (u ∷ [])) ≡ joined_bits cs us ++ spelled_out c.width u
  joined_push [] [] e = append-nil (spelled_out c.width u)
  joined_push [] (v ∷ us) e = absurd e
  joined_push (d ∷ cs) [] e = absurd e
  joined_push (d ∷ cs) (v ∷ us) e =
      ap (λ bs. spelled_out d.width v ++ bs) (joined_push cs us e.1)
      ∙ sym (append_assoc (spelled_out d.width v) (joined_bits cs us) (spelled_out c.width u))

  pub recovered_push : (cs : List CodeModel) (words : List (List ℕ)) (bits w ys : List ℕ) → Message c u → c.codeword u ≡ w → ys ≡ spelled_out c.width u → MessagesOf cs words bits → MessagesOf (cs ++ (c ∷ [])) (words ++ (w ∷ [])) (bits ++ ys)
  recovered_push cs words bits w ys m is e r =
      let each = r.1 in
      (r.0 ++ (u ∷ []), messages_push cs r.0 m each, encoded_push cs r.0 each ∙ ap₂ (λ ws x. ws ++ (x ∷ [])) r.2 is, ap₂ ◌++◌ r.3 e ∙ sym (joined_push cs r.0 each))

models_push : {A : Type 0} (model : A → CodeModel) (xs : List A) (a : A) → map model (xs ++ (a ∷ [])) ≡ map model xs ++ (model a ∷ [])
models_push model [] a = refl
models_push model (x ∷ xs) a = ap (λ cs. model x ∷ cs) (models_push model xs a)

module _ {A : Type 0} (model : A → CodeModel) (codes : List A) (n k : ℕ) (a : A) (is : a ≡ get_or codes k a) (l : k < length codes) (row : List ℕ) where
  -- the codeword of the code with index k
  pub encoded_here : EncodedAt (map model codes) (words_in n (length codes) row) k → (u : List ℕ) × Message (model a) u × ((model a).codeword u ≡ column n k row)
  encoded_here at =
      let same : get_or (map model codes) k no_code ≡ model a = sym (model_at model codes k a l is) in
      let here : (u : List ℕ) × Message (model a) u × (get_or (words_in n (length codes) row) k [] ≡ (model a).codeword u) = subst (λ (c : CodeModel). (u : List ℕ) × Message c u × (get_or (words_in n (length codes) row) k [] ≡ c.codeword u)) same at in
      (here.0, here.1, sym here.2 ∙ words_in_at n (length codes) k row l)

  -- the message of one code more
  pub recovered_more : (at count : ℕ) (bits ys : List ℕ) → at ≤ length bits → length ys ≡ count → ((u : List ℕ) × Message (model a) u × ((model a).codeword u ≡ column n k row) × (ys ≡ spelled_out (model a).width u)) → MessagesOf (map model (take k codes)) (words_in n k row) (take at bits) → MessagesOf (map model (take (k + 1) codes)) (words_in n (k + 1) row) (take (at + count) (put_mid at count bits ys))
  recovered_more at count bits ys lb ly found inv =
      let codes-more : map model (take (k + 1) codes) ≡ map model (take k codes) ++ (model a ∷ []) = ap (map model) (take_more codes k a l) ∙ models_push model (take k codes) (get_or codes k a) ∙ ap (λ x. map model (take k codes) ++ (model x ∷ [])) (sym is) in
      let pushed = recovered_push (model a) found.0 (map model (take k codes)) (words_in n k row) (take at bits) (column n k row) ys found.1 found.2 found.3 inv in
      let bits_more : take (at + count) (put_mid at count bits ys) ≡ take at bits ++ ys = take-put_mid at count bits ys (at + count) (omega arith) lb in
      subst (λ (x : List ℕ). MessagesOf (map model (take (k + 1) codes)) (words_in n (k + 1) row) x) (sym bits_more)
      (subst (λ (ws : List (List ℕ)). MessagesOf (map model (take (k + 1) codes)) ws (take at bits ++ ys)) (sym (words_in_more n k row))
      (subst (λ (cs : List CodeModel). MessagesOf cs (words_in n k row ++ (column n k row ∷ [])) (take at bits ++ ys)) (sym codes-more) pushed))

-- message-of finds the message of any codeword of a lawful code
pub codeword_answer : (c : CodeModel) (word message message' : List ℕ) (r : Result (Unit {0}) Fault) → Lawful c → ((u : List ℕ) × Message c u × (c.codeword u ≡ word)) → length message ≡ c.message_len → AllByRecursion (λ x. x < 256) message → Recovered c word message message' r → (r ≡ Ok tt) × Message c message' × (c.codeword message' ≡ word)
codeword_answer c word message message' r law of long bytes answer =
    recovered_answer c word message message' r of.0 (subst (Symbols c.width c.len) of.2 (law.symbols of.0 of.1)) long bytes of.1 of.2 answer
