-- A lawful code's distance is at most its length, since it has two messages that differ. Assumes nothing.
use Rattle.std.proofs.Common.{◌≡◌, ℕ, ◌^◌, ◌<◌, ◌≤◌, get_or, replicate, ap, arith, pow_mono}
use Rattle.std.proofs.lemmas.List.{length-replicate, get_or-replicate}
use Rattle.words.proofs.Distances.{differences_le}
use Rattle.codes.specs.Model.{CodeModel, Lawful, Message}
use Rattle.codes.specs.Repeats.{all_replicate}

module _ (c : CodeModel) (lawful : Lawful c) where
  alike : (x : ℕ) → x < 2 → Message c (replicate c.message_len x)
  alike x l =
      (length-replicate c.message_len x, all_replicate (λ y. y < 2 ^ c.width) c.message_len x (omega (arith, pow_mono {i = 1} {j = c.width} lawful.some_width)))

  unlike : replicate {A = ℕ} c.message_len 0 ≡ replicate c.message_len 1 → ⊥
  unlike e =
      let some : 0 < c.message_len = omega (arith, lawful.some_message) in
      omega (arith, get_or-replicate {A = ℕ} c.message_len 0 0 0 some, get_or-replicate {A = ℕ} c.message_len 0 1 0 some, ap (λ xs. get_or xs 0 0) e)

  pub distance_within : c.distance ≤ c.len
  distance_within =
      let zeros = replicate {A = ℕ} c.message_len 0 in
      let ones = replicate {A = ℕ} c.message_len 1 in
      omega (arith, lawful.apart zeros ones (alike 0 (omega arith)) (alike 1 (omega arith)) unlike, differences_le (c.codeword zeros) (c.codeword ones), (lawful.symbols zeros (alike 0 (omega arith))).0)
