-- What refuses a call on packed pages, and that the parts are joined where nothing does. Assumes nothing.
use Rattle.std.proofs.Common.{◌≡◌, ℕ, ◌*◌, ◌==◌, ◌&&◌, leb, true, false, Bool, cond, List, length, Some, None, Option, Result, Err, refl, ap, ap₂, ◌∙◌, eqb-true, leb-true, arith}
use Rattle.std.proofs.lemmas.Bool.{and_parts}
use Rattle.words.specs.declared.fault.Fault.{Fault}
use Rattle.words.specs.declared.fault.Kind.TheVariants.{UnfitMedium, UnfitMemory}
use Rattle.words.specs.declared.fault.Layer.TheVariants.{Medium, Memory}
use Rattle.words.specs.Buffers.{either}
use Rattle.words.specs.Faults.{fault, on_page}
use Rattle.words.specs.Soundness.{Refused}
use Rattle.words.proofs.Passes.{none_left, none_right, passed}
use Rattle.codes.specs.Model.{CodeModel}
use Rattle.media_laws.specs.Lent.{in_range, lent_refusal}
use Rattle.media_laws.specs.Model.{MediumModel}
use Rattle.media_laws.specs.Packed.{packed, row_bytes, PackedFits}
use Rattle.media_laws.proofs.Lent.{fits, unrefused}
use Rattle.memory_laws.specs.Calls.{Joins, at_page, call_refusal, unfit}
use Rattle.memory_laws.specs.Payload.{page_bytes}

unpaged : (o : Option Fault) (p : ℕ) → at_page o p ≡ None → o ≡ None
unpaged None p e = refl
unpaged (Some f) p e = cc

-- a test that cannot pass gives its refusal
fails : {X : Type 0} (t : Bool) (x : X) → (cond t None (Some x) ≡ None → ⊥) → cond t None (Some x) ≡ Some x
fails true x not = absurd (not refl)
fails false x not = refl

joins_where_fit : (m : MediumModel) (c : CodeModel) → unfit m c ≡ None → Joins m c
joins_where_fit m c e =
    let all = and_parts ((c.width == 1) && (c.len == m.breadth)) (leb 1 (page_bytes c.message_len)) (passed _ _ e) in
    let same = and_parts (c.width == 1) (c.len == m.breadth) all.0 in
    record { bits = eqb-true c.width 1 same.0; same_length = eqb-true c.len m.breadth same.1; some_byte = leb-true 1 (page_bytes c.message_len) all.1 }

module _ (bytes : List ℕ) (pages cells : ℕ) (c : CodeModel) (code : Option Fault) (page : ℕ) where
  abbrev pub bytes_refusal : Option Fault
  bytes_refusal = lent_refusal pages cells (pages * (2 * row_bytes cells)) bytes

  abbrev pub Due : Option Fault
  Due = call_refusal (packed bytes pages cells) c (either bytes_refusal code) page

  abbrev pub Join : Type 0
  Join = (bytes_refusal ≡ None) × (code ≡ None) × Joins (packed bytes pages cells) c

  pub joined : Due ≡ None → Join
  joined e =
      let parts = unpaged (either bytes_refusal code) page (none_left _ (unfit (packed bytes pages cells) c) e) in
      (none_left bytes_refusal code parts, none_right bytes_refusal code parts, joins_where_fit (packed bytes pages cells) c (none_right (at_page (either bytes_refusal code) page) _ e))

  pub unfit_bytes : (PackedFits bytes pages cells → ⊥) → Due ≡ Some (on_page (fault UnfitMedium Medium (length bytes)) page)
  unfit_bytes not =
      let wanted = pages * (2 * row_bytes cells) in
      ap (λ due. call_refusal (packed bytes pages cells) c (either due code) page)
      (fails (in_range pages cells && (length bytes == wanted)) (fault UnfitMedium Medium (length bytes)) (λ none. not (fits pages cells wanted bytes none)))

  pub no_byte : PackedFits bytes pages cells → code ≡ None → page_bytes c.message_len ≡ 0 → Due ≡ Some (fault UnfitMemory Memory 0)
  no_byte fit sound zero =
      let parts = ap₂ either (unrefused pages cells (pages * (2 * row_bytes cells)) bytes fit) sound in
      ap (λ due. call_refusal (packed bytes pages cells) c due page) parts
      ∙ fails (((c.width == 1) && (c.len == cells)) && leb 1 (page_bytes c.message_len)) (fault UnfitMemory Memory 0)
      (λ none. let some = (joins_where_fit (packed bytes pages cells) c none).some_byte in omega (arith, zero, some))

  -- so a call is refused, or is done by parts that are joined
  pub done_or_refused : {T : Type 0} {P : Type 0} (r : Result T Fault) (Stays : Type 0) → Refused Due r Stays → (Join → P) → ((f : Fault) → r ≡ Err f → Stays → P) → P
  done_or_refused {T} {P} r Stays refused done not = by Due refl refused
    where
      by : (due : Option Fault) → Due ≡ due → Refused due r Stays → P
      by None e told = done (joined e)
      by (Some f) e told = let is = told f refl in not f is.0 is.1
