-- What is answered where a refusal is due, and where none is. Assumes nothing.
use Rattle.std.proofs.Common.{◌≡◌, ℕ, List, length, Some, None, Ok, Err, Option, Result, sym, ap, ◌∙◌, ap₂, arith}
use Rattle.words.specs.declared.fault.Fault.{Fault}
use Rattle.words.specs.Buffers.{checked}
use Rattle.words.proofs.Rises.{checked_ok}
use Rattle.chains.specs.Model.{at_stage}
use Rattle.chains.specs.Promises.{Answered}
use Rattle.chains.specs.Refusals.{word_refusal, estimate_refusal}

pub answers : {X : Type 0} (due : Option Fault) (P : X → Type 0) (x : X) → due ≡ None → P x → Answered due P (Ok x)
answers None P x e p = p
answers (Some f) P x e p = cc

pub refuses : {X : Type 0} (due : Option Fault) (P : X → Type 0) (r : Result X Fault) {f : Fault} → due ≡ Some f → r ≡ Err f → Answered due P r
refuses None P r e p = absurd (let z : ◌≡◌ {A = ℕ} 0 1 = cc in omega arith)
refuses (Some g) P r e p = cc

-- the refusals over a list of k widths that was worked out
pub same_row : {m n k : ℕ} {ws vs : List ℕ} (labels cells : List ℕ) → m ≡ n → ws ≡ vs → length vs ≡ k → word_refusal m (length ws) (at_stage ws) labels cells ≡ word_refusal n k (at_stage vs) labels cells
same_row {n = n} {vs = vs} labels cells em ew el =
    ap₂ (λ j us. word_refusal j (length us) (at_stage us) labels cells) em ew ∙ ap (λ j. word_refusal n j (at_stage vs) labels cells) el

pub same_reading : {m n k : ℕ} {ws vs : List ℕ} (i : ℕ) (labels cells marks : List ℕ) → m ≡ n → ws ≡ vs → length vs ≡ k → estimate_refusal m (length ws) (at_stage ws) i labels cells marks ≡ estimate_refusal n k (at_stage vs) i labels cells marks
same_reading {n = n} {vs = vs} i labels cells marks em ew el =
    ap₂ (λ j us. estimate_refusal j (length us) (at_stage us) i labels cells marks) em ew ∙ ap (λ j. estimate_refusal n j (at_stage vs) i labels cells marks) el

-- a check over such a list that passed
pub row_passed : {m n k : ℕ} {ws vs : List ℕ} (labels cells : List ℕ) {u : Unit {0}} → m ≡ n → ws ≡ vs → length vs ≡ k → Ok u ≡ checked (word_refusal m (length ws) (at_stage ws) labels cells) → word_refusal n k (at_stage vs) labels cells ≡ None
row_passed labels cells em ew el e = sym (same_row labels cells em ew el) ∙ checked_ok _ e

pub reading_passed : {m n k : ℕ} {ws vs : List ℕ} (i : ℕ) (labels cells marks : List ℕ) {u : Unit {0}} → m ≡ n → ws ≡ vs → length vs ≡ k → Ok u ≡ checked (estimate_refusal m (length ws) (at_stage ws) i labels cells marks) → estimate_refusal n k (at_stage vs) i labels cells marks ≡ None
reading_passed i labels cells marks em ew el e = sym (same_reading i labels cells marks em ew el) ∙ checked_ok _ e
