-- THE DIRECT KEY HIDES ITS ROW, on the sheet.
--
--    hidden_keeps      a key that is hidden at a look: its samples and how it is held stay, and it doesn't change
--    changed_exactly   a key changes at a look exactly when its sample exists there and its last D samples that exist are all the opposite
--    covered_row       the keys of the matrix in a row in the size are hidden at just the looks with its special function contact closed
--    covered_silent    at such a look no code comes of these keys
-- Assumes nothing.
use Prim.Native.Nat.{ℕ, ◌+◌, ◌*◌, ◌%◌, ◌/◌, ◌<◌}
use native.Mathlib.Omega.{arith}
use mathlib.Core.Path.{◌≡◌, refl, sym, ap, ◌∙◌}
use mathlib.Core.Bool.{Bool, true, false, not, ◌&&◌, cond, or-true}
use mathlib.Core.List.{List, ◌∷◌}
use borrow.Author.Tests.{lt-ltb, eqb-true, ltb-true}
use lib.Dec.{eqb, ltb}
use lib.ListN.{get_or}
use Rattle.words.specs.Words.{all, bit}
use Rattle.words.proofs.Laws.{true_false}
use Rattle.words.proofs.Lists.{by_test}
use Rattle.keys.specs.Keys.{row_of, col_of, key_of, in_size, key_in, sample, hidden}
use Rattle.keys.proofs.Laws.{row_yes, col_yes, place_row, place_col, code_key, hidden_matrix}
use Rattle.contact.specs.Contact as contact
use Rattle.contact.specs.Contact.{samples}
use Rattle.sheet.specs.Sheet.{Past, looked, bounce, size, history, held, changed, changes}
use Rattle.sheet.proofs.Facts.{changes_all}

module _ (s : List ℕ) (past : Past) where
  pub hidden_keeps : (k : ℕ) → hidden s (size past) k ≡ true
      → (history k (looked s ∷ past) ≡ history k past) × ((held k (looked s ∷ past) ≡ held k past) × (changed k s past ≡ false))
  unfolding history held changed
  hidden_keeps k e = rw e (refl, (refl, refl))

  pub changed_exactly : (k : ℕ) → changed k s past
      ≡ (not (hidden s (size past) k) && contact.changes (bounce past) (held k past) (sample s (size past) k ∷ samples (history k past)))
  unfolding changed history samples
  changed_exactly k =
      by_test (λ t. cond t false (contact.changes (bounce past) (held k past) (samples (cond t (history k past) (record { bounce = bounce past; closed = sample s (size past) k } ∷ history k past))))
      ≡ (not t && contact.changes (bounce past) (held k past) (sample s (size past) k ∷ samples (history k past)))) (hidden s (size past) k) (λ _. refl) (λ _. refl)

  pub covered_row : (row col : ℕ) → row < 8 → row < size past / 16 → col < 12 → hidden s (size past) (13 * row + col) ≡ bit 12 (get_or s row 0)
  unfolding sample key_in in_size
  covered_row row col h l c =
      hidden_matrix s (size past) row (omega arith) col c
      ∙ rw (place_row row 12 (omega arith) (omega arith), place_col row 12 (omega arith) (omega arith), lt-ltb row (size past / 16) l)
      (ap (λ (b : Bool). cond b (bit 12 (get_or s row 0)) false) (or-true (ltb 12 (size past % 16))))

  -- the code is of a key of the matrix in the row
  unfoldable pub of_matrix : ℕ → ℕ → Bool
  of_matrix row c = eqb (row_of (key_of c)) row && ltb (col_of (key_of c)) 12

  pub covered_silent : (row : ℕ) → row < 8 → row < size past / 16 → bit 12 (get_or s row 0) ≡ true → all (λ c. not (of_matrix row c)) (changes s past) ≡ true
  unfolding of_matrix
  covered_silent row h l e = changes_all s past (λ c. not (of_matrix row c)) (λ k m t. rw (code_key k (sample s (size past) k) m) (other k m t))
    where
      other : (k : ℕ) → k < 104 → changed k s past ≡ true → not (eqb (row_of k) row && ltb (col_of k) 12) ≡ true
      other k m t =
          by_test (λ b. eqb (row_of k) row ≡ b → not (b && ltb (col_of k) 12) ≡ true) (eqb (row_of k) row)
          (λ f _. by_test (λ b. ltb (col_of k) 12 ≡ b → not b ≡ true) (ltb (col_of k) 12)
          (λ g _.
          let r : row_of k ≡ row = eqb-true (row_of k) row f in
          let c : col_of k < 12 = ltb-true (col_of k) 12 g in
          let a = row_yes k m in
          let b = col_yes k m in
          let place : k ≡ 13 * row + col_of k = omega arith in
          let hid : hidden s (size past) k ≡ true = ap (hidden s (size past)) place ∙ covered_row row (col_of k) h l c ∙ e in
          true_false (sym t ∙ (hidden_keeps k hid).1.1)) (λ _ _. refl) refl)
          (λ _ _. refl) refl
