-- The samples in which given keys are closed.
--
--    samples_of f    eight samples: key k is closed if f k
--    Within z f     f closes no key out of the size z
--    told           if so, a look with them sees f
--    told_hidden    a look with them hides the keys of the matrix in the rows whose special function key f closes
--    eight          they are eight
--    narrow, u16s   they have no bit above 12, and are of the type u16
-- Assumes nothing.
use Prim.Native.Nat.{ℕ, zero, suc, ◌+◌, ◌*◌, ◌^◌, ◌<◌, ◌≤◌}
use native.Mathlib.Omega.{arith}
use native.Mathlib.Nat.{pow-suc}
use mathlib.Core.Path.{◌≡◌, refl, sym, ap, ◌∙◌}
use mathlib.Core.Bool.{Bool, true, false, not, ◌&&◌, cond}
use mathlib.Core.List.{List, [], ◌∷◌}
use borrow.Author.Tests.{lt-ltb}
use lib.Dec.{ltb}
use lib.ListN.{length, get_or}
use Rattle.words.specs.Words.{bit, table, all}
use Rattle.words.proofs.Bits.{bit_none, bit_first, bit_later}
use Rattle.words.proofs.Tables.{table_at, table_length}
use Rattle.words.proofs.Lists.{by_test, all_append, all_one, all_none}
use Rattle.keys.specs.Keys.{row_of, col_of, key_in, sample, special, hidden}
use Rattle.keys.proofs.Laws.{row_low, col_low, row_yes, col_yes, special_low}
use Rattle.judge.specs.Lines.{high}

-- columns c to c + n - 1, the lowest first
unfoldable pub word_from : (ℕ → Bool) → ℕ → ℕ → ℕ
word_from f c zero = 0
word_from f c (suc n) = cond (f c) 1 0 + 2 * word_from f (suc c) n

bit_word : (f : ℕ → Bool) (j c n : ℕ) → j < n → bit j (word_from f c n) ≡ f (c + j)
unfolding word_from
bit_word f j c zero h = absurd (omega arith)
bit_word f zero c (suc n) h = let e : c + 0 ≡ c = omega arith in bit_first (word_from f (suc c) n) (f c) ∙ ap f (sym e)
bit_word f (suc j) c (suc n) h =
    let e : suc c + j ≡ c + suc j = omega arith in
    bit_later (word_from f (suc c) n) (f c) j ∙ bit_word f j (suc c) n (omega arith) ∙ ap f e

bit_above : (f : ℕ → Bool) (j c n : ℕ) → n ≤ j → bit j (word_from f c n) ≡ false
unfolding word_from
bit_above f j c zero h = bit_none j
bit_above f zero c (suc n) h = absurd (omega arith)
bit_above f (suc j) c (suc n) h = bit_later (word_from f (suc c) n) (f c) j ∙ bit_above f j (suc c) n (omega arith)

unfoldable pub word_of : (ℕ → Bool) → ℕ → ℕ
word_of f row = word_from (λ c. f (13 * row + c)) 0 13

unfoldable pub samples_of : (ℕ → Bool) → List ℕ
samples_of f = table (word_of f) 8

pub told : (f : ℕ → Bool) (size k : ℕ) → k < 104 → (key_in size k ≡ false → f k ≡ false) → sample (samples_of f) size k ≡ f k
unfolding sample samples_of word_of
told f size k h out =
    by_test (λ t. (key_in size k ≡ t) → cond t (bit (col_of k) (get_or (table (word_of f) 8) (row_of k) 0)) false ≡ f k) (key_in size k)
    (λ e _. ap (bit (col_of k)) (table_at (word_of f) 8 (row_of k) 0 (let r = row_low k h in omega arith))
    ∙ bit_word (λ c. f (13 * row_of k + c)) (col_of k) 0 13 (let c = col_low k h in omega arith)
    ∙ ap f (let r = row_yes k h in let c = col_yes k h in omega arith))
    (λ e _. sym (out e)) refl

-- no key out of the size
abbrev pub Within : ℕ → (ℕ → Bool) → Type 0
Within z f = (k : ℕ) → k < 104 → key_in z k ≡ false → f k ≡ false

pub told_hidden : (f : ℕ → Bool) (z k : ℕ) → k < 104 → Within z f → hidden (samples_of f) z k ≡ (ltb (col_of k) 12 && f (special k))
unfolding hidden
told_hidden f z k h ok = let l = special_low k h in ap (λ (b : Bool). ltb (col_of k) 12 && b) (told f z (special k) l (ok (special k) l))

pub eight : (f : ℕ → Bool) → length (samples_of f) ≡ 8
unfolding samples_of
eight f = table_length (word_of f) 8

low_word : (f : ℕ → Bool) (row : ℕ) → not (high (word_of f row)) ≡ true
unfolding high word_of
low_word f row = let g : ℕ → Bool = λ c. f (13 * row + c) in rw (bit_above g 13 0 13 (omega arith), bit_above g 14 0 13 (omega arith), bit_above g 15 0 13 (omega arith))

low_words : (f : ℕ → Bool) (n : ℕ) → all (λ x. not (high x)) (table (word_of f) n) ≡ true
unfolding table
low_words f zero = all_none _
low_words f (suc n) = all_append _ (table (word_of f) n) (word_of f n ∷ []) (low_words f n) (all_one _ (word_of f n) (low_word f n))

word_low : (f : ℕ → Bool) (c n : ℕ) → word_from f c n < 2 ^ n
unfolding word_from
word_low f c zero = omega arith
word_low f c (suc n) = let i = word_low f (suc c) n in let e : 2 ^ suc n ≡ 2 ^ n * 2 = pow-suc 2 n in one_more_lem (f c) (word_from f (suc c) n) (2 ^ n) (2 ^ suc n) i e
  where
    one_more_lem : (b : Bool) (w p q : ℕ) → w < p → q ≡ p * 2 → cond b 1 0 + 2 * w < q
    one_more_lem true w p q h e = omega arith
    one_more_lem false w p q h e = omega arith

u16_words : (f : ℕ → Bool) (n : ℕ) → all (λ x. ltb x 0x10000) (table (word_of f) n) ≡ true
unfolding table word_of
u16_words f zero = all_none _
u16_words f (suc n) =
    let l : word_of f n < 8192 = word_low (λ c. f (13 * n + c)) 0 13 in
    all_append _ (table (word_of f) n) (word_of f n ∷ []) (u16_words f n) (all_one _ (word_of f n) (lt-ltb (word_of f n) 0x10000 (omega arith)))

pub u16s : (f : ℕ → Bool) → all (λ x. ltb x 0x10000) (samples_of f) ≡ true
unfolding samples_of
u16s f = u16_words f 8

pub narrow : (f : ℕ → Bool) → all (λ x. not (high x)) (samples_of f) ≡ true
unfolding samples_of
narrow f = low_words f 8
