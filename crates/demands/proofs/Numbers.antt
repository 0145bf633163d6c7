-- THE NUMBER OF A LIST OF LINES IS THAT OF THE TABLE, if each line's Bool decides its row's proposition.
--
--    Decides b P                 the Bool b is true exactly when P holds
--    Joined lines rs             the lines and the rows have the same numbers, and each Bool decides its proposition
--    lines_first                 THE GENERAL LAW: the number of the lines is that of the first row that holds
--    first_only                  and no other number is
--    refused                     what a Bool decides that is denied
--    decide_true, decide_eq, decide_ne, decide_lt    what a flag and the comparisons decide
-- Assumes nothing.
use Prim.Native.Nat.{ℕ, ◌<◌}
use mathlib.Core.Path.{◌≡◌, refl, sym, ◌∙◌}
use mathlib.Core.Logic.{inl, inr}
use mathlib.Core.Bool.{Bool, true, false, not}
use mathlib.Core.List.{List, [], ◌∷◌}
use borrow.Author.Tests.{eqb-true, eqb-false, lt-ltb, ltb-true, not-true, not-false}
use lib.Dec.{eqb, ltb}
use Rattle.words.proofs.Laws.{true_false}
use Rattle.numbers.specs.Numbers.{Line, ◌gives◌, number_of}
use Rattle.demands.specs.Table.{Rule, ◌⇒◌, First}

-- ---- lines and rules
pub record Decides (b : Bool) (P : Type 0) : Type 0 where
  pub holds : b ≡ true → P
  pub fails : b ≡ false → P → ⊥

infixr 60 ◌then◌
pub data Joined : List Line → List Rule → Type 1 where
  none : Joined [] []
  ◌then◌ : {b : Bool} {n : ℕ} {lines : List Line} {P : Type 0} {rs : List Rule} → Decides b P → Joined lines rs → Joined ((b gives n) ∷ lines) ((P ⇒ n) ∷ rs)

first_row : (b : Bool) (n : ℕ) (lines : List Line) (P : Type 0) (rs : List Rule) → Decides b P → First rs (number_of lines) → First ((P ⇒ n) ∷ rs) (number_of ((b gives n) ∷ lines))
unfolding First number_of
first_row true n lines P rs d rest = inl (d.holds refl, refl)
first_row false n lines P rs d rest = inr (d.fails refl, rest)

-- "A number is given exactly when its line is true and no line before it in this order is."
pub lines_first : {lines : List Line} {rs : List Rule} → Joined lines rs → First rs (number_of lines)
unfolding First number_of
lines_first none = refl
lines_first (◌then◌ {b = b} {n = n} {lines = lines} {P = P} {rs = rs} d joined) = first_row b n lines P rs d (lines_first joined)

pub first_only : (rs : List Rule) (n k : ℕ) → First rs n → First rs k → n ≡ k
unfolding First
first_only [] n k e f = e ∙ sym f
first_only ((P ⇒ m) ∷ rs) n k (inl g) (inl h) = g.1 ∙ sym h.1
first_only ((P ⇒ m) ∷ rs) n k (inl g) (inr h) = absurd (h.0 g.0)
first_only ((P ⇒ m) ∷ rs) n k (inr g) (inl h) = absurd (g.0 h.0)
first_only ((P ⇒ m) ∷ rs) n k (inr g) (inr h) = first_only rs n k g.1 h.1

-- ---- plain tests
pub refused : (b : Bool) {P : Type 0} → (b ≡ false → P) → (b ≡ true → P → ⊥) → Decides (not b) P
refused b h f = record { holds = λ e. h (not-true b e); fails = λ e. f (not-false b e) }

pub decide_true : (b : Bool) → Decides b (b ≡ true)
decide_true b = record { holds = λ e. e; fails = λ e h. true_false (sym h ∙ e) }

pub decide_eq : (n m : ℕ) → Decides (eqb n m) (n ≡ m)
decide_eq n m = record { holds = eqb-true n m; fails = eqb-false n m }

pub decide_ne : (n m : ℕ) → Decides (not (eqb n m)) (n ≡ m → ⊥)
decide_ne n m = refused (eqb n m) (eqb-false n m) (λ e h. h (eqb-true n m e))

pub decide_lt : (n m : ℕ) → Decides (ltb n m) (n < m)
decide_lt n m = record { holds = ltb-true n m; fails = λ e h. true_false (sym (lt-ltb n m h) ∙ e) }
