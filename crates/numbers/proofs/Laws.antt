-- The number of a list of lines.
--
--    given, only                    `number_of` is the table's sentence, both ways
--    line_yes, line_no, lines_end   the first line decides; it is passed; none is left
--    declining l                    no line of the list l gives the number of a call that is done; declining-both: nor does one of two lists
--    first_decides, rest_decides    of two lists the first declines the call; it passes the call on, and the rest decides
--    line_false                     a call that is done has passed each of its lines
--    lacks k l                      k is the number of no line of the list l, nor that of a call that is done; never-given: so they don't give it
--    refused, told_done             no refusal's number is that of a call that is done; a call that is told of as done was
--    number_one, told_one           two refusals have two numbers; two outcomes of a call, told of by one number, are one
--    err_first, ok_rest             of two lists the first declines the call, if what was told of it is a refusal; else the rest decides
-- Assumes nothing.
use Prim.Native.Nat.{ℕ}
use mathlib.Core.Path.{◌≡◌, refl, sym, ap, ◌∙◌}
use mathlib.Core.Logic.{inl, inr}
use mathlib.Core.Bool.{Bool, true, false, not, ◌&&◌, true≢false, false≢true, and-eq-true_iff}
use mathlib.Core.List.{List, [], ◌∷◌, ◌++◌}
use borrow.Author.Tests.{eqb-false, not-true}
use lib.Dec.{eqb}
use lib.ListN.{get_or}
use Rattle.std.specs.Prelude.{Result, Ok, Err}
use Rattle.numbers.specs.Numbers.{Line, ◌gives◌, number_of, Given, done}
use Rattle.numbers.specs.declared.Refusal.{Refusal}
use Rattle.numbers.specs.declared.Refusal.TheVariants.{NotEight, HighBits, NoBytes, TooMany, NotAllowed, BadSize, NoKey, Unsound, CutShort, NoRoom, BeyondEnd, BadCode, BadChange, InsideGroup, BadPins, Asleep}
use Rattle.numbers.specs.Refusals.{number, told}

-- the number is given
pub given : (l : List Line) → Given l (number_of l)
unfolding number_of Given
given [] = refl
given ((true gives n) ∷ l) = inl (refl, refl)
given ((false gives n) ∷ l) = inr (refl, given l)

-- and no other is
pub only : (l : List Line) (k : ℕ) → Given l k → k ≡ number_of l
unfolding number_of Given
only [] k g = g
only ((true gives n) ∷ l) k (inl g) = g.1
only ((true gives n) ∷ l) k (inr g) = absurd (true≢false g.0)
only ((false gives n) ∷ l) k (inl g) = absurd (false≢true g.0)
only ((false gives n) ∷ l) k (inr g) = only l k g.1

module _ (b : Bool) (n : ℕ) (l : List Line) where
  pub line_yes : b ≡ true → number_of ((b gives n) ∷ l) ≡ n
  unfolding number_of
  line_yes e = rw e

  pub line_no : b ≡ false → number_of ((b gives n) ∷ l) ≡ number_of l
  unfolding number_of
  line_no e = rw e

pub lines_end : number_of [] ≡ done
unfolding number_of
lines_end = refl

-- no line of the list gives the number of a call that is done
unfoldable pub declining : List Line → Bool
declining [] = true
declining ((b gives n) ∷ l) = not (eqb n done) && declining l

module _ (b : Bool) (n : ℕ) (l : List Line) (d : declining ((b gives n) ∷ l) ≡ true) where
  rest_declining : declining l ≡ true
  unfolding declining
  rest_declining = ((and-eq-true_iff (not (eqb n done)) (declining l)).0 d).1

  never_done : {A : Type 0} → n ≡ done → A
  unfolding declining
  never_done e = absurd (false≢true (rw e at d))

-- no line of two lists does, if no line of either does
pub declining_both : (k l : List Line) → declining k ≡ true → declining l ≡ true → declining (k ++ l) ≡ true
unfolding declining
declining_both [] l h g = g
declining_both ((b gives n) ∷ k) l h g =
    let p = (and-eq-true_iff (not (eqb n done)) (declining k)).0 h in
    (and-eq-true_iff (not (eqb n done)) (declining (k ++ l))).1 (p.0, declining_both k l p.1 g)

-- of two lists the first declines the call
pub first_decides : (k l : List Line) → (number_of k ≡ done → ⊥) → number_of (k ++ l) ≡ number_of k
unfolding number_of
first_decides [] l h = absurd (h refl)
first_decides ((true gives n) ∷ k) l h = refl
first_decides ((false gives n) ∷ k) l h = first_decides k l h

-- it passes the call on, and the rest decides
pub rest_decides : (k l : List Line) → declining k ≡ true → number_of k ≡ done → number_of (k ++ l) ≡ number_of l
unfolding number_of
rest_decides [] l d e = refl
rest_decides ((true gives n) ∷ k) l d e = never_done true n k d e
rest_decides ((false gives n) ∷ k) l d e = rest_decides k l (rest_declining false n k d) e

-- a call that is done has passed each of its lines
pub line_false : (k : List Line) (b : Bool) (n : ℕ) (l : List Line)
    → declining (k ++ (b gives n ∷ l)) ≡ true → number_of (k ++ (b gives n ∷ l)) ≡ done → b ≡ false
unfolding number_of
line_false [] true n l d e = never_done true n l d e
line_false [] false n l d e = refl
line_false ((true gives j) ∷ k) b n l d e = never_done true j (k ++ (b gives n ∷ l)) d e
line_false ((false gives j) ∷ k) b n l d e = line_false k b n l (rest_declining false j (k ++ (b gives n ∷ l)) d) e

-- no line of the list gives k, nor does a call that is done
unfoldable pub lacks : ℕ → List Line → Bool
lacks k [] = not (eqb done k)
lacks k ((b gives n) ∷ l) = not (eqb n k) && lacks k l

pub never_given : (k : ℕ) (l : List Line) → lacks k l ≡ true → number_of l ≡ k → ⊥
unfolding lacks number_of
never_given k [] h e = eqb-false done k (not-true (eqb done k) h) e
never_given k ((true gives n) ∷ l) h e = eqb-false n k (not-true (eqb n k) ((and-eq-true_iff (not (eqb n k)) (lacks k l)).0 h).0) e
never_given k ((false gives n) ∷ l) h e = never_given k l ((and-eq-true_iff (not (eqb n k)) (lacks k l)).0 h).1 e

-- no refusal has the number of a call that is done
pub refused : (r : Refusal) → number r ≡ done → ⊥
refused NotEight e = cc
refused HighBits e = cc
refused NoBytes e = cc
refused TooMany e = cc
refused NotAllowed e = cc
refused BadSize e = cc
refused NoKey e = cc
refused Unsound e = cc
refused CutShort e = cc
refused NoRoom e = cc
refused BeyondEnd e = cc
refused BadCode e = cc
refused BadChange e = cc
refused InsideGroup e = cc
refused BadPins e = cc
refused Asleep e = cc

-- a call that is told of as done was done
pub told_done : (x : Result Unit Refusal) → told x ≡ done → x ≡ Ok tt
told_done (Ok tt) e = refl
told_done (Err r) e = absurd (refused r e)

-- the refusals by their numbers; where there is none, the first stands for it
numbered : List Refusal
numbered =
    NotEight ∷ NotEight ∷ HighBits ∷ NoBytes ∷ TooMany ∷ NotAllowed ∷ BadSize ∷ NoKey ∷ Unsound
    ∷ NotEight ∷ NotEight ∷ NotEight ∷ NotEight ∷ NotEight ∷ NotEight ∷ NotEight ∷ NotEight ∷ NotEight ∷ NotEight ∷ NotEight
    ∷ CutShort ∷ NoRoom ∷ BeyondEnd ∷ BadCode ∷ BadChange ∷ InsideGroup ∷ BadPins ∷ Asleep ∷ []

number_back : (r : Refusal) → get_or numbered (number r) NotEight ≡ r
unfolding numbered
number_back NotEight = refl
number_back HighBits = refl
number_back NoBytes = refl
number_back TooMany = refl
number_back NotAllowed = refl
number_back BadSize = refl
number_back NoKey = refl
number_back Unsound = refl
number_back CutShort = refl
number_back NoRoom = refl
number_back BeyondEnd = refl
number_back BadCode = refl
number_back BadChange = refl
number_back InsideGroup = refl
number_back BadPins = refl
number_back Asleep = refl

-- two refusals have two numbers
pub number_one : (r s : Refusal) → number r ≡ number s → r ≡ s
number_one r s e = sym (number_back r) ∙ ap (λ (n : ℕ). get_or numbered n NotEight) e ∙ number_back s

-- two outcomes that are told of by one number are one
pub told_one : (x y : Result Unit Refusal) → told x ≡ told y → x ≡ y
told_one (Ok tt) y e = sym (told_done y (sym e))
told_one (Err r) (Ok tt) e = absurd (refused r e)
told_one (Err r) (Err s) e = ap Err (number_one r s e)

-- of two lists the first declines the call, by what was told of it; else the rest decides
pub err_first : (k l : List Line) (r : Refusal) → number r ≡ number_of k → number r ≡ number_of (k ++ l)
err_first k l r e = e ∙ sym (first_decides k l (λ z. refused r (e ∙ z)))

pub ok_rest : (k l : List Line) → declining k ≡ true → done ≡ number_of k → number_of l ≡ number_of (k ++ l)
ok_rest k l d e = sym (rest_decides k l d (sym e))
