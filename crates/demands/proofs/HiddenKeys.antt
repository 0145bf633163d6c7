-- THE DIRECT KEY HIDES ITS ROW, as a caller sees it.
--
--    covered_held    on a machine that meets demand 2, a look with a row's special function contact closed leaves the row's other keys as they were held
-- Assumes nothing.
use Prim.Native.Nat.{ℕ, ◌+◌, ◌*◌, ◌/◌, ◌<◌, ◌≤◌}
use native.Mathlib.Omega.{arith}
use mathlib.Core.Path.{◌≡◌, refl, sym, ap, ◌∙◌}
use mathlib.Core.Bool.{true}
use mathlib.Core.List.{List, ◌∷◌}
use lib.ListN.{get_or}
use Rattle.words.specs.Words.{all, bit}
use Rattle.words.proofs.Laws.{all_cons}
use Rattle.sheet.specs.Sheet as sheet
use Rattle.sheet.specs.Sheet.{looked}
use Rattle.sheet.proofs.HiddenKeys.{hidden_keeps, covered_row}
use Rattle.demands.specs.Machine.{Call, look, held, Machine, after, happened, noted, done, fits}
use Rattle.demands.specs.Demands.{Demand2}

-- "a key with none [no sample] in a look doesn't change at it"
pub covered_held : (M : Machine) → Demand2 M → (s : List ℕ) (cs : List Call) → all fits cs ≡ true → (M.does (after M cs) (look s)).number ≡ 0
    → (row col : ℕ) → row ≤ 7 → row < sheet.size (done M cs) / 16 → bit 12 (get_or s row 0) ≡ true → col < 12
    → (M.does (after M (look s ∷ cs)) (held row col)).answer ≡ (M.does (after M cs) (held row col)).answer
unfolding done happened noted fits
covered_held M d s cs fit ok row col r l e c =
    d.keys (look s ∷ cs) (all_cons fits (look s) cs here fit) row col r (omega arith)
    ∙ ap (sheet.held (13 * row + col)) made
    ∙ (hidden_keeps s (done M cs) (13 * row + col) (covered_row s (done M cs) row col (omega arith) l c ∙ e)).1.0
    ∙ sym (d.keys cs fit row col r (omega arith))
  where
    here : fits (look s) ≡ true
    here = refl

    made : done M (look s ∷ cs) ≡ looked s ∷ done M cs
    made = rw ok refl
