-- The number of a list by itself: how far its codes are good, and agree, decides.
--
--    trim_no               the trim key's code is no press of a key
--    code_no, change_no    some code is no code; some code doesn't agree when its turn comes
--    list_yes              all do
-- Assumes nothing.
use Prim.Native.Nat.{ℕ, ◌<◌, ◌≤◌}
use mathlib.Core.Path.{◌≡◌, sym, ap, ◌∙◌}
use mathlib.Core.Bool.{Bool, true, false, not, ◌&&◌}
use mathlib.Core.List.{List}
use lib.ListN.{length}
use lib.Dec.{ltb}
use borrow.Author.Tests.{lt-ltb, le-ltb, not-false}
use Rattle.words.specs.Words.{all}
use Rattle.numbers.specs.Numbers.{number_of, done, bad_code, bad_change}
use Rattle.numbers.proofs.Laws.{line_yes, line_no, lines_end}
use Rattle.keys.specs.Keys.{is_code}
use Rattle.codes.specs.Codes.{none_down, leading, agreeing}
use Rattle.codes.proofs.Laws.{leading_all, agreeing_legal}
use Rattle.undo.specs.Stands.{is_trim}
use Rattle.undo.specs.Walk.{walk_lines}

module _ (trim : ℕ) (s : List ℕ) where
  pub trim_no : is_trim trim ≡ false → bad_code ≡ number_of (walk_lines trim s)
  unfolding walk_lines
  trim_no e = sym (line_yes _ bad_code _ (ap (λ (b : Bool). not (b && all is_code s)) e))

  module _ (trim-is : is_trim trim ≡ true) where
    -- 23's line, by the codes alone
    code_line : (b : Bool) → ltb (leading is_code s) (length s) ≡ b → not (is_trim trim && all is_code s) ≡ b
    code_line b e = ap (λ (t : Bool). not (t && all is_code s)) trim-is ∙ sym (leading_all is_code s) ∙ e

    pub code_no : leading is_code s < length s → bad_code ≡ number_of (walk_lines trim s)
    unfolding walk_lines
    code_no h = sym (line_yes _ bad_code _ (code_line true (lt-ltb _ _ h)))

    module _ (good : length s ≤ leading is_code s) where
      all_good : all is_code s ≡ true
      all_good = not-false (all is_code s) (sym (leading_all is_code s) ∙ le-ltb _ _ good)

      pub change_no : agreeing none_down s < length s → bad_change ≡ number_of (walk_lines trim s)
      unfolding walk_lines
      change_no h = sym (line_no _ bad_code _ (code_line false (le-ltb _ _ good)) ∙ line_yes _ bad_change _ (sym (agreeing_legal s all_good) ∙ lt-ltb _ _ h))

      pub list_yes : length s ≤ agreeing none_down s → done ≡ number_of (walk_lines trim s)
      unfolding walk_lines
      list_yes h =
          sym (line_no _ bad_code _ (code_line false (le-ltb _ _ good)) ∙ line_no _ bad_change _ (sym (agreeing_legal s all_good) ∙ le-ltb _ _ h) ∙ lines_end)
