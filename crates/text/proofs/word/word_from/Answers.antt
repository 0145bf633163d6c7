-- `word::word_from` meets its contract: the word begins behind the blanks and ends before the next one.
use Prim.Native.Nat.{ℕ}
use mathlib.Core.Path.{ap, ◌∙◌}
use Rattle.text.specs.declared.word.Word.{Word}
use Rattle.text.specs.Line.{word_at, word_from}
use borrow.Author.Rules.{rules}
use Rattle.text.proofs.word.word_from.Goals as goal

pub returns : goal.returns
unfolding word_at word_from
returns c =
    let begins = c.first-start in
    let ends = c.first-end in
    (ap {B = Word} (λ (e : ℕ). record { start = begins.result; end = e }) ends.ensures.0 ∙ ap (word_at _) begins.ensures.0, search rules, search rules, search rules)
