-- `Page::text` meets its contract. The loop's invariant: the page with the rest of the text is the page with all of it.
use Rattle.std.proofs.Common.{◌≡◌, ◌+◌, drop}
use Rattle.text.specs.Pages.{wrote}
use Rattle.text.proofs.page.Page.text.Given as goal

abbrev pub invariant-loop-byte : goal.invariant-loop-byte
invariant-loop-byte l = (l.self.at ≡ l.initial.self.at + l.byte-index) × (wrote l.initial.self l.words ≡ wrote l.self (drop l.byte-index l.words))
