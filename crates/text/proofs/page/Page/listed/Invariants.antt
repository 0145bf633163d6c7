-- `Page::listed` meets its contract. The loop's invariant: the page with the rest of the bytes is the page with all of them.
use Rattle.std.proofs.Common.{◌≡◌, ◌+◌, ◌*◌, drop}
use Rattle.text.specs.Pages.{listed, wrote}
use Rattle.text.proofs.page.Page.listed.Given as goal

abbrev pub invariant-loop-byte : goal.invariant-loop-byte
invariant-loop-byte l = (l.self.at ≡ l.initial.self.at + l.byte-index * 3) × (wrote l.initial.self (listed l.bytes) ≡ wrote l.self (listed (drop l.byte-index l.bytes)))
