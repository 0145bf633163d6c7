-- `pins::Pins::clear` meets its contract. The loop's invariant: the pins so far are cleared as the definition says, and the others are as they were.
use mathlib.Core.Path.{◌≡◌}
use mathlib.Core.Bool.{false}
use Rattle.words.specs.Words.{◌if◌, ◌else◌}
use Rattle.words.proofs.Tables.{replaced}
use Rattle.pins.specs.Rules as rule
use Rattle.pins.specs.Pins as part
use Rattle.pins.proofs.Pins.clear.Given as goal

abbrev pub invariant-loop-pin : goal.invariant-loop-pin
invariant-loop-pin l =
    let p = l.initial.self in
    l.self ≡ part.pins p.kept (replaced (λ i. false if rule.clears l.address l.b i else part.flag_in p.edge i) l.pin p.edge) p.level p.sampled
