-- `pins::Pins::sample` meets its contract. The loop's invariant: the edges and levels of the pins so far are those of the definition, and the others are as they were.
use mathlib.Core.Path.{◌≡◌}
use Rattle.words.specs.Words.{bit}
use Rattle.words.proofs.Tables.{replaced}
use Rattle.pins.specs.Pins as part
use Rattle.pins.proofs.Pins.sample.Given as goal

abbrev pub invariant-loop-pin : goal.invariant-loop-pin
invariant-loop-pin l =
    let p = l.initial.self in
    l.self ≡ part.pins p.kept (replaced (part.edged p l.size l.x) l.pin p.edge) (replaced (λ i. bit i l.x) l.pin p.level) p.sampled
