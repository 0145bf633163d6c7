-- `pins::Pins::clear` meets its contract, by its invariant.
use Prim.Native.Nat.{ℕ, ◌<◌}
use mathlib.Core.Path.{◌≡◌, sym, ap, ◌∙◌}
use mathlib.Core.Bool.{Bool, false}
use mathlib.Core.List.{List}
use native.Mathlib.Omega.{arith}
use lib.ListN.{length, set}
use borrow.Author.Rules.{rules}
use Rattle.words.specs.Words.{◌if◌, ◌else◌}
use Rattle.words.proofs.Tables.{replaced, replaced_none, replaced_all}
use Rattle.pins.specs.declared.Pins.{Pins}
use Rattle.pins.specs.Rules as rule
use Rattle.pins.specs.Pins as part
use Rattle.pins.proofs.Laws.{clear_next}
use Rattle.pins.proofs.Pins.clear.Goals as goal

with_edge : Pins → List Bool → Pins
with_edge p e = part.pins p.kept e p.level p.sampled

pub loop-pin-init : goal.loop-pin-init
unfolding with_edge
loop-pin-init c = ap (with_edge c.args.self.now) (sym (replaced_none _ _))

pub loop-pin-preserved : goal.loop-pin-preserved
unfolding with_edge
loop-pin-preserved c =
    let a = c.args in
    let p = a.self.now in
    let k = c.loop-pin.pin in
    let h : k < length p.edge = search rules in
    c.clear_pin.ensures
    ∙ ap (λ (q : Pins). with_edge q (set q.edge k false if rule.clears a.address a.b k else q.edge)) c.loop-pin.invariant
    ∙ ap (with_edge p) (clear_next p.edge a.address a.b k h)

pub returns : goal.returns
unfolding with_edge part.cleared
returns c =
    let a = c.args in
    let p = a.self.now in
    let l = c.loop-pin in
    let f : ℕ → Bool = λ i. false if rule.clears a.address a.b i else part.flag_in p.edge i in
    let long : length p.edge ≡ 19 = search rules in
    let all : l.pin ≡ 19 = omega arith in
    l.invariant ∙ ap (with_edge p) (ap (λ (n : ℕ). replaced f n p.edge) all ∙ replaced_all f p.edge 19 long)
