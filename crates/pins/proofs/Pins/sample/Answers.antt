-- `pins::Pins::sample` meets its contract, by its invariant.
use Prim.Native.Nat.{ℕ, ◌<◌}
use mathlib.Core.Path.{◌≡◌, refl, ap, ◌∙◌}
use mathlib.Core.Bool.{Bool, true, false, ◌&&◌}
use native.Mathlib.Omega.{arith}
use lib.ListN.{length, get_or, set}
use borrow.Author.Rules.{rules}
use Rattle.words.specs.Words.{◌if◌, ◌else◌, bit, table}
use Rattle.words.proofs.Tables.{replaced, replaced_at, replaced_next, replaced_all}
use Rattle.pins.specs.declared.Pins.{Pins}
use Rattle.pins.specs.Rules as rule
use Rattle.pins.specs.Pins as part
use Rattle.pins.proofs.Laws.{sample_next}
use Rattle.pins.proofs.Pins.sample.Goals as goal

pub loop-pin-init : goal.loop-pin-init
unfolding replaced table
loop-pin-init c = refl

pub loop-pin-preserved : goal.loop-pin-preserved
unfolding bit
loop-pin-preserved c =
    let a = c.args in
    let p = a.self.now in
    let l = c.loop-pin in
    let k = l.pin in
    let new = bit k a.x in
    let h : k < length p.level = search rules in
    let g : k < length p.edge = search rules in
    let old = replaced_at (λ i. bit i a.x) p.level k h false in
    let edge = sample_next p a.size a.x k g (get_or (replaced (λ i. bit i a.x) k p.level) k false) old in
    let level = replaced_next (λ i. bit i a.x) p.level k h in
    c.sample_pin.ensures
    ∙ ap (λ (q : Pins). part.pins q.kept (set q.edge k true if (q.sampled && rule.edge (part.kept_in q.kept) a.size k (get_or q.level k false) new) else q.edge) (set q.level k new) q.sampled) l.invariant
    ∙ (λ i. part.pins p.kept (edge i) (level i) p.sampled)

pub returns : goal.returns
unfolding part.sampled
returns c =
    let a = c.args in
    let p = a.self.now in
    let l = c.loop-pin in
    let wide : length p.level ≡ 19 = search rules in
    let long : length p.edge ≡ 19 = search rules in
    let all : l.pin ≡ 19 = omega arith in
    let f = part.edged p a.size a.x in
    let g : ℕ → Bool = λ i. bit i a.x in
    let edge = ap (λ (n : ℕ). replaced f n p.edge) all ∙ replaced_all f p.edge 19 long in
    let level = ap (λ (n : ℕ). replaced g n p.level) all ∙ replaced_all g p.level 19 wide in
    ap (λ (q : Pins). part.pins q.kept q.edge q.level true) l.invariant ∙ (λ i. part.pins p.kept (edge i) (level i) true)
