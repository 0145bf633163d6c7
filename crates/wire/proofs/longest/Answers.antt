use Prim.Native.Nat.{◌-◌}
use native.Mathlib.Omega.{arith}
use mathlib.Core.Path.{◌≡◌, sym, ap, ◌∙◌}
use borrow.Author.Rules.{rules}
use Rattle.registers.specs.declared.Access.TheVariants.{Read}
use Rattle.registers.specs.Registers.{allowed}
use Rattle.wire.proofs.Laws.{longest_begin, readable_end, readable_none, readable_some}
use Rattle.wire.proofs.longest.Goals as goal

pub loop-n-init : goal.loop-n-init
loop-n-init c = longest_begin _

pub returns-then-not-is_allowed : goal.returns-then-not-is_allowed
returns-then-not-is_allowed c =
    let l = c.loop-n in
    let e = sym (ap (allowed Read) c.register_at.ensures) ∙ sym c.if-not-is_allowed.ensures in
    (readable_none _ l.address l.n (32 - l.n) l.invariant e, search rules)

pub loop-n-preserved : goal.loop-n-preserved
loop-n-preserved c =
    let l = c.loop-n in
    let e = sym (ap (allowed Read) c.register_at.ensures) ∙ sym c.if-not-is_allowed.ensures in
    readable_some _ l.address l.n l.invariant e (omega arith) _ c.next_address-address.ensures

pub returns : goal.returns
returns c =
    let l = c.loop-n in
    let all : 32 ≡ l.n = omega arith in
    (all ∙ readable_end _ l.address l.n (32 - l.n) l.invariant (omega arith), search rules)
