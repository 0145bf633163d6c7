-- `access::fill_shown` meets its contract: a run that is at hand is given, and any other is read byte for byte.
use Prim.Native.Nat.{ℕ, ◌-◌}
use native.Mathlib.Omega.{arith}
use mathlib.Core.Path.{sym, ap, ◌∙◌}
use mathlib.Core.List.{List}
use lib.ListN.{length}
use Rattle.registers.proofs.Laws.{run_from, run_to}
use Rattle.access.specs.Pins.{items}
use Rattle.access.proofs.Pins.{kept_given, kept_room, edge_given}
use Rattle.access.proofs.fill_shown.Goals as goal

pub give-requires : goal.give-requires
give-requires c =
    let a = c.args in
    let room = kept_room a.m.now a.pins.now (length a.out.now) a.first (sym c.is_kept_run.ensures ∙ c.if-is_kept_run.true) in
    omega (arith, room, c.place.ensures)

pub returns-then-is_kept_run : goal.returns-then-is_kept_run
returns-then-is_kept_run c =
    let a = c.args in
    let n = length a.out.now in
    c.give.ensures ∙ ap (λ (p : ℕ). items a.pins.now.kept p n) c.place.ensures
    ∙ kept_given a.m.now a.pins.now n a.first (sym c.is_kept_run.ensures ∙ c.if-is_kept_run.true)

pub returns-then-is_run_in : goal.returns-then-is_run_in
returns-then-is_run_in c =
    let a = c.args in
    let n = length a.out.now in
    let run = sym c.is_run_in.ensures ∙ c.if-is_run_in.true in
    c.give-then-is_run_in.ensures ∙ ap (λ (l : List ℕ). items l (a.first - 0xD6) n) c.edges.ensures
    ∙ edge_given a.m.now a.pins.now n a.first (run_from 0xD6 0xDC a.first n run) (run_to 0xD6 0xDC a.first n run)
