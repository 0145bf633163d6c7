-- `picture::all_read` meets its contract: the marks, one after the other.
use mathlib.Core.Path.{◌≡◌, sym, ◌∙◌}
use mathlib.Core.Bool.{false, ◌&&◌}
use lib.ListN.{get_or}
use Rattle.picture.proofs.Laws.{read_in_turn}
use Rattle.picture.proofs.all_read.Goals as goal
use Rattle.picture.proofs.all_read.Goals.{then-seen, else-seen, then-seen-2, else-seen-2}

pub returns-then-seen-3 : goal.returns-then-seen-3
returns-then-seen-3 c =
    let s = c.args.seen in
    let two : c.if-seen.value ≡ (get_or s 0 false && get_or s 1 false) =
    elim c.if-seen.branch [ then-seen w ↦ rw w.if-seen.true w.value-is | else-seen w ↦ rw w.if-seen.false (w.value-is ∙ w.if-seen.false) ] in
    let three : c.if-seen-2.value ≡ (c.if-seen.value && get_or s 2 false) =
    elim c.if-seen-2.branch [ then-seen-2 w ↦ rw w.if-seen-2.true w.value-is | else-seen-2 w ↦ rw w.if-seen-2.false (w.value-is ∙ w.if-seen-2.false) ] in
    rw (read_in_turn s, sym two, sym three, c.if-seen-3.true)

pub returns-else-seen-3 : goal.returns-else-seen-3
returns-else-seen-3 c =
    let s = c.args.seen in
    let two : c.if-seen.value ≡ (get_or s 0 false && get_or s 1 false) =
    elim c.if-seen.branch [ then-seen w ↦ rw w.if-seen.true w.value-is | else-seen w ↦ rw w.if-seen.false (w.value-is ∙ w.if-seen.false) ] in
    let three : c.if-seen-2.value ≡ (c.if-seen.value && get_or s 2 false) =
    elim c.if-seen-2.branch [ then-seen-2 w ↦ rw w.if-seen-2.true w.value-is | else-seen-2 w ↦ rw w.if-seen-2.false (w.value-is ∙ w.if-seen-2.false) ] in
    rw (read_in_turn s, sym two, sym three, c.if-seen-3.false)
