-- THE GROUP READER FOR C: what the toolchain makes of the contracts in src/lib.rt is what the calls by value give, each allows one outcome, and they ask nothing of
-- the trim key's code, the codes, the place and the buffer.
--
--    group_source, stretch_source, groups_source
--    group_determined, stretch_determined, groups_determined
--    group_total, stretch_total, groups_total
-- Assumes nothing.
use mathlib.Core.Path.{◌≡◌, sym, ◌∙◌}
use contract.Lifetimes.{Lfts}
use denote.Triple.Clauses.{AtExit}
use borrow.Fn.Kinds.{Dens, ended_of}
use Rattle.undo.specs.Stands.{stands}
use Rattle.undo.specs.Walk.{walk_call, walk_buffer}
use Rattle.groups.specs.declared.Standing.{Standing}
use Rattle.groups.specs.declared.Part.{Part}
use Rattle.groups.specs.declared.Handed.{Handed}
use Rattle.groups.specs.Told.{of_stand, part_of, of_walked}
use Rattle.groups.proofs.panel_group_value.Kinds as group-kinds
use Rattle.groups.proofs.panel_group_value.Reads as asks
use Rattle.groups.proofs.panel_stretch_part.Kinds as stretch-kinds
use Rattle.groups.proofs.panel_stretch_part.Reads as stretches
use Rattle.groups.proofs.panel_groups_value.Kinds as groups-kinds
use Rattle.groups.proofs.panel_groups_value.Reads as walks

pub group_source : (κs : Lfts 1) (a : Dens κs group-kinds.ps) (x : Standing) (e : AtExit (ended_of 1 group-kinds.ps group-kinds.r) κs)
    → asks.Post κs a x e → x ≡ of_stand (stands a.0 a.1.0.now a.1.1.0)
group_source κs a x e p = p

pub stretch_source : (κs : Lfts 1) (a : Dens κs stretch-kinds.ps) (x : Part) (e : AtExit (ended_of 1 stretch-kinds.ps stretch-kinds.r) κs)
    → stretches.Post κs a x e → x ≡ part_of (stands a.0 a.1.0.now a.1.1.0)
stretch_source κs a x e p = p

pub groups_source : (κs : Lfts 2) (a : Dens κs groups-kinds.ps) (x : Handed) (e : AtExit (ended_of 2 groups-kinds.ps groups-kinds.r) κs)
    → walks.Post κs a x e
    → (x ≡ of_walked (walk_call a.0 a.1.0.now)) × (e.1.1.0.now ≡ walk_buffer a.0 a.1.0.now a.1.1.0.now)
groups_source κs a x e p = p

pub group_determined : (κs : Lfts 1) (a : Dens κs group-kinds.ps) (x y : Standing) (e f : AtExit (ended_of 1 group-kinds.ps group-kinds.r) κs)
    → asks.Post κs a x e → asks.Post κs a y f → x ≡ y
group_determined κs a x y e f p q = p ∙ sym q

pub stretch_determined : (κs : Lfts 1) (a : Dens κs stretch-kinds.ps) (x y : Part) (e f : AtExit (ended_of 1 stretch-kinds.ps stretch-kinds.r) κs)
    → stretches.Post κs a x e → stretches.Post κs a y f → x ≡ y
stretch_determined κs a x y e f p q = p ∙ sym q

-- of what is lent, the buffer alone can be altered
pub groups_determined : (κs : Lfts 2) (a : Dens κs groups-kinds.ps) (x y : Handed) (e f : AtExit (ended_of 2 groups-kinds.ps groups-kinds.r) κs)
    → walks.Post κs a x e → walks.Post κs a y f → (x ≡ y) × (e.1.1.0.now ≡ f.1.1.0.now)
groups_determined κs a x y e f p q = (p.0 ∙ sym q.0, p.1 ∙ sym q.1)

pub group_total : (κs : Lfts 1) (a : Dens κs group-kinds.ps) → asks.Pre κs a
group_total κs a = tt

pub stretch_total : (κs : Lfts 1) (a : Dens κs stretch-kinds.ps) → stretches.Pre κs a
stretch_total κs a = tt

pub groups_total : (κs : Lfts 2) (a : Dens κs groups-kinds.ps) → walks.Pre κs a
groups_total κs a = tt
