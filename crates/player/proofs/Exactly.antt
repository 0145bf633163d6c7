-- THE PLAYER FOR C: what the toolchain makes of its contract in src/lib.rt is what the player by value gives, it allows one outcome, and it asks nothing of the bytes.
--
--    play_source, play_determined, play_total
-- Assumes nothing.
use mathlib.Core.Path.{◌≡◌, sym, ◌∙◌}
use contract.Lifetimes.{Lfts}
use denote.Triple.Clauses.{AtExit}
use borrow.Fn.Kinds.{Dens, ended_of}
use Rattle.calls.specs.declared.Done.{Done}
use Rattle.carry.specs.Player.{play_call}
use Rattle.player.proofs.panel_play_value.Kinds as play-kinds
use Rattle.player.proofs.panel_play_value.Reads as plays

pub play_source : (κs : Lfts 1) (a : Dens κs play-kinds.ps) (x : Done) (e : AtExit (ended_of 1 play-kinds.ps play-kinds.r) κs)
    → plays.Post κs a x e → x ≡ play_call a.0.now
play_source κs a x e p = p

pub play_determined : (κs : Lfts 1) (a : Dens κs play-kinds.ps) (x y : Done) (e f : AtExit (ended_of 1 play-kinds.ps play-kinds.r) κs)
    → plays.Post κs a x e → plays.Post κs a y f → x ≡ y
play_determined κs a x y e f p q = p ∙ sym q

pub play_total : (κs : Lfts 1) (a : Dens κs play-kinds.ps) → plays.Pre κs a
play_total κs a = tt
