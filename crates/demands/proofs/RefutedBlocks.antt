-- NO WRONG BLOCK OF specs/WrongBlocks.antt MEETS DEMAND 1 WITH ITS EXCEPTION: for each a short block at which it is seen.
--
--    start, one, other, bad     the state, and looks: a key pressed, a second one, and samples with bit 13
--    told b                     what is seen of a block: its number, how many looks were done, how many codes wait
--    Found, found               what is found of each, and what was to be found: ALL COMPUTED
--    rolling_back_refuted, ..   no wrong block meets the demand
-- Assumes nothing.
use Prim.Native.Nat.{ℕ}
use mathlib.Core.Path.{◌≡◌, refl, sym, ap, ◌∙◌}
use mathlib.Core.Bool.{false}
use mathlib.Core.List.{List, [], ◌∷◌, ◌++◌}
use Rattle.state.specs.declared.Module.{Module}
use Rattle.state.specs.Typed.{Typed}
use Rattle.demands.specs.Machine.{Call, write, after}
use Rattle.demands.specs.Blocks.{Block, Demand1Wide}
use Rattle.demands.specs.Ours.{ours, wide}
use Rattle.demands.specs.Sessions.{same}
use Rattle.demands.specs.WrongBlocks.{with, restored, rolling_back, all_made, going_on, all_or_none, judging_first, over_counted, counting_one, made_first, late_length, newest, newest_only, hushed_up, mute}
use Rattle.demands.proofs.Opened.{opened}
use Rattle.demands.proofs.Failing.{differ}
use Rattle.demands.proofs.Reached.{reached_typed}
use Rattle.demands.proofs.Blocks.{blocks_only}
use Rattle.demands.proofs.MeetsBlocks.{ours_blocks}

-- bounce 1
abbrev settings : List Call
settings = write 0x02 (1 ∷ []) ∷ []

abbrev start : Module
start = after ours settings

start_typed : Typed start
unfolding opened
start_typed = reached_typed settings refl

-- a look with these samples of rows 0 and 1, the other rows open
abbrev rows : ℕ → ℕ → List ℕ
rows row0 row1 = row0 ∷ row1 ∷ 0 ∷ 0 ∷ 0 ∷ 0 ∷ 0 ∷ 0 ∷ []

abbrev one : List ℕ
one = rows 0 0x0002

abbrev other : List ℕ
other = rows 0 0x0003

abbrev bad : List ℕ
bad = rows 0x2000 0

abbrev told : Block Module → List ℕ
told b = b.number ∷ b.done ∷ b.next.count ∷ []

-- these blocks, beside ours
abbrev BlockWrong : (Module → List ℕ → Block Module) → List ℕ → List ℕ → List ℕ → Type 0
BlockWrong f s found wanted = (told (f start s) ≡ found) × (told (wide.looks start s) ≡ wanted) × (same found wanted ≡ false)

record Found : Type 0 where
  rolling_back : BlockWrong restored (one ++ bad ++ other) (2 ∷ 1 ∷ 0 ∷ []) (2 ∷ 1 ∷ 1 ∷ [])
  going_on : BlockWrong all_made (one ++ bad ++ other) (2 ∷ 2 ∷ 2 ∷ []) (2 ∷ 1 ∷ 1 ∷ [])
  judging_first : BlockWrong all_or_none (one ++ bad ++ other) (2 ∷ 0 ∷ 0 ∷ []) (2 ∷ 1 ∷ 1 ∷ [])
  counting_one : BlockWrong over_counted (one ++ bad ++ other) (2 ∷ 2 ∷ 1 ∷ []) (2 ∷ 1 ∷ 1 ∷ [])
  late_length : BlockWrong made_first (one ++ (0 ∷ [])) (1 ∷ 1 ∷ 1 ∷ []) (1 ∷ 0 ∷ 0 ∷ [])
  newest_only : BlockWrong newest (one ++ rows 0 0) (0 ∷ 2 ∷ 0 ∷ []) (0 ∷ 2 ∷ 2 ∷ [])
  mute : BlockWrong hushed_up (one ++ bad ++ other) (0 ∷ 1 ∷ 1 ∷ []) (2 ∷ 1 ∷ 1 ∷ [])

found : Found
unfolding opened
found =
    record {
      rolling_back = (refl, refl, refl);
      going_on = (refl, refl, refl);
      judging_first = (refl, refl, refl);
      counting_one = (refl, refl, refl);
      late_length = (refl, refl, refl);
      newest_only = (refl, refl, refl);
      mute = (refl, refl, refl);
    }

no_block : (f : Module → List ℕ → Block Module) (s found wanted : List ℕ) → BlockWrong f s found wanted → Demand1Wide (with f) → ⊥
no_block f s found wanted w d = differ found wanted w.2 (sym w.0 ∙ ap told (blocks_only ours f wide.looks d.blocks ours_blocks start start_typed s) ∙ w.1)

-- "keep the earlier ones"
pub rolling_back_refuted : Demand1Wide rolling_back → ⊥
rolling_back_refuted = no_block restored _ _ _ found.rolling_back

-- "At a look that is declined stop"
pub going_on_refuted : Demand1Wide going_on → ⊥
going_on_refuted = no_block all_made _ _ _ found.going_on

-- "give what single looks give, in order"
pub judging_first_refuted : Demand1Wide judging_first → ⊥
judging_first_refuted = no_block all_or_none _ _ _ found.judging_first

-- "how many were done"
pub counting_one_refuted : Demand1Wide counting_one → ⊥
counting_one_refuted = no_block over_counted _ _ _ found.counting_one

-- "1 if the length isn't a multiple of eight, with nothing done"
pub late_length_refuted : Demand1Wide late_length → ⊥
late_length_refuted = no_block made_first _ _ _ found.late_length

-- "give what single looks give, in order"
pub newest_only_refuted : Demand1Wide newest_only → ⊥
newest_only_refuted = no_block newest _ _ _ found.newest_only

-- "give its number"
pub mute_refuted : Demand1Wide mute → ⊥
mute_refuted = no_block hushed_up _ _ _ found.mute
