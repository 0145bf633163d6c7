-- Laws of the picture.
--
--    nth_first, nth_later                 what a register shows of given codes
--    read_in_turn                         the marks, looked at one after the other
--    marked_all, marked_some              the fourth mark is set, and one before it
-- Assumes nothing.
use Prim.Native.Nat.{ℕ, zero, suc, ◌+◌, ◌-◌, ◌≤◌, ◌<◌}
use native.Mathlib.Numerals.{sub-one}
use native.Mathlib.Omega.{arith}
use mathlib.Core.Path.{◌≡◌, refl, sym}
use mathlib.Core.Bool.{Bool, true, false, ◌&&◌}
use mathlib.Core.List.{List, ◌∷◌}
use lib.ListN.{get_or, set}
use Rattle.std.proofs.Math.Bool.{and_assoc}
use Rattle.state.specs.declared.Module.{Module}
use Rattle.state.specs.Module.{forgotten, with_rsint, with_seen}
use Rattle.picture.specs.Picture.{more, nth, all_read, marked}

pub nth_first : (n c : ℕ) (cs : List ℕ) → n < 1 → nth n (c ∷ cs) ≡ c + more cs
unfolding nth
nth_first zero c cs h = refl
nth_first (suc n) c cs h = absurd (omega arith)

pub nth_later : (n c : ℕ) (cs : List ℕ) → 1 ≤ n → nth n (c ∷ cs) ≡ nth (n - 1) cs
unfolding nth
nth_later zero c cs h = absurd (omega arith)
nth_later (suc n) c cs h = simp sub-one

pub read_in_turn : (seen : List Bool) → all_read seen ≡ (get_or seen 0 false && get_or seen 1 false && get_or seen 2 false && get_or seen 3 false)
unfolding all_read
read_in_turn seen = sym (and_assoc (get_or seen 0 false && get_or seen 1 false) (get_or seen 2 false) (get_or seen 3 false))

module _ (m : Module) (n : ℕ) where
  pub marked_all : all_read (set m.seen n true) ≡ true → marked m n ≡ with_seen (with_rsint m false) forgotten
  unfolding marked
  marked_all e = rw e

  pub marked_some : all_read (set m.seen n true) ≡ false → marked m n ≡ with_seen m (set m.seen n true)
  unfolding marked
  marked_some e = rw e
