-- Laws of the count of quiet looks, and of the sleep.
--
--    counted_woke      a look that isn't quiet wakes the panel, and the count is 0
--    counted_awake     a quiet look below 254 is counted
--    counted_asleep    a quiet look from 254 on makes the count 255, and the panel sleeps
--    counted_least, counted_sleeps    after every look the count is at most 255, and 255 exactly while asleep
-- Assumes nothing.
use Prim.Native.Nat.{◌+◌, ◌≤◌, ◌<◌, min}
use native.Mathlib.Omega.{arith}
use mathlib.Core.Path.{◌≡◌, refl, sym, ◌∙◌}
use mathlib.Core.Bool.{Bool, true, false, not}
use borrow.Author.Tests.{lt-leb, le-leb, leb-true, leb-false, eq-eqb, ne_eqb}
use lib.Dec.{leb, eqb}
use Rattle.state.specs.Module.{Sleep, sleep}
use Rattle.state.specs.Sleep.{counted}

module _ (z : Sleep) (stirred : Bool) where
  pub counted_woke : stirred ≡ true → sleep 0 false ≡ counted z (not stirred)
  unfolding counted
  counted_woke e = rw e refl

  pub counted_awake : stirred ≡ false → z.quiet < 254 → sleep (z.quiet + 1) false ≡ counted z (not stirred)
  unfolding counted
  counted_awake e h =
      let n : min 255 (z.quiet + 1) ≡ z.quiet + 1 = omega arith in
      rw (e, n, lt-leb 255 (z.quiet + 1) (omega arith)) refl

  pub counted_asleep : stirred ≡ false → 254 ≤ z.quiet → sleep 255 true ≡ counted z (not stirred)
  unfolding counted
  counted_asleep e h =
      let n : min 255 (z.quiet + 1) ≡ 255 = omega arith in
      rw (e, n, le-leb 255 (z.quiet + 1) (omega arith)) refl

pub counted_least : (z : Sleep) (calm : Bool) → (counted z calm).quiet ≤ 255
unfolding counted
counted_least z true = omega arith
counted_least z false = omega arith

pub counted_sleeps : (z : Sleep) (calm : Bool) → (counted z calm).asleep ≡ eqb (counted z calm).quiet 255
unfolding counted
counted_sleeps z true = go (leb 255 (z.quiet + 1)) refl
  where
    go : (b : Bool) → leb 255 (z.quiet + 1) ≡ b → leb 255 (z.quiet + 1) ≡ eqb (min 255 (z.quiet + 1)) 255
    go true e = let l = leb-true 255 (z.quiet + 1) e in e ∙ sym (eq-eqb (min 255 (z.quiet + 1)) 255 (omega arith))
    go false e = let l = leb-false 255 (z.quiet + 1) e in e ∙ sym (ne_eqb (min 255 (z.quiet + 1)) 255 (λ f. omega arith))
counted_sleeps z false = refl
