-- EVERY VALUE OF THE STRUCT'S TYPE IS `Typed`: its arrays have their lengths, and its bytes are below 256.
--
--    typed    a module that machine values stand for, as the toolchain says of the declared struct, is so
-- Assumes nothing.
use Prim.Native.Nat.{ℕ, zero, suc, ◌<◌}
use native.Mathlib.Omega.{arith}
use mathlib.Core.List.{List, [], ◌∷◌}
use lib.ListN.{get_or}
use mir.Val.{Val}
use denote.Laws.{Is}
use denote.Shadow.{shadow}
use denote.Array.{each}
use denote.Builtin.{u8}
use Rattle.state.specs.declared.Module.{Module}
use Rattle.state.specs.Typed.{Typed}
use Rattle.state.specs.contracts.Module as T

bytes_low : (l : List ℕ) (us : List Val) → shadow (each ℕ u8.own_val l us) → (i : ℕ) → get_or l i 0 < 256
bytes_low [] us g i = omega arith
bytes_low (c ∷ l) [] g i = absurd g
bytes_low (c ∷ l) (u ∷ us) g zero = g.0.1
bytes_low (c ∷ l) (u ∷ us) g (suc i) = bytes_low l us g.1 i

pub typed : (m : Module) (vs : List Val) → Is T.the_row m vs → Typed m
typed m vs is =
    let g = is.1.1 in
    let b : m.bounce < 256 = g.1.1.1.1.0.1 in
    record {
      keys = g.0.1.0.1;
      runs = g.1.0.1.0.1;
      places = g.1.1.0.1.0.1;
      bytes = bytes_low m.queue g.1.1.0.0 g.1.1.0.1.1;
      bounce_low = omega arith;
      marks = g.1.1.1.1.1.1.1.1.1.1.1.0.1.0.1;
    }
