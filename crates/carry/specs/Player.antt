-- WHAT THE PLAYER GIVES: the state that the single calls give.
--
--    stepped m c         the module after a call of the list; a call that the module declines is made and declined
--    played_from m cs    the module after calls, one after the other
--    played_as cs        what the player hands back for the calls of a list, if it is one
--    play_call bytes     what the player hands back
use Rattle.std.specs.Prelude.{ℕ, List, [], ◌∷◌}
use Rattle.std.proofs.Math.Option.{Option, none, some}
use Rattle.numbers.specs.Numbers.{done, cut_short}
use Rattle.state.specs.declared.Module.{Module}
use Rattle.state.specs.Module.{fresh}
use Rattle.calls.specs.declared.Done.{Done}
use Rattle.calls.specs.Calls.{reset_call, look_call, write_call, read_call}
use Rattle.carry.specs.Carried.{Carried, look, write, read, reset, unpack}

-- "A call in the list that the module declines is played and declined."
unfoldable pub stepped : Module → Carried → Module
stepped m (look samples) = (look_call m samples).after
stepped m (write a bytes) = (write_call m a bytes).after
stepped m (read a n) = (read_call m a n).after
stepped m reset = reset_call.after

unfoldable pub played_from : Module → List Carried → Module
played_from m [] = m
played_from m (c ∷ cs) = played_from (stepped m c) cs

-- "a player that runs a list from a fresh reset and ends in the state the single calls give", "20 .. checked before any call is played"
unfoldable pub played_as : Option (List Carried) → Done
played_as none = record { after = fresh; number = cut_short }
played_as (some cs) = record { after = played_from fresh cs; number = done }

unfoldable pub play_call : List ℕ → Done
play_call bytes = played_as (unpack bytes)
