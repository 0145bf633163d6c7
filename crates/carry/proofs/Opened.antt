-- EVERY DEFINITION of the crate and of the crates below, opened by one name: a proof by computing says `unfolding opened`.
use mathlib.Core.Bool.{Bool, true}
use Rattle.bits.proofs.Opened as bits
use Rattle.calls.proofs.Opened as calls
use Rattle.carry.specs.Carried.{count_fits, fits, packed, size, records, packing, told_as, told, ended, before, calls, calls_of, unpack}
use Rattle.carry.specs.Calls.{firsts, low, of_kind, carried, filled, call_of, call_at, listed}
use Rattle.carry.specs.Writer.{count_lines, own_lines, list_lines, writer_lines, pack_number, pack_call, pack_buffer, add_lines, add_number, add_call, add_buffer}
use Rattle.carry.specs.Reader.{is_list, check_number, found_in, found_at, no_call, record_of, record_at, Walk}
use Rattle.carry.specs.Player.{stepped, played_from, played_as, play_call}

unfoldable pub opened : Bool
unfolding bits.opened calls.opened
    count_fits fits packed size records packing told_as told ended before calls calls_of unpack
    firsts low of_kind carried filled call_of call_at listed
    count_lines own_lines list_lines writer_lines pack_number pack_call pack_buffer add_lines add_number add_call add_buffer
    is_list check_number found_in found_at no_call record_of record_at Walk
    stepped played_from played_as play_call
opened = true
