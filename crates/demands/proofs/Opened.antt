-- EVERY DEFINITION of the crate and of the crates below, opened by one name: a proof by computing says `unfolding opened`.
use mathlib.Core.Bool.{Bool, true}
use Rattle.sheet.proofs.Opened as sheet
use Rattle.calls.proofs.Opened as calls
use Rattle.demands.specs.Blocks.{singles, block_rules, Leads, number_of, Unaltered, Woken, Stopped, lookeds, fit, after_acts, past_of, looks_of, spelled}
use Rattle.demands.specs.Blocks as blocks
use Rattle.demands.specs.Demands.{bytes_of}
use Rattle.demands.specs.Machine.{lent, after, wrotes, gots, happened, noted, done, fits, codes_in, covers, fetched_by, fetched, awake, seen}
use Rattle.demands.specs.Ours.{changing, asking, called, blocking, driving}
use Rattle.demands.specs.Sessions.{same, agrees, passes, sessions}
use Rattle.demands.specs.Shown as shown
use Rattle.demands.specs.Sleep.{looks_in, looks_among}
use Rattle.demands.specs.Table.{First, place, rules}
use Rattle.demands.specs.Wrong.{called_by, carried, declined, blank_bytes, stays, nothing, ignoring, handled, made_up, runs_kept, room_for, keys_kept, quiet, hushing, hushed, past_state, past_bytes, taken_first, hurried, put_late, put_all_late, oldest_lost, only_first, emptied, soundly, trusted, single, single_stays, single_blank, unreported}
use Rattle.demands.specs.WrongBlocks.{restored, onward, all_made, all_or_none, over_counted, made_first, newest, hushed_up}
use Rattle.demands.specs.WrongHidden.{changes_by, settles_by, contacts_by, looked_by, showing, apart, by_held, by_held_after, open_then, last_read, again, out_open, by_rows_out, with_itself, ripe, raw}
use Rattle.demands.specs.WrongPins.{all_plain, sampled_before, line_by_raw, edges_cleared, pins_forgotten, any_sample, driven_anyway}
use Rattle.demands.specs.WrongSleep.{napped, refused, broken, settled_hidden}

unfoldable pub opened : Bool
unfolding sheet.opened calls.opened
    bytes_of
    singles block_rules Leads number_of Unaltered Woken Stopped lookeds fit after_acts past_of blocks.fetched looks_of spelled
    lent after wrotes gots happened noted done fits codes_in covers fetched_by fetched awake seen
    changing asking called blocking driving
    changes_by settles_by contacts_by looked_by showing apart by_held by_held_after open_then last_read again out_open by_rows_out with_itself ripe raw
    all_plain sampled_before line_by_raw edges_cleared pins_forgotten any_sample driven_anyway
    looks_in looks_among napped refused broken settled_hidden
    restored onward all_made all_or_none over_counted made_first newest hushed_up
    same agrees passes sessions
    shown.after shown.run shown.places shown.pins_shown shown.shown shown.fitting
    First place rules
    called_by carried declined blank_bytes stays nothing ignoring handled made_up runs_kept room_for keys_kept quiet hushing hushed past_state past_bytes taken_first hurried put_late put_all_late oldest_lost only_first emptied soundly trusted single single_stays single_blank unreported
opened = true
