-- EVERY DEFINITION of the crate and of the crates below, opened by one name: a proof by computing says `unfolding opened`.
use mathlib.Core.Bool.{Bool, true}
use Rattle.words.proofs.Opened as words
use Rattle.keys.specs.Keys.{is_key, key_at, row_of, col_of, press_code, release_code, code, is_code, key_of, acceptable, in_size, key_in, sample, special, hidden}
use Rattle.keys.specs.Replay.{is_press, told, replayed, legal_from, legal}

unfoldable pub opened : Bool
unfolding words.opened
    is_key key_at row_of col_of press_code release_code code is_code key_of acceptable in_size key_in sample special hidden
    is_press told replayed legal_from legal
opened = true
