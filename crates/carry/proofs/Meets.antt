-- Our carrier meets the statements.
--
--    ours_carries     the statements of request E1
--    examples-pack    each list of the table packs to its bytes, and its bytes are read as the list
-- Assumes nothing.
use Prim.Native.Nat.{ℕ, ◌+◌, ◌*◌, ◌/◌, ◌%◌}
use native.Mathlib.Omega.{arith}
use mathlib.Core.Path.{◌≡◌, refl, sym, subst, ◌∙◌}
use mathlib.Core.Bool.{not}
use mathlib.Core.List.{List, [], ◌∷◌, ◌++◌}
use mathlib.Core.Option.{Option, none, some}
use borrow.Author.Tests.{ne_eqb, le-ltb}
use lib.ListN.{length, drop}
use Rattle.numbers.specs.Numbers.{number_of, Given, done, cut_short}
use Rattle.numbers.proofs.Laws.{given, line_yes, line_no, lines_end}
use Rattle.carry.specs.Carried.{Carried, packing, unpack}
use Rattle.carry.specs.Calls.{listed}
use Rattle.carry.specs.Writer.{writer_lines, pack_number, pack_call, pack_buffer}
use Rattle.carry.specs.Reader.{Found, call, end, is_list, check_number, found_at, record_of, record_at, Walk}
use Rattle.carry.specs.Statements.{ours, Goes, Carries}
use Rattle.carry.proofs.Laws.{read_written, twenty_exactly}
use Rattle.carry.proofs.Playing.{played, not_played}
use Rattle.carry.proofs.Reading.{walked}

-- ---- the writer

module _ (ws out : List ℕ) where
  packs_exact : (pack_call ws (length out)).number ≡ number_of (writer_lines (listed ws) (length out))
  unfolding pack_call pack_number
  packs_exact = refl

  length_done : pack_number ws (length out) ≡ done → (pack_call ws (length out)).length ≡ length (packing (listed ws))
  unfolding pack_call
  length_done e = rw e

  buffer_done : pack_number ws (length out) ≡ done → pack_buffer ws out ≡ packing (listed ws) ++ drop (length (packing (listed ws))) out
  unfolding pack_buffer
  buffer_done e = rw e

  length_declined : (pack_number ws (length out) ≡ done → ⊥) → (pack_call ws (length out)).length ≡ 0
  unfolding pack_call
  length_declined h = rw (ne_eqb (pack_number ws (length out)) 0 h)

  buffer_declined : (pack_number ws (length out) ≡ done → ⊥) → pack_buffer ws out ≡ out
  unfolding pack_buffer
  buffer_declined h = rw (ne_eqb (pack_number ws (length out)) 0 h)

  pack_number_lem : (pack_call ws (length out)).number ≡ pack_number ws (length out)
  unfolding pack_call
  pack_number_lem = refl

-- ---- the reader

check_none : (bytes : List ℕ) → unpack bytes ≡ none → check_number bytes ≡ cut_short
unfolding check_number is_list
check_none bytes e = line_yes (not (is_list (unpack bytes))) cut_short [] (rw e refl)

check_some : (bytes : List ℕ) (cs : List Carried) → unpack bytes ≡ some cs → check_number bytes ≡ done
unfolding check_number is_list
check_some bytes cs e = line_no (not (is_list (unpack bytes))) cut_short [] (rw e refl) ∙ lines_end

none_checked : (bytes : List ℕ) → check_number bytes ≡ cut_short → unpack bytes ≡ none
none_checked bytes e = go (unpack bytes) refl
  where
    go : (o : Option (List Carried)) → unpack bytes ≡ o → unpack bytes ≡ none
    go none p = p
    go (some cs) p = let z : ◌≡◌ {A = ℕ} 20 0 = sym e ∙ check_some bytes cs p in absurd (omega arith)

place_whole : (q : ℕ) → q / 8 * 8 + q % 8 ≡ q
place_whole q = omega arith

found_there : (bytes : List ℕ) (byte bit p : ℕ) (f : Found) → bit % 8 ≡ bit → byte * 8 + bit ≡ p → found_at bytes p ≡ f → record_at bytes byte bit ≡ record_of f
unfolding record_at
found_there bytes byte bit p f h e g = rw (le-ltb 7 bit (omega arith), e, g)

-- a record's place is that of the walk
goes : (cs : List Carried) (bytes : List ℕ) (byte bit p : ℕ) → bit % 8 ≡ bit → byte * 8 + bit ≡ p → Walk bytes p cs → Goes ours bytes byte bit cs
unfolding Walk Goes record_of
goes [] bytes byte bit p h e w = found_there bytes byte bit p end h e w
goes (c ∷ cs) bytes byte bit p h e w =
    (w.0, found_there bytes byte bit p (call c w.0) h e w.1, goes cs bytes (w.0 / 8) (w.0 % 8) w.0 (omega arith) (place_whole w.0) w.2)

-- ---- the statements

pub ours_carries : Carries ours
ours_carries = record {
  exact = λ ws out. subst (λ n. Given (writer_lines (listed ws) (length out)) n) (sym (packs_exact ws out)) (given (writer_lines (listed ws) (length out)));
  written = λ ws out e. (length_done ws out (sym (pack_number_lem ws out) ∙ e), buffer_done ws out (sym (pack_number_lem ws out) ∙ e));
  declined = λ ws out h. (length_declined ws out (λ e. h (pack_number_lem ws out ∙ e)), buffer_declined ws out (λ e. h (pack_number_lem ws out ∙ e)));
  cut = λ bytes h. (λ e. (twenty_exactly bytes h).0 (none_checked bytes e), λ f. check_none bytes ((twenty_exactly bytes h).1 f));
  good = λ cs h. check_some (packing cs) cs (read_written cs h);
  read = λ cs h. goes cs (packing cs) 0 0 0 refl refl (walked (packing cs) cs (read_written cs h));
  played = λ cs h. played (packing cs) cs (read_written cs h);
  refused = λ bytes e. not_played bytes (none_checked bytes e);
}
