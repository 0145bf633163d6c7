-- Laws of the writer: the number of a list of calls, their records laid into a buffer, and what `pack` and `add` give.
--
--    list_declines                  no line of a list's calls is that of a done call
--    list_none, list_next           the number of no calls is 0, and of one more that isn't declined
--    list_declined                  the first call that is declined gives the number
--    own_done                       no call of a list that isn't declined is
--    records_none, records_next     the records of no calls, and of one more
--    place_next, room_next          the place behind one record more, and the room for it
--    none_laid, records_laid        the records of no calls are laid, and one record more
--    rest_length                    how many bytes there are from one on
--    back_laid                      bits laid into the part of a buffer from a byte on, and the part given back
--    packing_length, place_bytes    how many bytes a packed list has; how many a place takes
--    pack_declined, pack_no_room, pack_done               what `pack` gives
--    test_no, test_yes                                    a test of room
--    Adds, add_declined, add_no_place, add_no_room, add_done    what `add` gives
--    packed_one, added_one          what is handed back tells how it went
--    added, added_place             calls that are added one by one are the packed list
-- Assumes nothing.
use Prim.Native.Nat.{ℕ, ◌+◌, ◌-◌, ◌*◌, ◌/◌, ◌%◌, ◌≤◌, ◌<◌}
use native.Mathlib.Decide.{ℕ_discrete}
use native.Mathlib.Omega.{arith}
use mathlib.Core.Path.{◌≡◌, refl, sym, ap, ◌∙◌}
use mathlib.Core.Bool.{Bool, true, false, not, ◌||◌}
use mathlib.Core.List.{List, [], ◌∷◌, ◌++◌, append_assoc, append-nil}
use borrow.Author.Tests.{lt-ltb, le-ltb, ltb-false, leb-true, leb-false, ne_eqb, not-true, not-false}
use borrow.Rule.Slice.PartMut.{put_mid, mid_of}
use lib.Dec.{leb, ltb}
use lib.ListN.{length, take, drop, length-append, length-drop, drop_of_length-le}
use Rattle.words.specs.Words.{all}
use Rattle.words.proofs.Laws.{true_false}
use Rattle.numbers.specs.Numbers.{◌gives◌, number_of, done, no_room}
use Rattle.numbers.proofs.Laws.{refused, number_one, declining, declining_both, line_yes, line_no, lines_end, first_decides, rest_decides, line_false}
use Rattle.std.proofs.Common.{⊎_elim}
use Rattle.std.proofs.lemmas.Bool.{cases_lt}
use Rattle.std.specs.Prelude.{Result, Ok, Err}
use Rattle.numbers.specs.Refusals.{number}
use Rattle.numbers.specs.declared.Refusal.{Refusal}
use Rattle.numbers.specs.declared.Refusal.TheVariants.{NoRoom}
use Rattle.bits.specs.Bits.{below, bytes_for, laid}
use Rattle.bits.proofs.Laid.{bytes_length, laid_next, laid_length, laid_none, laid_part, laid_front}
use Rattle.carry.specs.declared.call.Call.{Call}
use Rattle.carry.specs.declared.call.Place.{Place}
use Rattle.carry.specs.Places.{bits_to}
use Rattle.carry.specs.Carried.{Carried, packed, size, records, packing}
use Rattle.carry.specs.Calls.{carried, call_at, listed}
use Rattle.carry.specs.Writer.{own_lines, list_lines, writer_lines, Packed, pack_number, as_packed, Added, pack_call, pack_buffer, add_lines, add_number, as_added, add_call, add_buffer}
use Rattle.carry.proofs.Lists.{lent_rest, begun, begun_none, begun_next, begun_rest}
use Rattle.carry.proofs.Records.{own_declines}

-- ---- a list's number

pub list_declines : (cs : List Carried) → declining (list_lines cs) ≡ true
unfolding list_lines declining
list_declines [] = refl
list_declines (c ∷ cs) = declining_both (own_lines c) (list_lines cs) (own_declines c) (list_declines cs)

lines_append : (cs ds : List Carried) → list_lines (cs ++ ds) ≡ list_lines cs ++ list_lines ds
unfolding list_lines
lines_append [] ds = refl
lines_append (c ∷ cs) ds = rw (lines_append cs ds) (sym (append_assoc (own_lines c) (list_lines cs) (list_lines ds)))

-- calls before that are not declined: the last one decides
last_decides : (cs : List Carried) (c : Carried) → number_of (list_lines cs) ≡ done → number_of (list_lines (cs ++ (c ∷ []))) ≡ number_of (own_lines c)
unfolding list_lines
last_decides cs c e =
    rw (lines_append cs (c ∷ []), append-nil (own_lines c)) (rest_decides (list_lines cs) (own_lines c) (list_declines cs) e)

-- calls that are not declined begin with calls that are not
front_done : (cs ds es : List Carried) → es ≡ cs ++ ds → number_of (list_lines es) ≡ done → number_of (list_lines cs) ≡ done
front_done cs ds es s e = go (ℕ_discrete (number_of (list_lines cs)) done)
  where
    go : Dec (number_of (list_lines cs) ≡ done) → number_of (list_lines cs) ≡ done
    go (yes h) = h
    go (no h) = sym (first_decides (list_lines cs) (list_lines ds) h) ∙ ap number_of (sym (ap list_lines s ∙ lines_append cs ds)) ∙ e

module _ (ws : List ℕ) where
  pub list_none : number_of (list_lines (begun ws 0)) ≡ done
  unfolding list_lines
  list_none = rw (begun_none ws) lines_end

  module _ (i : ℕ) (c : Call) (at : c ≡ call_at ws i) where
    last : number_of (list_lines (begun ws i)) ≡ done → number_of (list_lines (begun ws (i + 1))) ≡ number_of (own_lines (carried c))
    last e = rw (begun_next ws i, at) (last_decides (begun ws i) (carried (call_at ws i)) e)

    pub list_next : number_of (list_lines (begun ws i)) ≡ done → number_of (own_lines (carried c)) ≡ done → number_of (list_lines (begun ws (i + 1))) ≡ done
    list_next e d = last e ∙ d

    pub list_declined : (n : ℕ) → i < length ws / 35 → number_of (list_lines (begun ws i)) ≡ done → n ≡ number_of (own_lines (carried c)) → (n ≡ done → ⊥)
        → n ≡ number_of (list_lines (listed ws))
    list_declined n h e d not_done =
        let r = begun_rest ws (i + 1) (omega arith) in
        let whole = ap list_lines r.1 ∙ lines_append (begun ws (i + 1)) r.0 in
        let first = first_decides (list_lines (begun ws (i + 1))) (list_lines r.0) (λ f. not_done (d ∙ sym (last e) ∙ f)) in
        sym (ap number_of whole ∙ first ∙ last e ∙ sym d)

    pub own_done : i < length ws / 35 → number_of (list_lines (listed ws)) ≡ done → number_of (own_lines (carried c)) ≡ done
    own_done h e =
        let r = begun_rest ws (i + 1) (omega arith) in
        let upto = front_done (begun ws (i + 1)) r.0 (listed ws) r.1 e in
        let before = front_done (begun ws i) (carried (call_at ws i) ∷ []) (begun ws (i + 1)) (begun_next ws i) upto in
        sym (last before) ∙ upto

-- ---- a list's records

records_append : (cs ds : List Carried) → records (cs ++ ds) ≡ records cs ++ records ds
unfolding records
records_append [] ds = refl
records_append (c ∷ cs) ds = rw (records_append cs ds) (sym (append_assoc (packed c) (records cs) (records ds)))

records_last : (cs : List Carried) (c : Carried) → records (cs ++ (c ∷ [])) ≡ records cs ++ packed c
unfolding records
records_last cs c = records_append cs (c ∷ []) ∙ ap (λ (l : List Bool). records cs ++ l) (append-nil (packed c))

module _ (ws : List ℕ) where
  pub records_none : records (begun ws 0) ≡ []
  unfolding records
  records_none = rw (begun_none ws)

  module _ (i : ℕ) (c : Call) (at : c ≡ call_at ws i) where
    records_next : records (begun ws (i + 1)) ≡ records (begun ws i) ++ packed (carried c)
    records_next = rw (begun_next ws i, at) (records_last (begun ws i) (carried (call_at ws i)))

    length_next : length (records (begun ws i)) + size (carried c) ≡ length (records (begun ws (i + 1)))
    unfolding size
    length_next = sym (ap length records_next ∙ length-append (records (begun ws i)) (packed (carried c)))

    module _ {p : ℕ} (e : p ≡ length (records (begun ws i))) where
      pub place_next : {q r : ℕ} → q ≡ p + r → r ≡ size (carried c) → q ≡ length (records (begun ws (i + 1)))
      place_next h f = omega (arith, length_next)

      pub room_next : (room : ℕ) → i < length ws / 35 → bytes_for (length (records (listed ws))) ≤ room → p + size (carried c) ≤ room * 8
      unfolding bytes_for
      room_next room h l =
          let r = begun_rest ws (i + 1) (omega arith) in
          let whole = ap records r.1 ∙ records_append (begun ws (i + 1)) r.0 in
          omega (arith, length_next, ap length whole ∙ length-append (records (begun ws (i + 1))) (records r.0))

-- ---- records laid into a buffer

-- how many bytes there are from one on
pub rest_length : (out : List ℕ) (byte : ℕ) → length (take (length out - byte) (drop byte out)) ≡ length out - byte
rest_length out byte = ap length (lent_rest (length out) byte out refl) ∙ length-drop byte out

-- bits are laid into the part of a buffer from a byte on, and the part is given back
module _ (out : List ℕ) (room byte : ℕ) (whole : room ≡ length out) where
  pub back_laid : (p : ℕ) (f : List Bool) (y : List ℕ) → byte ≤ length out → all (below 8) out ≡ true → y ≡ laid (mid_of byte (room - byte) out) p f
      → put_mid byte (room - byte) out y ≡ laid out (byte * 8 + p) f
  back_laid p f y h b e =
      let none = drop_of_length-le (drop byte out) {i = room - byte} (rw (length-drop byte out) (omega arith)) in
      let rest = ap (λ (l : List ℕ). laid l p f) (lent_rest room byte out whole) in
      rw none (ap (λ (l : List ℕ). take byte out ++ l) (append-nil y ∙ e ∙ rest) ∙ laid_part out byte p f h b)

-- bits laid behind bits at the front
front_laid : (out : List ℕ) (f g : List Bool) (p : ℕ) → p ≡ length f → laid (laid out 0 f) p g ≡ laid out 0 (f ++ g)
front_laid out f g p e =
    let z : p ≡ 0 + length f = omega arith in
    rw z (laid_next out 0 f g (omega arith))

pub none_laid : (ws out : List ℕ) → all (below 8) out ≡ true → out ≡ laid out 0 (records (begun ws 0))
none_laid ws out b = sym (ap (laid out 0) (records_none ws) ∙ laid_none out 0 (omega arith) (omega arith) b)

pub records_laid : (ws : List ℕ) (i : ℕ) (c : Call) → c ≡ call_at ws i → (out now : List ℕ) (p : ℕ)
    → now ≡ laid out 0 (records (begun ws i)) → p ≡ length (records (begun ws i)) → laid now p (packed (carried c)) ≡ laid out 0 (records (begun ws (i + 1)))
records_laid ws i c at out now p e l =
    rw (e, records_next ws i c at) (front_laid out (records (begun ws i)) (packed (carried c)) p l)

-- ---- what the writer gives

pub packing_length : (cs : List Carried) → length (packing cs) ≡ bytes_for (length (records cs))
unfolding packing
packing_length cs = bytes_length (records cs)

pub place_bytes : (place : Place) {bit n : ℕ} → bit ≡ place.bit → bits_to place ≡ n → place.byte + (bit + 7) / 8 ≡ bytes_for n
unfolding bytes_for
place_bytes place f e = omega arith

module _ (ws out : List ℕ) where
  not_packed : (n : ℕ) → pack_number ws (length out) ≡ n → (n ≡ done → ⊥)
      → (record { length = 0; number = n } ≡ pack_call ws (length out)) × (out ≡ pack_buffer ws out)
  unfolding pack_call pack_buffer
  not_packed n e h = rw (e, ne_eqb n done h) (refl, refl)

  pub pack_declined : (r : Refusal) → number r ≡ number_of (list_lines (listed ws)) → (as_packed (Err r) ≡ pack_call ws (length out)) × (out ≡ pack_buffer ws out)
  unfolding pack_number writer_lines
  pack_declined r e =
      let line = ltb (length out) (length (packing (listed ws))) gives no_room in
      not_packed (number r) (first_decides (list_lines (listed ws)) (line ∷ []) (λ d. refused r (e ∙ d)) ∙ sym e) (refused r)

  module _ (l : ℕ) (d : number_of (list_lines (listed ws)) ≡ done) (e : l ≡ bytes_for (length (records (listed ws)))) where
    room_decides : pack_number ws (length out) ≡ number_of (ltb (length out) l gives no_room ∷ [])
    unfolding pack_number writer_lines
    room_decides =
        rest_decides (list_lines (listed ws)) (ltb (length out) (length (packing (listed ws))) gives no_room ∷ []) (list_declines (listed ws)) d
        ∙ ap (λ (n : ℕ). number_of (ltb (length out) n gives no_room ∷ [])) (packing_length (listed ws) ∙ sym e)

    pub pack_no_room : length out < l → (as_packed (Err NoRoom) ≡ pack_call ws (length out)) × (out ≡ pack_buffer ws out)
    pack_no_room h = not_packed no_room (room_decides ∙ line_yes (ltb (length out) l) no_room [] (lt-ltb (length out) l h)) (λ z. omega arith)

    pub pack_done : (y : List ℕ) → l ≤ length out → y ≡ laid out 0 (records (listed ws))
        → (as_packed (Ok l) ≡ pack_call ws (length out)) × (y ≡ pack_buffer ws out)
    unfolding pack_call pack_buffer packing
    pack_done y h f =
        let z = room_decides ∙ line_no (ltb (length out) l) no_room [] (le-ltb (length out) l h) ∙ lines_end in
        rw z (ap (λ (n : ℕ). record { length = n; number = done }) (e ∙ sym (packing_length (listed ws))), f ∙ laid_front out (records (listed ws)))

-- ---- what one call more gives

-- a test of room that is false, and one that is true
pub test_no : (t : Bool) (a b : ℕ) → t ≡ leb a b → not t ≡ true → b < a
test_no t a b e f = leb-false a b (sym e ∙ not-true t f)

pub test_yes : (t : Bool) (a b : ℕ) → t ≡ leb a b → not t ≡ false → a ≤ b
test_yes t a b e f = leb-true a b (sym e ∙ not-false t f)

full_line : (b : Bool) → declining (b gives no_room ∷ []) ≡ true
unfolding declining
full_line b = refl

module _ (c : Call) (out : List ℕ) (place : Place) where
  abbrev byte : ℕ
  byte = place.byte

  abbrev bit : ℕ
  bit = place.bit

  -- what `add` has to give, and to leave
  abbrev pub Adds : Result Place Refusal → List ℕ → Type 0
  Adds x y = (as_added place x ≡ add_call c (length out) byte bit) × (y ≡ add_buffer c out byte bit)

  abbrev full : Bool
  full = ltb 7 bit || ltb (length out * 8) (byte * 8 + bit + size (carried c))

  not_added : (r : Refusal) → add_number c (length out) byte bit ≡ number r → Adds (Err r) out
  unfolding add_call add_buffer
  not_added r e = rw (e, ne_eqb (number r) done (refused r)) (refl, refl)

  pub add_declined : (r : Refusal) → number r ≡ number_of (own_lines (carried c)) → Adds (Err r) out
  unfolding add_number add_lines
  add_declined r e = not_added r (first_decides (own_lines (carried c)) (full gives no_room ∷ []) (λ d. refused r (e ∙ d)) ∙ sym e)

  module _ (d : number_of (own_lines (carried c)) ≡ done) where
    full_decides : add_number c (length out) byte bit ≡ number_of (full gives no_room ∷ [])
    unfolding add_number add_lines
    full_decides = rest_decides (own_lines (carried c)) (full gives no_room ∷ []) (own_declines (carried c)) d

    -- no room, or no place
    pub add_no_room : ((bit ≤ 7) × (bits_to place + size (carried c) ≤ length out * 8) → ⊥) → Adds (Err NoRoom) out
    add_no_room h = not_added NoRoom (full_decides ∙ line_yes full no_room [] (go (ltb 7 bit) refl))
      where
        go : (b : Bool) → ltb 7 bit ≡ b → (b || ltb (length out * 8) (byte * 8 + bit + size (carried c))) ≡ true
        go true e = refl
        go false e =
            let end = byte * 8 + bit + size (carried c) in
            lt-ltb (length out * 8) end
            (⊎_elim (λ (full : length out * 8 < end). full) (λ (room : end ≤ length out * 8). absurd (h (ltb-false 7 bit e, room))) (cases_lt (length out * 8) end))

    pub add_done : (behind : Place) {r : ℕ} (y : List ℕ) → (bit ≤ 7) × (bits_to place + r ≤ length out * 8) → r ≡ size (carried c)
        → (bits_to behind ≡ bits_to place + r) × (behind.bit ≤ 7) → y ≡ laid out (byte * 8 + bit) (packed (carried c)) → Adds (Ok behind) y
    unfolding add_call add_buffer
    add_done behind {r} y h e l f =
        let room : full ≡ false = rw (le-ltb 7 bit h.0, le-ltb (length out * 8) (byte * 8 + bit + size (carried c)) (rw (← e) h.1)) in
        let z = full_decides ∙ line_no full no_room [] room ∙ lines_end in
        let n = byte * 8 + bit + size (carried c) in
        let b : behind.byte ≡ n / 8 = omega arith in
        let k : behind.bit ≡ n % 8 = omega arith in
        rw z (rw (b, k) refl, f)

  -- a call that is added has room
  is_added : add_number c (length out) byte bit ≡ done → full ≡ false
  unfolding add_number add_lines
  is_added e =
      let all-decline = declining_both (own_lines (carried c)) (full gives no_room ∷ []) (own_declines (carried c)) (full_line full) in
      line_false (own_lines (carried c)) full no_room [] all-decline e

module _ (c : Call) (out : List ℕ) (byte bit : ℕ) (d : number_of (own_lines (carried c)) ≡ done) where
  pub add_no_place : (a : Added) → 7 < bit → a ≡ record { byte = byte; bit = bit; number = no_room }
      → (a ≡ add_call c (length out) byte bit) × (out ≡ add_buffer c out byte bit)
  add_no_place a h f = let r = add_no_room c out (record { byte = byte; bit = bit }) d (λ k. let low = k.0 in omega arith) in (f ∙ r.0, r.1)

or_right : (a b : Bool) → (a || b) ≡ false → b ≡ false
or_right true b e = true_false e
or_right false b e = e

-- calls that are added one by one are the packed list: behind the records of calls stands one record more, and the place is behind it
module _ (call : Call) (cs : List Carried) (out : List ℕ) (byte bit : ℕ) (at : byte * 8 + bit ≡ length (records cs))
    (d : add_number call (length out) byte bit ≡ done) where
  room_left : byte * 8 + bit + size (carried call) ≤ length out * 8
  room_left =
      let end = byte * 8 + bit + size (carried call) in
      ltb-false (length out * 8) end (or_right (ltb 7 bit) (ltb (length out * 8) end) (is_added call out (record { byte = byte; bit = bit }) d))

  pub added : add_buffer call (laid out 0 (records cs)) byte bit ≡ laid out 0 (records (cs ++ (carried call ∷ [])))
  unfolding add_buffer
  added =
      let n = laid_length out 0 (records cs) (omega (arith, room_left)) in
      rw (n, d, records_last cs (carried call)) (front_laid out (records cs) (packed (carried call)) (byte * 8 + bit) at)

  pub added_place : (add_call call (length out) byte bit).byte * 8 + (add_call call (length out) byte bit).bit ≡ length (records (cs ++ (carried call ∷ [])))
  unfolding add_call size
  added_place =
      let n = byte * 8 + bit + length (packed (carried call)) in
      let m : n / 8 * 8 + n % 8 ≡ n = omega arith in
      rw (d, records_last cs (carried call), length-append (records cs) (packed (carried call)), ← at) m

-- ---- what is handed back tells how it went

pub packed_one : (x y : Result ℕ Refusal) → as_packed x ≡ as_packed y → x ≡ y
packed_one (Ok n) (Ok m) e = ap Ok (ap (λ (p : Packed). p.length) e)
packed_one (Ok n) (Err r) e = absurd (refused r (sym (ap (λ (p : Packed). p.number) e)))
packed_one (Err r) (Ok m) e = absurd (refused r (ap (λ (p : Packed). p.number) e))
packed_one (Err r) (Err s) e = ap Err (number_one r s (ap (λ (p : Packed). p.number) e))

pub added_one : (p : Place) (x y : Result Place Refusal) → as_added p x ≡ as_added p y → x ≡ y
added_one p (Ok a) (Ok b) e = ap (λ (q : Added). Ok (record { byte = q.byte; bit = q.bit })) e
added_one p (Ok a) (Err r) e = absurd (refused r (sym (ap (λ (q : Added). q.number) e)))
added_one p (Err r) (Ok b) e = absurd (refused r (ap (λ (q : Added). q.number) e))
added_one p (Err r) (Err s) e = ap Err (number_one r s (ap (λ (q : Added). q.number) e))
