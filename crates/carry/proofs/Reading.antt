-- Laws of the reader.
--
--    kind_told k bytes p              the call of a record of the kind k, as a number, at the place p
--    look_size, look_call_lem, ..        how long the record of each kind is, and its call as numbers
--    count_low                       a count less one is at most 31
--    end_long, end_short             eight bits or more are no end; fewer are the end if they spell 0
--    list_end, list_cut, list_more   bits at a boundary are a list, are none, or are one just if those behind the record are
--    check_cut, check_list           the number of what is no list; what has the number 0 is a list
--    check_exactly, check_either     0 for just the bytes that are a list; the number is 0 or 20
--    kind_low                        a record's kind is one of four
--    Boundary bytes place            a place between records
--    bytes_from bytes byte            the bytes from one on
--    bits_here, at_here              the bits of the bytes from one on, by byte and bit, and by their place
--    next_in                         the place behind a record is in the list
--    boundary_front, boundary_next, boundary_less  the front is a boundary; so is the place behind a record, and nearer to the end
--    check_end, check_short          the number, told at a boundary: at the end, or at a record that is cut short
--    place_in, place_beyond          a place in the list, and one beyond its last bit
--    record_high, record_beyond      no place in a byte, and a place beyond the list's last bit
--    record_out, record_end, record_short, record_call     what is found at a place
--    walked                          a list that can be read is walked from the front: its calls, then its end
-- Assumes nothing.
use Prim.Native.Nat.{ℕ, zero, suc, ◌+◌, ◌*◌, ◌-◌, ◌/◌, ◌%◌, ◌^◌, ◌≤◌, ◌<◌}
use native.Mathlib.Nat.{one-le-pow}
use native.Mathlib.Omega.{arith}
use mathlib.Core.Path.{◌≡◌, refl, sym, ap, subst, ◌∙◌}
use mathlib.Core.Logic.{◌↔◌, ◌⊎◌, inl, inr}
use mathlib.Core.Bool.{Bool, true, false, not, cond, ◌&&◌}
use mathlib.Core.List.{List, [], ◌∷◌, ◌++◌}
use mathlib.Core.Option.{Option, none, some, some-injective}
use borrow.Author.Tests.{lt-ltb, le-ltb, le-leb, lt-leb, ltb-true, leb-true, leb-false, ne_eqb, not-true, not-false}
use borrow.Author.Rules.{part_to_end}
use lib.Dec.{eqb, leb, ltb}
use lib.ListN.{length, take, drop, get_or, replicate}
use Rattle.words.specs.Words.{all}
use Rattle.words.proofs.Lists.{by_test}
use Rattle.numbers.specs.Numbers.{number_of}
use Rattle.bits.specs.Bits.{below, front, value, number, numbers, bits_from}
use Rattle.bits.proofs.Laws.{number_fits, numbers_length}
use Rattle.bits.proofs.Laid.{from_part, from_length, from_front, from_more}
use Rattle.std.proofs.Common.{⊎_elim}
use Rattle.std.proofs.lemmas.Bool.{cases_lt}
use Rattle.std.specs.Prelude.{Ok, Err, None}
use Rattle.numbers.specs.Refusals as refusals
use Rattle.numbers.specs.declared.Refusal.{Refusal}
use Rattle.carry.specs.declared.call.Call.{Call}
use Rattle.carry.specs.declared.call.Place.{Place}
use Rattle.carry.specs.Places.{bits_to}
use Rattle.carry.specs.Next.{Whole, Comes}
use Rattle.carry.specs.Carried.{Carried, look, write, read, reset, packed, size, told_as, told, ended, before, calls, calls_of, unpack}
use Rattle.carry.specs.Calls.{filled, call_of}
use Rattle.carry.specs.Reader.{is_list, check_number, call, end, nothing, found_in, found_at, no_call, record_of, record_at, Walk}
use Rattle.carry.proofs.Laws.{size_look, size_write, size_read, boundary_read, none_some}

-- the call of a record, by the number of its kind
unfoldable pub kind_told : ℕ → List ℕ → ℕ → Carried
kind_told zero bytes p = look (numbers 8 13 (bits_from bytes (p + 2)))
kind_told (suc zero) bytes p = write (number 8 (bits_from bytes (p + 2))) (numbers (suc (number 5 (bits_from bytes (p + 10)))) 8 (bits_from bytes (p + 15)))
kind_told (suc (suc zero)) bytes p = read (number 8 (bits_from bytes (p + 2))) (suc (number 5 (bits_from bytes (p + 10))))
kind_told (suc (suc (suc k))) bytes p = reset

two_bits : (bits : List Bool) → value (get_or bits 0 false ∷ get_or bits 1 false ∷ []) ≡ number 2 bits
unfolding number front
two_bits [] = refl
two_bits (a ∷ []) = refl
two_bits (a ∷ b ∷ bits) = refl

module _ (bytes : List ℕ) (p : ℕ) where
  behind : (n m : ℕ) → drop m (drop n (bits_from bytes p)) ≡ bits_from bytes (p + (n + m))
  behind n m =
      let e : p + n + m ≡ p + (n + m) = omega arith in
      ap (drop m) (from_more bytes p n) ∙ from_more bytes (p + n) m ∙ ap (bits_from bytes) e

  as_kind : (a b : Bool) → told_as a b (drop 2 (bits_from bytes p)) ≡ kind_told (value (a ∷ b ∷ [])) bytes p
  unfolding told_as kind_told value
  as_kind false false = rw (from_more bytes p 2)
  as_kind false true = rw (behind 2 8, behind 2 13, from_more bytes p 2)
  as_kind true false = rw (behind 2 8, from_more bytes p 2)
  as_kind true true = refl

  told_kind : told (bits_from bytes p) ≡ kind_told (number 2 (bits_from bytes p)) bytes p
  unfolding told
  told_kind =
      let bits = bits_from bytes p in
      as_kind (get_or bits 0 false) (get_or bits 1 false) ∙ ap (λ (k : ℕ). kind_told k bytes p) (two_bits bits)

  told_as_lem : (k : ℕ) → number 2 (bits_from bytes p) ≡ k → told (bits_from bytes p) ≡ kind_told k bytes p
  told_as_lem k e = told_kind ∙ ap (λ (n : ℕ). kind_told n bytes p) e

  -- how long a record is
  pub look_size : number 2 (bits_from bytes p) ≡ 0 → ◌≡◌ {A = ℕ} 106 (size (told (bits_from bytes p)))
  unfolding kind_told
  look_size e =
      let s = numbers 8 13 (bits_from bytes (p + 2)) in
      sym (ap size (told_as_lem 0 e) ∙ size_look s ∙ ap (λ (n : ℕ). 2 + n * 13) (numbers_length 13 8 (bits_from bytes (p + 2))))

  pub write_size : (n : ℕ) → number 2 (bits_from bytes p) ≡ 1 → n ≡ suc (number 5 (bits_from bytes (p + 10))) → n * 8 + 15 ≡ size (told (bits_from bytes p))
  unfolding kind_told
  write_size n e f =
      let m = suc (number 5 (bits_from bytes (p + 10))) in
      let long = size_write (number 8 (bits_from bytes (p + 2))) (numbers m 8 (bits_from bytes (p + 15))) in
      let g : n * 8 + 15 ≡ 15 + m * 8 = omega arith in
      g ∙ sym (ap size (told_as_lem 1 e) ∙ long ∙ ap (λ (k : ℕ). 15 + k * 8) (numbers_length 8 m (bits_from bytes (p + 15))))

  pub read_size : number 2 (bits_from bytes p) ≡ 2 → ◌≡◌ {A = ℕ} 15 (size (told (bits_from bytes p)))
  unfolding kind_told
  read_size e = sym (ap size (told_as_lem 2 e) ∙ size_read (number 8 (bits_from bytes (p + 2))) (suc (number 5 (bits_from bytes (p + 10)))))

  pub reset_size : number 2 (bits_from bytes p) ≡ 3 → ◌≡◌ {A = ℕ} 2 (size (told (bits_from bytes p)))
  unfolding kind_told size packed
  reset_size e = sym (ap size (told_as_lem 3 e))

  -- its call as numbers
  pub look_call_lem : (k : ℕ) (values : List ℕ) → number 2 (bits_from bytes p) ≡ 0 → k ≡ 0 → values ≡ numbers 8 13 (bits_from bytes (p + 2)) ++ replicate 24 0
      → ◌≡◌ {A = Call} (record { kind = k; first = 0; count = 8; values = values }) (call_of (told (bits_from bytes p)))
  unfolding call_of filled kind_told
  look_call_lem k values e z f = rw (told_as_lem 0 e, numbers_length 13 8 (bits_from bytes (p + 2)), f, z)

  pub write_call_lem : (k a n : ℕ) (values : List ℕ) → number 2 (bits_from bytes p) ≡ 1 → k ≡ 1 → a ≡ number 8 (bits_from bytes (p + 2))
      → n ≡ suc (number 5 (bits_from bytes (p + 10))) → values ≡ numbers n 8 (bits_from bytes (p + 15)) ++ replicate (32 - n) 0
      → ◌≡◌ {A = Call} (record { kind = k; first = a; count = n; values = values }) (call_of (told (bits_from bytes p)))
  unfolding call_of filled kind_told
  write_call_lem k a n values e z f g h =
      let m = suc (number 5 (bits_from bytes (p + 10))) in
      rw (told_as_lem 1 e, numbers_length 8 m (bits_from bytes (p + 15)), h, f, g, z)

  pub read_call_lem : (k a n : ℕ) → number 2 (bits_from bytes p) ≡ 2 → k ≡ 2 → a ≡ number 8 (bits_from bytes (p + 2)) → n ≡ suc (number 5 (bits_from bytes (p + 10)))
      → ◌≡◌ {A = Call} (record { kind = k; first = a; count = n; values = replicate 32 0 }) (call_of (told (bits_from bytes p)))
  unfolding call_of filled kind_told
  read_call_lem k a n e z f g = rw (told_as_lem 2 e, f, g, z)

  pub reset_call_lem : (k : ℕ) → number 2 (bits_from bytes p) ≡ 3 → k ≡ 3
      → ◌≡◌ {A = Call} (record { kind = k; first = 0; count = 0; values = replicate 32 0 }) (call_of (told (bits_from bytes p)))
  unfolding call_of filled kind_told
  reset_call_lem k e z = rw (told_as_lem 3 e, z)

-- the kind of a record is one of four
pub kind_low : (bits : List Bool) (n : ℕ) → n ≡ number 2 bits → n % 4 ≡ number 2 bits
unfolding below
kind_low bits n e = let l = ltb-true (number 2 bits) 4 (number_fits 2 bits) in omega arith

-- a count less one
pub count_low : (bits : List Bool) (n : ℕ) → n ≡ number 5 bits → n ≤ 31
unfolding below
count_low bits n e = let l = ltb-true (number 5 bits) 32 (number_fits 5 bits) in omega arith

-- the end: bits that spell 0 are all 0
value_none : (bits : List Bool) → eqb (value bits) 0 ≡ all not bits
unfolding value all
value_none [] = refl
value_none (true ∷ bits) = ne_eqb (2 ^ length bits + value bits) 0 (λ e. omega (arith, one-le-pow (length bits) 2 (omega arith)))
value_none (false ∷ bits) = value_none bits

front_none : (w : ℕ) (bits : List Bool) → length bits ≤ w → all not (front w bits) ≡ all not bits
unfolding front all
front_none zero [] h = refl
front_none zero (b ∷ bits) h = absurd (omega arith)
front_none (suc w) [] h = front_none w [] (omega arith)
front_none (suc w) (b ∷ bits) h = ap (λ (t : Bool). not b && t) (front_none w bits (omega arith))

module _ (bytes : List ℕ) (p : ℕ) where
  pub end_long : leb (p + 8) (length bytes * 8) ≡ true → ended (bits_from bytes p) ≡ false
  unfolding ended
  end_long h =
      let l = leb-true (p + 8) (length bytes * 8) h in
      let n = from_length bytes p in
      rw (le-ltb (length (bits_from bytes p)) 8 (omega arith))

  pub end_short : leb (p + 8) (length bytes * 8) ≡ false → eqb (number 8 (bits_from bytes p)) 0 ≡ ended (bits_from bytes p)
  unfolding ended number
  end_short h =
      let l = leb-false (p + 8) (length bytes * 8) h in
      let n = from_length bytes p in
      rw (lt-ltb (length (bits_from bytes p)) 8 (omega arith))
      (value_none (front 8 (bits_from bytes p)) ∙ front_none 8 (bits_from bytes p) (omega arith))

-- the calls at a boundary
before_list : (c : Carried) (o : Option (List Carried)) → is_list (before c o) ≡ is_list o
unfolding is_list before
before_list c none = refl
before_list c (some cs) = refl

module _ (bits : List Bool) where
  pub list_end : ended bits ≡ true → is_list (calls_of bits) ≡ true
  unfolding is_list
  list_end e = rw (boundary_read bits, e)

  pub list_cut : ended bits ≡ false → leb (size (told bits)) (length bits) ≡ false → is_list (calls_of bits) ≡ false
  unfolding is_list
  list_cut e l = rw (boundary_read bits, e, l)

  pub list_more : ended bits ≡ false → leb (size (told bits)) (length bits) ≡ true → is_list (calls_of bits) ≡ is_list (calls_of (drop (size (told bits)) bits))
  list_more e l = rw (boundary_read bits, e, l) (before_list (told bits) (calls_of (drop (size (told bits)) bits)))

-- the number of a list
module _ (bytes : List ℕ) where
  check_done : is_list (unpack bytes) ≡ true → check_number bytes ≡ 0
  unfolding check_number number_of
  check_done e = rw e

  pub check_cut : is_list (unpack bytes) ≡ false → check_number bytes ≡ 20
  unfolding check_number number_of
  check_cut e = rw e

  pub check_list : check_number bytes ≡ 0 → is_list (unpack bytes) ≡ true
  check_list h = by_test (λ b. b ≡ true) (is_list (unpack bytes)) (λ e. refl) (λ e. absurd (omega (arith, check_cut e)))

  -- "20 list cut short or padded wrongly": 0 for just the bytes that are a list
  pub check_exactly : (check_number bytes ≡ 0) ↔ (is_list (unpack bytes) ≡ true)
  check_exactly = (check_list, check_done)

  pub check_either : (check_number bytes ≡ 0) ⊎ (check_number bytes ≡ 20)
  check_either = go (is_list (unpack bytes)) refl
    where
      go : (b : Bool) → is_list (unpack bytes) ≡ b → (check_number bytes ≡ 0) ⊎ (check_number bytes ≡ 20)
      go true e = inl (check_done e)
      go false e = inr (check_cut e)

-- a boundary between records: the bits from there on are a list just if all are
pub record Boundary (bytes : List ℕ) (place : Place) : Type 0 where
  pub low : place.bit ≤ 7
  pub inside : bits_to place ≤ length bytes * 8
  pub list : is_list (calls_of (bits_from bytes (bits_to place))) ≡ is_list (unpack bytes)

-- the bytes from one on
abbrev pub bytes_from : List ℕ → ℕ → List ℕ
bytes_from bytes byte = take (length bytes - byte) (drop byte bytes)

-- what is told of the bytes from one on
pub bits_here : (bytes : List ℕ) (byte bit : ℕ) → bits_from (bytes_from bytes byte) bit ≡ bits_from bytes (byte * 8 + bit)
bits_here bytes byte bit = ap (λ (l : List ℕ). bits_from l bit) (part_to_end bytes byte) ∙ from_part bytes byte bit

pub at_here : (bytes : List ℕ) (place : Place) {bit : ℕ} → bit ≡ place.bit → bits_from (bytes_from bytes place.byte) bit ≡ bits_from bytes (bits_to place)
at_here bytes place e = ap (bits_from (bytes_from bytes place.byte)) e ∙ bits_here bytes place.byte place.bit

pub whole_room : {bits : List Bool} {s : ℕ} → Whole bits s → leb (size (told bits)) (length bits) ≡ true
whole_room {bits} {s} next = rw (← next.long) (le-leb s (length bits) next.room)

-- going on from boundary to boundary
pub next_in : (bytes : List ℕ) {p s : ℕ} → p ≤ length bytes * 8 → Whole (bits_from bytes p) s → p + s ≤ length bytes * 8
next_in bytes {p} {s} h next =
    let n = from_length bytes p in
    let k = next.room in
    omega arith

list_next : (bytes : List ℕ) (p s : ℕ) → Whole (bits_from bytes p) s → is_list (calls_of (bits_from bytes p)) ≡ is_list (calls_of (bits_from bytes (p + s)))
list_next bytes p s next =
    list_more (bits_from bytes p) next.more (whole_room next)
    ∙ ap (λ (bits : List Bool). is_list (calls_of bits)) (rw (← next.long) (from_more bytes p s))

pub boundary_front : (bytes : List ℕ) → Boundary bytes (record { byte = 0; bit = 0 })
unfolding unpack
boundary_front bytes = record { low = omega arith; inside = omega arith; list = ap (λ (bits : List Bool). is_list (calls_of bits)) (from_front bytes) }

module _ {bytes : List ℕ} {place : Place} (at : Boundary bytes place) where
  abbrev here : List Bool
  here = bits_from bytes (bits_to place)

  pub check_end : Comes here (Ok None) → ◌≡◌ {A = ℕ} 0 (check_number bytes)
  check_end e = sym (check_done bytes (sym at.list ∙ list_end here e))

  pub check_short : {r : Refusal} → Comes here (Err r) → refusals.number r ≡ check_number bytes
  check_short h =
      let cut = lt-leb (size (told here)) (length here) h.2 in
      ap refusals.number h.0 ∙ sym (check_cut bytes (sym at.list ∙ list_cut here h.1 cut))

  module _ {s : ℕ} (behind : Place) (next : Whole here s) (there : bits_to behind ≡ bits_to place + s) where
    pub boundary_next : behind.bit ≤ 7 → Boundary bytes behind
    boundary_next low = record {
      low = low;
      inside = rw there (next_in bytes at.inside next);
      list = rw there (sym (list_next bytes (bits_to place) s next) ∙ at.list);
    }

    pub boundary_less : length bytes * 8 - bits_to behind < length bytes * 8 - bits_to place
    boundary_less =
        let l = next_in bytes at.inside next in
        let h = next.least in
        rw there (omega arith)

-- what is at a place
module _ (bytes : List ℕ) (byte bit : ℕ) where
  -- by a test of room for no bits
  pub place_in : {r : Bool} → byte ≤ length bytes → r ≡ leb (bit + 0) ((length bytes - byte) * 8) → not r ≡ false → byte * 8 + bit ≤ length bytes * 8
  place_in {r} h e f = let l = leb-true (bit + 0) ((length bytes - byte) * 8) (sym e ∙ not-false r f) in omega arith

  pub place_beyond : {r : Bool} → byte ≤ length bytes → r ≡ leb (bit + 0) ((length bytes - byte) * 8) → not r ≡ true → length bytes * 8 < byte * 8 + bit
  place_beyond {r} h e f = let l = leb-false (bit + 0) ((length bytes - byte) * 8) (sym e ∙ not-true r f) in omega arith

  pub record_high : 7 < bit → no_call 20 false ≡ record_at bytes byte bit
  unfolding record_at record_of
  record_high h = rw (lt-ltb 7 bit h)

  pub record_beyond : length bytes * 8 < byte * 8 + bit → no_call 20 false ≡ record_at bytes byte bit
  unfolding record_at record_of found_at
  record_beyond h =
      rw (lt-ltb (length bytes * 8) (byte * 8 + bit) h)
      (by_test (λ b. no_call 20 false ≡ record_of (cond b nothing nothing)) (ltb 7 bit) (λ e. refl) (λ e. refl))

  -- beyond the list's last bit, or no place
  pub record_out : ((bit ≤ 7) × (byte * 8 + bit + 0 ≤ length bytes * 8) → ⊥) → no_call 20 false ≡ record_at bytes byte bit
  record_out h = ⊎_elim record_high (λ (low : bit ≤ 7). ⊎_elim record_beyond (λ (inside : byte * 8 + bit ≤ length bytes * 8). absurd (h (low, omega arith))) (cases_lt (length bytes * 8) (byte * 8 + bit))) (cases_lt 7 bit)

  module _ (h : (bit ≤ 7) × (byte * 8 + bit + 0 ≤ length bytes * 8)) where
    abbrev here_in : List Bool
    here_in = bits_from bytes (byte * 8 + bit)

    record_in : record_at bytes byte bit ≡ record_of (found_in here_in (byte * 8 + bit))
    unfolding record_at found_at
    record_in = let l = h.1 in rw (le-ltb 7 bit h.0, le-ltb (length bytes * 8) (byte * 8 + bit) (omega arith))

    pub record_end : Comes here_in (Ok None) → no_call 0 true ≡ record_at bytes byte bit
    unfolding record_of found_in
    record_end e = sym (record_in ∙ rw e)

    pub record_short : {r : Refusal} → Comes here_in (Err r) → no_call (refusals.number r) false ≡ record_at bytes byte bit
    unfolding record_of found_in
    record_short g = let cut = lt-leb (size (told here_in)) (length here_in) g.2 in sym (record_in ∙ rw (g.1, cut, g.0))

    pub record_call : {s : ℕ} (behind : Place) (c : Call) → Whole here_in s → bits_to behind ≡ byte * 8 + bit + s → behind.bit ≤ 7 → c ≡ call_of (told here_in)
        → record { call = c; byte = behind.byte; bit = behind.bit; number = 0; end = false } ≡ record_at bytes byte bit
    unfolding record_of found_in
    record_call {s} behind c next there low f =
        let p : (byte * 8 + bit + s) / 8 ≡ behind.byte = omega arith in
        let q : (byte * 8 + bit + s) % 8 ≡ behind.bit = omega arith in
        sym (record_in ∙ rw (next.more, whole_room next, ← next.long, ← f, p, q))

-- going from record to record
module _ (bytes : List ℕ) (p : ℕ) (h : p ≤ length bytes * 8) where
  found_end : ended (bits_from bytes p) ≡ true → found_at bytes p ≡ end
  unfolding found_at found_in
  found_end e = rw (le-ltb (length bytes * 8) p h, e)

  found_call : ended (bits_from bytes p) ≡ false → leb (size (told (bits_from bytes p))) (length (bits_from bytes p)) ≡ true
      → found_at bytes p ≡ call (told (bits_from bytes p)) (p + size (told (bits_from bytes p)))
  unfolding found_at found_in
  found_call e l = rw (le-ltb (length bytes * 8) p h, e, l)

  walk_step : (cs : List Carried) (behind : Option (List Carried)) (e l : Bool) → ended (bits_from bytes p) ≡ e
      → leb (size (told (bits_from bytes p))) (length (bits_from bytes p)) ≡ l
      → ((ds : List Carried) → p + size (told (bits_from bytes p)) ≤ length bytes * 8 → behind ≡ some ds → Walk bytes (p + size (told (bits_from bytes p))) ds)
      → cond e (some []) (cond l (before (told (bits_from bytes p)) behind) none) ≡ some cs → Walk bytes p cs
  unfolding before Walk
  walk_step cs behind true l a b rest g = subst (λ (ds : List Carried). Walk bytes p ds) (some-injective [] cs g) (found_end a)
  walk_step cs behind false false a b rest g = none_some cs g
  walk_step cs none false true a b rest g = none_some cs g
  walk_step cs (some ds) false true a b rest g =
      let bits = bits_from bytes p in
      let q = p + size (told bits) in
      let l = leb-true (size (told bits)) (length bits) b in
      let n = from_length bytes p in
      subst (λ (cs : List Carried). Walk bytes p cs) (some-injective (told bits ∷ ds) cs g) (q, found_call a b, rest ds (omega arith) refl)

walks : (n : ℕ) (bytes : List ℕ) (p : ℕ) (cs : List Carried) → p ≤ length bytes * 8 → calls n (bits_from bytes p) ≡ some cs → Walk bytes p cs
unfolding calls
walks zero bytes p cs h g = none_some cs g
walks (suc n) bytes p cs h g =
    let bits = bits_from bytes p in
    let s = size (told bits) in
    walk_step bytes p h cs (calls n (drop s bits)) (ended bits) (leb s (length bits)) refl refl
    (λ ds l e. walks n bytes (p + s) ds l (ap (calls n) (sym (from_more bytes p s)) ∙ e)) g

-- a list that can be read is walked: its calls, then its end
pub walked : (bytes : List ℕ) (cs : List Carried) → unpack bytes ≡ some cs → Walk bytes 0 cs
unfolding unpack calls_of
walked bytes cs h = walks (suc (length (bits_from bytes 0))) bytes 0 cs (omega arith) (rw (from_front bytes) h)
