-- Laws of the packed call list.
--
--    size_look, size_write, size_read    how long a record is
--    told_packed       the record of a call that fits tells that call, whatever is behind it
--    packed_told       what bits tell has those bits as its record
--    fits_told         and fits
--    Written cs bits   the bits are the records of cs, which fit, and fewer than eight bits 0
--    calls_enough      a bound on the records that is large enough doesn't matter
--    boundary_read     the reader at a boundary, with no bound
--    read_written      a list that is packed and read is the list
--    written_read      bytes that are read and packed are the bytes, and the calls fit
--    packing_bytes     a packed list is bytes
--    twenty_exactly    nothing is read from just the bytes that are no packing
-- Assumes nothing.
use Prim.Native.Nat.{ℕ, zero, suc, ◌+◌, ◌*◌, ◌-◌, ◌/◌, ◌≤◌, ◌<◌}
use native.Mathlib.Omega.{arith}
use mathlib.Core.Path.{◌≡◌, refl, sym, ap, subst, ◌∙◌}
use mathlib.Core.Logic.{◌↔◌}
use mathlib.Core.Bool.{Bool, true, false, not, cond, ◌&&◌, and-false}
use mathlib.Core.List.{List, [], ◌∷◌, ◌++◌, append_assoc, append-nil}
use mathlib.Core.Option.{Option, none, some, some-injective}
use borrow.Author.Tests.{lt-ltb, le-ltb, ltb-true, le-leb, leb-true, eqb-true, eq-eqb}
use lib.Dec.{eqb, leb, ltb}
use lib.ListN.{length, drop, get_or, length-append, length-drop, replicate, length-replicate}
use lib.Seq.{drop_at, drop-drop, drop-append_seam}
use Rattle.words.specs.Words.{all}
use Rattle.words.proofs.Laws.{true_false, and_left, and_right, and_both, all_first, all_rest, all_cons}
use Rattle.words.proofs.Lists.{all_none}
use Rattle.bits.proofs.Laws.{bits_length, front_length, front_filled, front_more, front_parts, front_rest, number_there, number_back, number_fits}
use Rattle.bits.proofs.Laws.{numbers_length, numbers_there, numbers_back, numbers_fit, numbers_front, spelled_length}
use Rattle.bits.specs.Bits.{below, bits_of, spelled, front, number, numbers, bytes_for, in_bytes}
use Rattle.carry.specs.Carried.{Carried, look, write, read, reset, count_fits, fits, packed, size, records, packing, told_as, told, ended, before}
use Rattle.carry.specs.Carried.{calls, calls_of, unpack}

-- an address and a count behind the kind
unfoldable header : ℕ → ℕ → List Bool → List Bool
header a k tail = bits_of 8 a ++ (bits_of 5 k ++ tail)

module _ (a k : ℕ) (tail : List Bool) where
  header_count : drop 8 (header a k tail) ≡ bits_of 5 k ++ tail
  unfolding header
  header_count = drop_at (bits_of 8 a) (bits_of 5 k ++ tail) 8 (bits_length 8 a)

  header_tail : drop 13 (header a k tail) ≡ tail
  header_tail = sym (drop-drop 5 8 (header a k tail)) ∙ ap (drop 5) header_count ∙ drop_at (bits_of 5 k) tail 5 (bits_length 5 k)

  address_told : below 8 a ≡ true → number 8 (header a k tail) ≡ a
  unfolding header
  address_told h = number_there 8 a (bits_of 5 k ++ tail) h

  count_told : below 5 k ≡ true → number 5 (drop 8 (header a k tail)) ≡ k
  count_told h = rw header_count (number_there 5 k tail h)

count_low : (n : ℕ) → count_fits n ≡ true → (below 5 (n - 1) ≡ true) × (suc (n - 1) ≡ n)
unfolding count_fits below
count_low n h =
    let l = leb-true 1 n (and_left (leb 1 n) (leb n 32) h) in
    let g = leb-true n 32 (and_right (leb 1 n) (leb n 32) h) in
    (lt-ltb (n - 1) 32 (omega arith), omega arith)

count_fits_lem : (n : ℕ) → below 5 n ≡ true → count_fits (suc n) ≡ true
unfolding count_fits below
count_fits_lem n h =
    let l = ltb-true n 32 h in
    and_both (leb 1 (suc n)) (leb (suc n) 32) (le-leb 1 (suc n) (omega arith)) (le-leb (suc n) 32 (omega arith))

write_told : (a : ℕ) (bs : List ℕ) (rest : List Bool) → below 8 a ≡ true → count_fits (length bs) ≡ true → all (below 8) bs ≡ true
    → told_as false true (header a (length bs - 1) (spelled 8 bs ++ rest)) ≡ write a bs
unfolding told_as
write_told a bs rest h n g =
    let k = length bs - 1 in
    let tail = spelled 8 bs ++ rest in
    let low = count_low (length bs) n in
    rw (address_told a k tail h, count_told a k tail low.0, header_tail a k tail, low.1, numbers_there 8 bs rest g)

read_told : (a n : ℕ) (rest : List Bool) → below 8 a ≡ true → count_fits n ≡ true → told_as true false (header a (n - 1) rest) ≡ read a n
unfolding told_as
read_told a n rest h g = let low = count_low n g in rw (address_told a (n - 1) rest h, count_told a (n - 1) rest low.0, low.1)

-- the record of a call that fits tells that call
pub told_packed : (c : Carried) (rest : List Bool) → fits c ≡ true → told (packed c ++ rest) ≡ c
unfolding fits packed told told_as header
told_packed (look s) rest h =
    let n : length s ≡ 8 = eqb-true (length s) 8 (and_left (eqb (length s) 8) (all (below 13) s) h) in
    ap look (rw n at (numbers_there 13 s rest (and_right (eqb (length s) 8) (all (below 13) s) h)))
told_packed (write a bs) rest h =
    let f = and_left (below 8 a && count_fits (length bs)) (all (below 8) bs) h in
    let g = and_right (below 8 a && count_fits (length bs)) (all (below 8) bs) h in
    let e : (bits_of 8 a ++ (bits_of 5 (length bs - 1) ++ spelled 8 bs)) ++ rest ≡ header a (length bs - 1) (spelled 8 bs ++ rest) = simp append_assoc in
    ap (told_as false true) e ∙ write_told a bs rest (and_left (below 8 a) (count_fits (length bs)) f) (and_right (below 8 a) (count_fits (length bs)) f) g
told_packed (read a n) rest h =
    ap (told_as true false) (append_assoc (bits_of 8 a) (bits_of 5 (n - 1)) rest) ∙ read_told a n rest (and_left (below 8 a) (count_fits n) h) (and_right (below 8 a) (count_fits n) h)
told_packed reset rest h = refl

-- how long a record is
pub size_look : (s : List ℕ) → size (look s) ≡ 2 + length s * 13
unfolding size packed
size_look s = rw (spelled_length 13 s) (omega arith)

pub size_write : (a : ℕ) (bs : List ℕ) → size (write a bs) ≡ 15 + length bs * 8
unfolding size packed
size_write a bs =
    rw (length-append (bits_of 8 a) (bits_of 5 (length bs - 1) ++ spelled 8 bs), length-append (bits_of 5 (length bs - 1)) (spelled 8 bs), bits_length 8 a, bits_length 5 (length bs - 1), spelled_length 8 bs)
    (omega arith)

pub size_read : (a n : ℕ) → size (read a n) ≡ 15
unfolding size packed
size_read a n = rw (length-append (bits_of 8 a) (bits_of 5 (n - 1)), bits_length 8 a, bits_length 5 (n - 1))

-- what is told fits
as_fits : (a b : Bool) (bits : List Bool) → fits (told_as a b bits) ≡ true
unfolding fits told_as
as_fits false false bits = and_both (eqb (length (numbers 8 13 bits)) 8) (all (below 13) (numbers 8 13 bits)) (eq-eqb (length (numbers 8 13 bits)) 8 (numbers_length 13 8 bits)) (numbers_fit 13 8 bits)
as_fits false true bits =
    let n = number 5 (drop 8 bits) in
    rw (number_fits 8 bits, numbers_length 8 (suc n) (drop 13 bits), count_fits_lem n (number_fits 5 (drop 8 bits)), numbers_fit 8 (suc n) (drop 13 bits))
as_fits true false bits = rw (number_fits 8 bits, count_fits_lem (number 5 (drop 8 bits)) (number_fits 5 (drop 8 bits)))
as_fits true true bits = refl

-- the record of what is told is the front of the bits, 0 past the end
as_front : (a b : Bool) (bits : List Bool) → (w : ℕ) × packed (told_as a b bits) ≡ a ∷ b ∷ front w bits
unfolding packed told_as front
as_front false false bits = (104, ap (λ (l : List Bool). false ∷ false ∷ l) (numbers_back 13 8 bits))
as_front false true bits =
    let n = number 5 (drop 8 bits) in
    let e : suc n - 1 ≡ n = omega arith in (
      8 + (5 + suc n * 8),
      ap (λ (l : List Bool). false ∷ true ∷ l)
          (rw (numbers_length 8 (suc n) (drop 13 bits), e, number_back 8 bits, number_back 5 (drop 8 bits), numbers_back 8 (suc n) (drop 13 bits)) (sym (front_parts 8 5 (suc n * 8) bits))),
    )
as_front true false bits =
    let n = number 5 (drop 8 bits) in
    let e : suc n - 1 ≡ n = omega arith in
    (13, ap (λ (l : List Bool). true ∷ false ∷ l) (rw (e, number_back 8 bits, number_back 5 (drop 8 bits)) (sym (front_more 8 5 bits))))
as_front true true bits = (0, refl)

told_front : (bits : List Bool) → (w : ℕ) × packed (told bits) ≡ front w bits
unfolding told front
told_front [] = let p = as_front false false [] in (suc (suc p.0), p.1)
told_front (a ∷ []) = let p = as_front a false [] in (suc (suc p.0), p.1)
told_front (a ∷ b ∷ bits) = let p = as_front a b bits in (suc (suc p.0), p.1)

-- the record of what is told, and what is behind it, are the bits, if they are that long
pub packed_told : (bits : List Bool) → size (told bits) ≤ length bits → packed (told bits) ++ drop (size (told bits)) bits ≡ bits
unfolding size
packed_told bits h =
    let p = told_front bits in
    let w : length (packed (told bits)) ≡ p.0 = ap length p.1 ∙ front_length p.0 bits in
    rw (w, p.1) (front_rest p.0 bits (omega arith))

pub fits_told : (bits : List Bool) → fits (told bits) ≡ true
unfolding told
fits_told bits = as_fits (get_or bits 0 false) (get_or bits 1 false) (drop 2 bits)

-- the end
zeros : (k : ℕ) → all not (replicate k false) ≡ true
unfolding all
zeros zero = refl
zeros (suc k) = zeros k

zeros_only : (bits : List Bool) → all not bits ≡ true → bits ≡ replicate (length bits) false
unfolding all
zeros_only [] h = refl
zeros_only (true ∷ bits) h = true_false (sym h)
zeros_only (false ∷ bits) h = ap (λ (l : List Bool). false ∷ l) (zeros_only bits h)

ended_zeros : (k : ℕ) → k < 8 → ended (replicate k false) ≡ true
unfolding ended
ended_zeros k h = rw (length-replicate k false, lt-ltb k 8 h) (zeros k)

ended_one : (bits : List Bool) → all not bits ≡ false → ended bits ≡ false
unfolding ended
ended_one bits e = rw e (and-false (ltb (length bits) 8))

-- a record is no end
ended_packed : (c : Carried) (rest : List Bool) → fits c ≡ true → ended (packed c ++ rest) ≡ false
unfolding ended packed fits all
ended_packed (look s) rest h =
    let n : length s ≡ 8 = eqb-true (length s) 8 (and_left (eqb (length s) 8) (all (below 13) s) h) in
    let l : 8 ≤ length (spelled 13 s ++ rest) = rw (length-append (spelled 13 s) rest, spelled_length 13 s, n) (omega arith) in
    rw (le-ltb (suc (suc (length (spelled 13 s ++ rest)))) 8 (omega arith))
ended_packed (write a bs) rest h = ended_one (packed (write a bs) ++ rest) refl
ended_packed (read a n) rest h = ended_one (packed (read a n) ++ rest) refl
ended_packed reset rest h = ended_one (packed reset ++ rest) refl

calls_end : (n k : ℕ) → k < 8 → calls (suc n) (replicate k false) ≡ some []
unfolding calls
calls_end n k h = rw (ended_zeros k h)

before_some : (c : Carried) (cs : List Carried) → before c (some cs) ≡ some (c ∷ cs)
unfolding before
before_some c cs = refl

-- a record, then more
calls_more : (n : ℕ) (c : Carried) (rest : List Bool) → fits c ≡ true → calls (suc n) (packed c ++ rest) ≡ before c (calls n rest)
unfolding calls size
calls_more n c rest h =
    let l : leb (length (packed c)) (length (packed c ++ rest)) ≡ true = le-leb (length (packed c)) (length (packed c ++ rest)) (rw (length-append (packed c) rest) (omega arith)) in
    rw (ended_packed c rest h, told_packed c rest h, l, drop-append_seam (packed c) rest)

calls_written : (cs : List Carried) (n k : ℕ) → all fits cs ≡ true → k < 8 → length cs < n → calls n (records cs ++ replicate k false) ≡ some cs
unfolding records
calls_written cs zero k h g l = absurd (omega arith)
calls_written [] (suc n) k h g l = calls_end n k g
calls_written (c ∷ cs) (suc n) k h g l =
    rw (append_assoc (packed c) (records cs) (replicate k false), calls_more n c (records cs ++ replicate k false) (all_first fits c cs h), calls_written cs n k (all_rest fits c cs h) g (omega arith))
    (before_some c cs)

-- the bits are the records of calls that fit, and fewer than eight bits 0
pub record Written (cs : List Carried) (bits : List Bool) : Type 0 where
  pub padding : ℕ
  pub few : padding < 8
  pub whole : bits ≡ records cs ++ replicate padding false
  pub fit : all fits cs ≡ true

written_end : (bits : List Bool) → ended bits ≡ true → Written [] bits
unfolding ended records
written_end bits h = record {
  padding = length bits;
  few = ltb-true (length bits) 8 (and_left (ltb (length bits) 8) (all not bits) h);
  whole = zeros_only bits (and_right (ltb (length bits) 8) (all not bits) h);
  fit = all_none fits;
}

written_more : (bits : List Bool) (cs : List Carried) → length (packed (told bits)) ≤ length bits
    → Written cs (drop (length (packed (told bits))) bits) → Written (told bits ∷ cs) bits
unfolding records size
written_more bits cs h w = record {
  padding = w.padding;
  few = w.few;
  whole = sym (append_assoc (packed (told bits)) (records cs) (replicate w.padding false) ∙ ap (λ (l : List Bool). packed (told bits) ++ l) (sym w.whole) ∙ packed_told bits h);
  fit = all_cons fits (told bits) cs (fits_told bits) w.fit;
}

pub none_some : {A : Type 0} (cs : List Carried) → ◌≡◌ {A = Option (List Carried)} none (some cs) → A
none_some cs h = let z : ◌≡◌ {A = ℕ} 0 1 = cc in absurd (omega arith)

-- one boundary, with the calls behind its record
boundary : (bits : List Bool) (cs : List Carried) (behind : Option (List Carried)) (e l : Bool) → ended bits ≡ e
    → leb (length (packed (told bits))) (length bits) ≡ l
    → ((ds : List Carried) → behind ≡ some ds → Written ds (drop (length (packed (told bits))) bits))
    → cond e (some []) (cond l (before (told bits) behind) none) ≡ some cs → Written cs bits
unfolding before
boundary bits cs behind true l p q rest h = subst (λ (ds : List Carried). Written ds bits) (some-injective [] cs h) (written_end bits p)
boundary bits cs behind false false p q rest h = none_some cs h
boundary bits cs none false true p q rest h = none_some cs h
boundary bits cs (some ds) false true p q rest h =
    subst (λ (l : List Carried). Written l bits) (some-injective (told bits ∷ ds) cs h)
    (written_more bits ds (leb-true (length (packed (told bits))) (length bits) q) (rest ds refl))

pub calls_read : (n : ℕ) (bits : List Bool) (cs : List Carried) → calls n bits ≡ some cs → Written cs bits
unfolding calls size
calls_read zero bits cs h = none_some cs h
calls_read (suc n) bits cs h =
    let rest = drop (length (packed (told bits))) bits in
    boundary bits cs (calls n rest) (ended bits) (leb (length (packed (told bits))) (length bits)) refl refl (calls_read n rest) h

-- the reader with no count of records: as many as the bits can hold are enough
packed_long : (c : Carried) → 1 ≤ length (packed c)
unfolding packed
packed_long (look s) = omega arith
packed_long (write a bs) = omega arith
packed_long (read a n) = omega arith
packed_long reset = omega arith

pub calls_enough : (n m : ℕ) (bits : List Bool) → length bits < n → length bits < m → calls n bits ≡ calls m bits
unfolding calls size
calls_enough zero m bits h g = absurd (omega arith)
calls_enough (suc n) zero bits h g = absurd (omega arith)
calls_enough (suc n) (suc m) bits h g = go (leb size (length bits)) refl (calls_enough n m (drop size bits))
  where
    size : ℕ
    size = length (packed (told bits))

    go : (l : Bool) → leb size (length bits) ≡ l
        → (length (drop size bits) < n → length (drop size bits) < m → calls n (drop size bits) ≡ calls m (drop size bits))
        → calls (suc n) bits ≡ calls (suc m) bits
    go true e i =
        let l = leb-true size (length bits) e in
        let k = packed_long (told bits) in
        let d = length-drop size bits in
        ap (λ (o : Option (List Carried)). cond (ended bits) (some []) (cond (leb size (length bits)) (before (told bits) o) none)) (i (omega arith) (omega arith))
    go false e i = rw e

pub boundary_read : (bits : List Bool) → calls_of bits
    ≡ cond (ended bits) (some []) (cond (leb (size (told bits)) (length bits)) (before (told bits) (calls_of (drop (size (told bits)) bits))) none)
unfolding calls calls_of size
boundary_read bits = go (leb (length (packed (told bits))) (length bits)) refl
  where
    rest : List Bool
    rest = drop (length (packed (told bits))) bits

    go : (l : Bool) → leb (length (packed (told bits))) (length bits) ≡ l
        → calls (suc (length bits)) bits ≡ cond (ended bits) (some []) (cond (leb (length (packed (told bits))) (length bits)) (before (told bits) (calls (suc (length rest)) rest)) none)
    go true e =
        let l = leb-true (length (packed (told bits))) (length bits) e in
        let k = packed_long (told bits) in
        let d = length-drop (length (packed (told bits))) bits in
        ap (λ (o : Option (List Carried)). cond (ended bits) (some []) (cond (leb (length (packed (told bits))) (length bits)) (before (told bits) o) none)) (calls_enough (length bits) (suc (length rest)) rest (omega arith) (omega arith))
    go false e = rw e

-- whole bytes
bytes_for_lem : (n k b : ℕ) → k < 8 → b * 8 ≡ n + k → bytes_for n ≡ b
unfolding bytes_for
bytes_for_lem n k b h e = omega arith

bytes_filled : (n : ℕ) → (k : ℕ) × (k < 8) × (bytes_for n * 8 ≡ n + k)
unfolding bytes_for
bytes_filled n = ((n + 7) / 8 * 8 - n, omega arith, omega arith)

pub records_long : (cs : List Carried) → length cs ≤ length (records cs)
unfolding records
records_long [] = omega arith
records_long (c ∷ cs) =
    let h = packed_long c in
    let i = records_long cs in
    rw (length-append (packed c) (records cs)) (omega arith)

-- "Reader and writer are both wanted, each undoing the other"
pub read_written : (cs : List Carried) → all fits cs ≡ true → unpack (packing cs) ≡ some cs
unfolding unpack calls_of packing in_bytes
read_written cs h =
    let p = bytes_filled (length (records cs)) in
    let e : spelled 8 (packing cs) ≡ records cs ++ replicate p.0 false =
    numbers_back 8 (bytes_for (length (records cs))) (records cs) ∙ ap (λ (n : ℕ). front n (records cs)) p.2 ∙ front_filled (records cs) p.0 in
    let l = records_long cs in
    rw e (calls_written cs (suc (length (records cs ++ replicate p.0 false))) p.0 h p.1 (rw (length-append (records cs) (replicate p.0 false)) (omega arith)))

pub written_read : (bytes : List ℕ) (cs : List Carried) → all (below 8) bytes ≡ true → unpack bytes ≡ some cs → (packing cs ≡ bytes) × (all fits cs ≡ true)
unfolding unpack calls_of packing in_bytes
written_read bytes cs h e =
    let w = calls_read (suc (length (spelled 8 bytes))) (spelled 8 bytes) cs e in
    let n = length (records cs) in
    let k = w.padding in
    let size : length bytes * 8 ≡ n + k = sym (spelled_length 8 bytes) ∙ ap length w.whole ∙ length-append (records cs) (replicate k false) ∙ ap (λ (m : ℕ). n + m) (length-replicate k false) in
    let b : bytes_for n ≡ length bytes = bytes_for_lem n k (length bytes) w.few size in
    let f : front (length bytes * 8) (records cs) ≡ spelled 8 bytes = ap (λ (m : ℕ). front m (records cs)) size ∙ front_filled (records cs) k ∙ sym w.whole in
    let there : numbers (length bytes) 8 (spelled 8 bytes) ≡ bytes = rw (append-nil (spelled 8 bytes)) at (numbers_there 8 bytes [] h) in
    (ap (λ (m : ℕ). numbers m 8 (records cs)) b ∙ sym (numbers_front 8 (length bytes) (records cs)) ∙ ap (numbers (length bytes) 8) f ∙ there, w.fit)

-- every byte of a packed list is one
pub packing_bytes : (cs : List Carried) → all (below 8) (packing cs) ≡ true
unfolding packing in_bytes
packing_bytes cs = numbers_fit 8 (bytes_for (length (records cs))) (records cs)

-- "20 list cut short or padded wrongly": exactly when the bytes are the packing of no list of calls that fit
pub twenty_exactly : (bytes : List ℕ) → all (below 8) bytes ≡ true → (unpack bytes ≡ none) ↔ ((cs : List Carried) → all fits cs ≡ true → packing cs ≡ bytes → ⊥)
twenty_exactly bytes h = (none_packed, λ p. decide (unpack bytes) refl p)
  where
    none_packed : unpack bytes ≡ none → (cs : List Carried) → all fits cs ≡ true → packing cs ≡ bytes → ⊥
    none_packed e cs f p = none_some cs (sym e ∙ ap unpack (sym p) ∙ read_written cs f)

    decide : (o : Option (List Carried)) → unpack bytes ≡ o → ((cs : List Carried) → all fits cs ≡ true → packing cs ≡ bytes → ⊥) → unpack bytes ≡ none
    decide none e p = e
    decide (some cs) e p = let w = written_read bytes cs h e in absurd (p cs w.1 w.0)
