-- Laws of one call: its number, its size, and its record laid into a buffer part by part.
--
--    count_done                                     a count that neither 3 nor 4 declines
--    own_declines                                   no line of a call gives the number of a call that is done
--    not_eight_lem, eight                               a look's samples, where they are not eight, and where they are
--    own_look, own_access, own_reset                the number of a call, by its kind
--    look_fits, write_fits, read_fits               the count of a call that isn't declined
--    bits_look, bits_write, bits_read, bits_reset   how many bits its record has
--    both_laid                                      bits laid behind bits that were laid
--    access_laid                                    the kind, the address and the count of an access
--    look_laid, write_laid, read_laid, reset_laid   the whole record
-- Assumes nothing.
use Prim.Native.Nat.{ℕ, ◌+◌, ◌-◌, ◌*◌, ◌%◌, ◌≤◌}
use native.Mathlib.Omega.{arith}
use mathlib.Core.Path.{◌≡◌, refl, sym, ap, ◌∙◌}
use mathlib.Core.Logic.{◌⊎◌, inl, inr}
use mathlib.Core.Bool.{Bool, true, false, not}
use mathlib.Core.List.{List, [], ◌∷◌, ◌++◌, append_assoc, map}
use borrow.Author.Tests.{ltb-false, ne_eqb, eqb-false}
use lib.Dec.{eqb, ltb}
use lib.ListN.{length, take, length-append, length-map}
use Rattle.words.specs.Words.{bit}
use Rattle.numbers.specs.Numbers.{◌gives◌, number_of, done, not_eight, no_bytes, too_many}
use Rattle.numbers.proofs.Laws.{declining, line_yes, lines_end, line_false}
use Rattle.judge.specs.Lines.{sample_lines}
use Rattle.judge.proofs.Laws.{samples_decline, eight_samples}
use Rattle.bits.specs.Bits.{bits_of, spelled, laid}
use Rattle.bits.proofs.Laws.{bits_length, bits_low_only}
use Rattle.bits.proofs.Laid.{laid_next}
use Rattle.carry.specs.declared.call.Call.{Call}
use Rattle.carry.specs.declared.call.Kind.{Kind}
use Rattle.carry.specs.declared.call.Kind.TheVariants.{Write, Read}
use Rattle.carry.specs.Carried.{Carried, look, write, read, reset, packed, size}
use Rattle.carry.specs.Calls.{code, firsts, low, carried, header}
use Rattle.carry.specs.Writer.{count_lines, own_lines}
use Rattle.carry.proofs.Laws.{size_look, size_write, size_read}
use Rattle.carry.proofs.Lists.{firsts_length, firsts_take, is_look, is_write, is_read, is_reset, spelled_low}

-- ---- its number

count_declines : (n : ℕ) → declining (count_lines n) ≡ true
unfolding declining count_lines
count_declines n = refl

pub count_done : (n : ℕ) → number_of (count_lines n) ≡ done → (1 ≤ n) × (n ≤ 32)
unfolding count_lines
count_done n e =
    let some = eqb-false n 0 (line_false [] (eqb n 0) no_bytes (ltb 32 n gives too_many ∷ []) (count_declines n) e) in
    let few = ltb-false 32 n (line_false (eqb n 0 gives no_bytes ∷ []) (ltb 32 n) too_many [] (count_declines n) e) in
    (omega arith, few)

pub own_declines : (c : Carried) → declining (own_lines c) ≡ true
unfolding own_lines declining
own_declines (look s) = samples_decline s
own_declines (write a bs) = count_declines (length bs)
own_declines (read a n) = count_declines n
own_declines reset = refl

-- a look's samples
pub not_eight_lem : (n : ℕ) (xs : List ℕ) → (n ≡ 8 → ⊥) → number_of (sample_lines (firsts n xs)) ≡ not_eight
unfolding sample_lines
not_eight_lem n xs h = line_yes _ not_eight _ (ap not (ne_eqb (length (firsts n xs)) 8 (λ e. h (sym (firsts_length n xs) ∙ e))))

pub eight : (n : ℕ) (xs : List ℕ) → length xs ≡ 32 → n ≡ 8 → number_of (sample_lines (firsts n xs)) ≡ number_of (sample_lines (take 8 xs))
eight n xs l e = rw (e, firsts_take 8 xs (omega arith))

module _ (c : Call) where
  abbrev count : ℕ
  count = c.count

  abbrev values : List ℕ
  values = c.values

  told_length : length (map low (firsts count values)) ≡ count
  told_length = length-map (firsts count values) low ∙ firsts_length count values

  pub own_look : c.kind % 4 ≡ 0 → number_of (own_lines (carried c)) ≡ number_of (sample_lines (firsts count values))
  unfolding own_lines
  own_look k = rw (is_look c k)

  own_write : c.kind % 4 ≡ 1 → number_of (own_lines (carried c)) ≡ number_of (count_lines count)
  unfolding own_lines
  own_write k = rw (is_write c k, told_length)

  own_read : c.kind % 4 ≡ 2 → number_of (own_lines (carried c)) ≡ number_of (count_lines count)
  unfolding own_lines
  own_read k = rw (is_read c k)

  pub own_access : {k : Kind} → code k ≡ c.kind % 4 → (k ≡ Write) ⊎ (k ≡ Read) → number_of (own_lines (carried c)) ≡ number_of (count_lines count)
  own_access e (inl w) = own_write (sym e ∙ ap code w)
  own_access e (inr r) = own_read (sym e ∙ ap code r)

  pub own_reset : c.kind % 4 ≡ 3 → number_of (own_lines (carried c)) ≡ done
  unfolding own_lines
  own_reset k = rw (is_reset c k) lines_end

  module _ (d : number_of (own_lines (carried c)) ≡ done) where
    pub look_fits : c.kind % 4 ≡ 0 → count ≡ 8
    look_fits k = sym (firsts_length count values) ∙ eight_samples (firsts count values) (sym (own_look k) ∙ d)

    pub write_fits : c.kind % 4 ≡ 1 → (1 ≤ count) × (count ≤ 32)
    write_fits k = count_done count (sym (own_write k) ∙ d)

    pub read_fits : c.kind % 4 ≡ 2 → (1 ≤ count) × (count ≤ 32)
    read_fits k = count_done count (sym (own_read k) ∙ d)

    pub bits_look : c.kind % 4 ≡ 0 → 106 ≡ size (carried c)
    bits_look k = rw (is_look c k, size_look (firsts count values), firsts_length count values, look_fits k)

  pub bits_write : c.kind % 4 ≡ 1 → count * 8 + 15 ≡ size (carried c)
  bits_write k = rw (is_write c k, size_write (low c.first) (map low (firsts count values)), told_length) (omega arith)

  pub bits_read : c.kind % 4 ≡ 2 → 15 ≡ size (carried c)
  bits_read k = rw (is_read c k, size_read (low c.first) count)

  pub bits_reset : c.kind % 4 ≡ 3 → 2 ≡ size (carried c)
  unfolding size packed
  bits_reset k = rw (is_reset c k)

-- ---- its record, in the parts that are laid

kind_look : bits_of 2 0 ≡ false ∷ false ∷ []
unfolding bits_of bit
kind_look = refl

kind_write : bits_of 2 1 ≡ false ∷ true ∷ []
unfolding bits_of bit
kind_write = refl

kind_read : bits_of 2 2 ≡ true ∷ false ∷ []
unfolding bits_of bit
kind_read = refl

kind_reset : bits_of 2 3 ≡ true ∷ true ∷ []
unfolding bits_of bit
kind_reset = refl

address_low : (a : ℕ) → bits_of 8 (low a) ≡ bits_of 8 a
unfolding low
address_low a = bits_low_only 8 a

header_length : (c : Call) (kind : ℕ) → length (header c kind) ≡ 15
header_length c kind =
    let a = bits_of 8 c.first in
    let n = bits_of 5 (c.count - 1) in
    rw (length-append (bits_of 2 kind) (a ++ n), length-append a n, bits_length 2 kind, bits_length 8 c.first, bits_length 5 (c.count - 1))

module _ (c : Call) where
  packed_read : c.kind % 4 ≡ 2 → header c 2 ≡ packed (carried c)
  unfolding packed
  packed_read k = rw (is_read c k, address_low c.first, kind_read)

  packed_reset : c.kind % 4 ≡ 3 → bits_of 2 3 ≡ packed (carried c)
  unfolding packed
  packed_reset k = rw (is_reset c k) kind_reset

  module _ (out : List ℕ) (p : ℕ) (y : List ℕ) where
    pub read_laid : c.kind % 4 ≡ 2 → y ≡ laid out p (header c 2) → y ≡ laid out p (packed (carried c))
    read_laid k e = e ∙ ap (laid out p) (packed_read k)

    pub reset_laid : c.kind % 4 ≡ 3 → y ≡ laid out p (bits_of 2 3) → y ≡ laid out p (packed (carried c))
    reset_laid k e = e ∙ ap (laid out p) (packed_reset k)

module _ (c : Call) (d : number_of (own_lines (carried c)) ≡ done) (long : length c.values ≡ 32) where
  packed_look : c.kind % 4 ≡ 0 → bits_of 2 0 ++ spelled 13 (take 8 c.values) ≡ packed (carried c)
  unfolding packed
  packed_look k = rw (is_look c k, look_fits c d k, firsts_take 8 c.values (omega arith), kind_look)

  packed_write : c.kind % 4 ≡ 1 → header c 1 ++ spelled 8 (take c.count c.values) ≡ packed (carried c)
  unfolding packed
  packed_write k =
      let f = write_fits c d k in
      let a = bits_of 8 c.first in
      let n = bits_of 5 (c.count - 1) in
      let bytes = spelled 8 (take c.count c.values) in
      let front = firsts_take c.count c.values (omega arith) in
      rw (is_write c k, told_length c, spelled_low (firsts c.count c.values), front, address_low c.first, kind_write)
      (ap (λ (l : List Bool). false ∷ true ∷ l) (append_assoc a n bytes))

module _ (out : List ℕ) (p : ℕ) (h : p ≤ length out * 8) where
  both_laid : (y z : List ℕ) (f g : List Bool) (q : ℕ) → q ≡ p + length f → y ≡ laid out p f → z ≡ laid y q g → z ≡ laid out p (f ++ g)
  both_laid y z f g q e ey ez = ez ∙ rw (ey, e) (laid_next out p f g h)

  pub access_laid : (c : Call) (kind : ℕ) (x y z : List ℕ)
      → x ≡ laid out p (bits_of 2 kind) → y ≡ laid x (p + 2) (bits_of 8 c.first) → z ≡ laid y (p + 10) (bits_of 5 (c.count - 1)) → z ≡ laid out p (header c kind)
  access_laid c kind x y z ex ey ez =
      let a = bits_of 2 kind in
      let b = bits_of 8 c.first in
      let n = bits_of 5 (c.count - 1) in
      let la = bits_length 2 kind in
      let lb = bits_length 8 c.first in
      let two = both_laid x y a b (p + 2) (rw la) ex ey in
      let ten : p + 10 ≡ p + length (a ++ b) = rw (length-append a b, la, lb) in
      both_laid y z (a ++ b) n (p + 10) ten two ez ∙ ap (laid out p) (append_assoc a b n)

  module _ (c : Call) (d : number_of (own_lines (carried c)) ≡ done) (long : length c.values ≡ 32) where
    pub look_laid : c.kind % 4 ≡ 0 → (y z : List ℕ) → y ≡ laid out p (bits_of 2 0) → z ≡ laid y (p + 2) (spelled 13 (take 8 c.values))
        → z ≡ laid out p (packed (carried c))
    look_laid k y z ey ez =
        let samples = spelled 13 (take 8 c.values) in
        both_laid y z (bits_of 2 0) samples (p + 2) (rw (bits_length 2 0)) ey ez ∙ ap (laid out p) (packed_look c d long k)

    pub write_laid : c.kind % 4 ≡ 1 → (n : ℕ) → n ≡ c.count → (y z : List ℕ)
        → y ≡ laid out p (header c 1) → z ≡ laid y (p + 15) (spelled 8 (take n c.values)) → z ≡ laid out p (packed (carried c))
    write_laid k n e y z ey ez =
        let bytes = ap (λ (m : ℕ). laid y (p + 15) (spelled 8 (take m c.values))) e in
        both_laid y z (header c 1) (spelled 8 (take c.count c.values)) (p + 15) (ap (λ (m : ℕ). p + m) (sym (header_length c 1))) ey (ez ∙ bytes)
        ∙ ap (laid out p) (packed_write c d long k)
