-- Laws of the bytes of an access.
--
--    written_by                          what a byte does to the register that is told
--    wrote_end, wrote_next               no byte is left to write; one is written, and then the rest
--    read_by                             what a read of the register that is told gives
--    none, some                          a buffer that is empty, and one that isn't
--    read_end, read_last                 an empty buffer is filled with nothing; the last place
--    rest x b, back x b e                what is lent of a buffer x once b is in its first place, and the buffer once that came back as e
--    rest_length, back_length, back_is   their lengths, and what the buffer then holds
--    read_more                           one byte is read, and then the rest
--    evtcode_at, evtcode_stays           the register at 0x10, and the address after it
--    picture_at, picture_next            the picture's registers, and the address after each
--    shown_picture                       what is shown by the rows' masks is the picture
--    shown_code, taken_code              what is shown by the rows' masks and marked is a read of the picture; a code taken out is one of EVTCODE
--    mark_held                           a mark leaves the keys
--    none_read                           a read of EVTCODE while no code waits
--    none_left                           none waits once the only one is taken out
--    read_at                             a read from an address that is told
--    after a n                           the address of the byte behind n bytes
--    read_split, bytes_first             a read in two parts, and the bytes of the first; bytes_last: the last byte
--    code m i                            the code that byte i of a read of EVTCODE gives
--    still_evtcode, codes_next, codes_all    behind EVTCODE comes EVTCODE; one byte more, and all
-- Assumes nothing.
use Prim.Native.Nat.{ℕ, zero, suc, ◌+◌, ◌-◌, ◌≤◌, ◌<◌}
use native.Mathlib.Decide.{dec_lt}
use native.Mathlib.Numerals.{add-one, sub-one}
use native.Mathlib.Omega.{arith}
use mathlib.Core.Path.{◌≡◌, refl, sym, ap, subst, ◌∙◌}
use mathlib.Core.Bool.{Bool, true, false}
use mathlib.Core.List.{List, [], ◌∷◌, ◌++◌, append-nil}
use lib.Dec.{eqb}
use borrow.Author.Tests.{le-ltb, lt-ltb, eqb-true, eqb-false}
use lib.ListN.{length, get_or, take, drop, set, length-take, length-drop, length-set, drop_of_length-le}
use lib.Seq.{drop-cons, drop-length}
use borrow.Rule.Slice.PartMut.{put_mid, same_len_mid}
use Rattle.words.specs.Words.{◌if◌, ◌else◌, table}
use Rattle.words.proofs.Lists.{by_test}
use Rattle.words.proofs.Tables.{table_front}
use Rattle.registers.specs.declared.Register.{Register}
use Rattle.registers.specs.declared.Register.TheVariants.{KBDCODE, EVTCODE}
use Rattle.registers.specs.Registers.{register_at}
use Rattle.registers.specs.Runs.{next}
use Rattle.state.specs.declared.Module.{Module}
use Rattle.state.specs.Module.{Queue, forgotten, queue, queue_of, with_queue, with_rsint, with_seen}
use Rattle.state.specs.Queue.{waits, oldest, taken}
use Rattle.picture.specs.Picture.{held_codes, nth, picture, marked, all_read}
use Rattle.picture.specs.Masks.{by_masks}
use Rattle.access.specs.Bytes.{written, byte_of, read_out}
use Rattle.access.specs.Accesses.{wrote, read_all, bytes_read}

pub written_by : (m : Module) (b : ℕ) (r s : Register) → r ≡ s → written m s b ≡ written m r b
written_by m b r s e = sym (ap (λ (k : Register). written m k b) e)

module _ (m : Module) (a : ℕ) (bs : List ℕ) (i : ℕ) where
  pub wrote_end : length bs ≤ i → wrote m a (drop i bs) ≡ m
  unfolding wrote
  wrote_end h = rw (drop_of_length-le bs h)

  wrote_more : i < length bs → wrote m a (drop i bs) ≡ wrote (written m (register_at a) (get_or bs i 0)) (next a) (drop (i + 1) bs)
  unfolding wrote
  wrote_more h = rw (drop-cons bs i 0 h, add-one i)

pub wrote_next : (m n : Module) (a b : ℕ) (r : Register) (bs : List ℕ) (i : ℕ) → i < length bs → r ≡ register_at a → n ≡ written m r (get_or bs i 0) → b ≡ next a
    → wrote m a (drop i bs) ≡ wrote n b (drop (i + 1) bs)
wrote_next m n a b r bs i h er en eb = wrote_more m a bs i h ∙ rw (en, er, eb) refl

pub read_by : (m n : Module) (b : ℕ) (r s : Register) → r ≡ s → (b ≡ byte_of m s) × (n ≡ read_out m s) → (b ≡ byte_of m r) × (n ≡ read_out m r)
read_by m n b r s e h = subst (λ (k : Register). (b ≡ byte_of m k) × (n ≡ read_out m k)) (sym e) h

-- ---- byte for byte
-- by the test whether the buffer is empty
pub none : (x : List ℕ) (t : Bool) → t ≡ eqb (length x) 0 → t ≡ true → length x < 1
none x t e h = let z = eqb-true (length x) 0 (sym e ∙ h) in omega arith

pub some : (x : List ℕ) (t : Bool) → t ≡ eqb (length x) 0 → t ≡ false → 1 ≤ length x
some x t e h = let z = eqb-false (length x) 0 (sym e ∙ h) in omega arith

pub read_end : (m : Module) (a : ℕ) (out : List ℕ) → length out < 1 → (m ≡ read_all m a (length out)) × (out ≡ bytes_read m a (length out))
unfolding read_all bytes_read
read_end m a [] h = (refl, refl)
read_end m a (b ∷ out) h = absurd (omega arith)

pub read_last : (m : Module) (a : ℕ) (x : List ℕ) (r : Register) (o : Module) (b : ℕ) → 1 ≤ length x → length x < 2 → r ≡ register_at a → (b ≡ byte_of m r) × (o ≡ read_out m r)
    → (o ≡ read_all m a (length x)) × (set x 0 b ≡ bytes_read m a (length x))
unfolding read_all bytes_read
read_last m a [] r o b h l er eb = absurd (omega arith)
read_last m a (y ∷ []) r o b h l er eb = rw (eb.0, eb.1, er) (refl, refl)
read_last m a (y ∷ z ∷ x) r o b h l er eb = absurd (omega arith)

abbrev pub rest : List ℕ → ℕ → List ℕ
rest x b = take (length (set x 0 b) - 1) (drop 1 (set x 0 b))

abbrev pub back : List ℕ → ℕ → List ℕ → List ℕ
back x b e = put_mid 1 (length (set x 0 b) - 1) (set x 0 b) e

pub back_length : (x : List ℕ) (b : ℕ) (e : List ℕ) → length e ≡ length (rest x b) → length (back x b e) ≡ length x
back_length x b e h = same_len_mid 1 (length (set x 0 b) - 1) (set x 0 b) e h ∙ length-set x 0 b

module _ (x : List ℕ) (b : ℕ) (h : 1 ≤ length x) where
  pub rest_length : length (rest x b) ≡ length x - 1
  rest_length = simp (length-take, length-drop, length-set) (omega arith)

  pub back_is : (e : List ℕ) → back x b e ≡ b ∷ e
  back_is e = go x h
    where
      gone : (y : List ℕ) → drop (suc (length y) - 1) y ≡ []
      gone y = ap (λ (k : ℕ). drop k y) (sub-one (suc (length y))) ∙ drop-length y

      go : (y : List ℕ) → 1 ≤ length y → back y b e ≡ b ∷ e
      go [] k = absurd (omega arith)
      go (z ∷ y) k = ap (λ (l : List ℕ). b ∷ (e ++ l)) (gone y) ∙ ap (λ (l : List ℕ). b ∷ l) (append-nil e)

module _ (m : Module) (a : ℕ) where
  all_more : (n : ℕ) → 1 ≤ n → read_all m a n ≡ read_all (read_out m (register_at a)) (next a) (n - 1)
  unfolding read_all
  all_more zero h = absurd (omega arith)
  all_more (suc n) h = simp sub-one

  bytes_more : (n : ℕ) → 1 ≤ n → bytes_read m a n ≡ byte_of m (register_at a) ∷ bytes_read (read_out m (register_at a)) (next a) (n - 1)
  unfolding bytes_read
  bytes_more zero h = absurd (omega arith)
  bytes_more (suc n) h = simp sub-one

  module _ (n : ℕ) (r : Register) (o : Module) (b c k : ℕ) (h : 1 ≤ n) (er : r ≡ register_at a) (eb : (b ≡ byte_of m r) × (o ≡ read_out m r)) (ec : c ≡ next a) (ek : k ≡ n - 1) where
    read_next : (read_all o c k ≡ read_all m a n) × (b ∷ bytes_read o c k ≡ bytes_read m a n)
    read_next = rw (eb.0, eb.1, er, ec, ek) (sym (all_more n h), sym (bytes_more n h))

  pub read_more : (x : List ℕ) (r : Register) (o p : Module) (b c : ℕ) (e : List ℕ) → 1 ≤ length x → r ≡ register_at a → (b ≡ byte_of m r) × (o ≡ read_out m r) → c ≡ next a
      → (p ≡ read_all o c (length (rest x b))) × (e ≡ bytes_read o c (length (rest x b)))
      → (p ≡ read_all m a (length x)) × (back x b e ≡ bytes_read m a (length x))
  read_more x r o p b c e h er eb ec f =
      let n = read_next (length x) r o b c (length (rest x b)) h er eb ec (rest_length x b h) in
      (f.0 ∙ n.0, back_is x b h e ∙ ap (λ (l : List ℕ). b ∷ l) f.1 ∙ n.1)

pub evtcode_at : EVTCODE ≡ register_at 0x10
unfolding register_at
evtcode_at = refl

pub evtcode_stays : 0x10 ≡ next 0x10
unfolding next
evtcode_stays = refl

-- the picture's registers
pub picture_at : (n : ℕ) → n < 4 → KBDCODE n ≡ register_at (0x0B + n)
unfolding register_at
picture_at zero h = refl
picture_at (suc zero) h = refl
picture_at (suc (suc zero)) h = refl
picture_at (suc (suc (suc zero))) h = refl
picture_at (suc (suc (suc (suc n)))) h = absurd (omega arith)

pub picture_next : (n : ℕ) → n < 4 → 0x0B + (n + 1) ≡ next (0x0B + n)
unfolding next
picture_next zero h = refl
picture_next (suc zero) h = refl
picture_next (suc (suc zero)) h = refl
picture_next (suc (suc (suc zero))) h = refl
picture_next (suc (suc (suc (suc n)))) h = absurd (omega arith)

pub shown_picture : (hs : List Bool) (ms : List ℕ) (n b : ℕ) → b ≡ nth n (by_masks 0 ms) → by_masks 0 ms ≡ held_codes 0 hs → b ≡ picture n hs
unfolding picture
shown_picture hs ms n b e f = e ∙ ap (nth n) f

pub shown_code : (m n : Module) (ms : List ℕ) (k b : ℕ) (hs : List Bool) → by_masks 0 ms ≡ held_codes 0 hs → m.held ≡ hs → b ≡ nth k (by_masks 0 ms) → n ≡ marked m k → (b ≡ byte_of m (KBDCODE k)) × (n ≡ read_out m (KBDCODE k))
unfolding byte_of read_out picture
shown_code m n ms k b hs e h eb en = (rw h (eb ∙ ap (nth k) e), en)

pub taken_code : (m n : Module) (b : ℕ) → (b ≡ oldest (queue_of m)) × (n ≡ with_queue m (taken (queue_of m))) → (b ≡ byte_of m EVTCODE) × (n ≡ read_out m EVTCODE)
unfolding byte_of read_out
taken_code m n b e = e

pub mark_held : (m : Module) (n : ℕ) → (marked m n).held ≡ m.held
unfolding marked
mark_held m n = by_test (λ t. (with_seen (with_rsint m false) forgotten if t else with_seen m (set m.seen n true)).held ≡ m.held) (all_read (set m.seen n true)) (λ e. refl) (λ e. refl)

-- no code waits
module _ (m : Module) (none : m.count < 1) where
  none_byte : byte_of m EVTCODE ≡ 0x7F
  unfolding byte_of oldest waits
  none_byte = rw (le-ltb 0 m.count (omega arith))

  none_out : read_out m EVTCODE ≡ m
  unfolding read_out taken waits
  none_out = rw (le-ltb 0 m.count (omega arith))

  pub none_read : (n : ℕ) → (m ≡ read_all m 0x10 n) × (table (λ _. 0x7F) n ≡ bytes_read m 0x10 n)
  unfolding read_all bytes_read register_at next table
  none_read zero = (refl, refl)
  none_read (suc n) = rw (none_byte, none_out) ((none_read n).0, table_front 0x7F n ∙ ap (λ (l : List ℕ). 0x7F ∷ l) (none_read n).1)

taken_count : (q : Queue) → q.count < 2 → (taken q).count < 1
unfolding taken waits
taken_count q h = go (dec_lt 0 q.count)
  where
    go : Dec (0 < q.count) → (taken q).count < 1
    go (yes l) = rw (lt-ltb 0 q.count l) (omega arith)
    go (no l) = rw (le-ltb 0 q.count (omega arith)) (omega arith)

pub none_left : (m : Module) (l : List ℕ) (n c : ℕ) → m.count < 2 → ((r : Bool) → (c ≡ oldest (queue m.queue m.count r)) × (queue l n r ≡ taken (queue m.queue m.count r))) → n < 1
none_left m l n c few h =
    subst (λ (k : ℕ). k < 1) (sym (ap (λ (q : Queue). q.count) (h m.relint).1)) (taken_count (queue m.queue m.count m.relint) few)

pub read_at : (m o : Module) (e : List ℕ) (a b n : ℕ) → a ≡ b → (o ≡ read_all m b n) × (e ≡ bytes_read m b n) → (o ≡ read_all m a n) × (e ≡ bytes_read m a n)
read_at m o e a b n h f = subst (λ (k : ℕ). (o ≡ read_all m k n) × (e ≡ bytes_read m k n)) (sym h) f

-- ---- a read in two parts
unfoldable pub after : ℕ → ℕ → ℕ
after a zero = a
after a (suc n) = after (next a) n

pub read_split : (m : Module) (a n k : ℕ) → read_all m a (n + k) ≡ read_all (read_all m a n) (after a n) k
unfolding read_all after
read_split m a zero k = let e : zero + k ≡ k = omega arith in ap (read_all m a) e
read_split m a (suc n) k = let e : suc n + k ≡ suc (n + k) = omega arith in ap (read_all m a) e ∙ read_split (read_out m (register_at a)) (next a) n k

pub bytes_first : (m : Module) (a n k : ℕ) → take n (bytes_read m a (n + k)) ≡ bytes_read m a n
unfolding bytes_read
bytes_first m a zero k = refl
bytes_first m a (suc n) k =
    let e : suc n + k ≡ suc (n + k) = omega arith in
    ap (λ (j : ℕ). take (suc n) (bytes_read m a j)) e ∙ ap (λ (l : List ℕ). byte_of m (register_at a) ∷ l) (bytes_first (read_out m (register_at a)) (next a) n k)

bytes_last : (m : Module) (a n : ℕ) → bytes_read m a (suc n) ≡ bytes_read m a n ++ (byte_of (read_all m a n) (register_at (after a n)) ∷ [])
unfolding read_all bytes_read after
bytes_last m a zero = refl
bytes_last m a (suc n) = ap (λ (l : List ℕ). byte_of m (register_at a) ∷ l) (bytes_last (read_out m (register_at a)) (next a) n)

-- ---- EVTCODE, byte for byte
still_evtcode : (n : ℕ) → EVTCODE ≡ register_at (after 0x10 n)
unfolding after next register_at
still_evtcode zero = refl
still_evtcode (suc n) = still_evtcode n

module _ (m : Module) where
  unfoldable pub code : ℕ → ℕ
  code i = byte_of (read_all m 0x10 i) EVTCODE

  pub codes_next : (o p : Module) (c i : ℕ) → o ≡ read_all m 0x10 i → (c ≡ byte_of o EVTCODE) × (p ≡ read_out o EVTCODE) → (c ≡ code i) × (p ≡ read_all m 0x10 (i + 1))
  unfolding code read_all
  codes_next o p c i e f = (
    f.0 ∙ ap (λ (x : Module). byte_of x EVTCODE) e,
    f.1 ∙ (λ j. read_out (e j) (still_evtcode i j)) ∙ sym (read_split m 0x10 i 1),
  )

  pub codes_all : (n : ℕ) → table code n ≡ bytes_read m 0x10 n
  unfolding code table bytes_read
  codes_all zero = refl
  codes_all (suc n) = (λ j. codes_all n j ++ (byte_of (read_all m 0x10 n) (still_evtcode n j) ∷ [])) ∙ sym (bytes_last m 0x10 n)
