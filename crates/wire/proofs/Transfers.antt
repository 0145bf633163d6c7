-- WHOLE TRANSFERS: what the bus is handed, and the access that a transfer comes to.
--
--    asked n w          the wire w, once the bus has asked for n bytes
--    giving w l n       the wire w, reading, with the bytes l made ahead and n of them given
--    next_ahead, next_past    the bus asks for a byte: one is ahead; all were given
--    begun_giving       a read that is begun gives what is ahead, from the first on
--    asked_giving       and so it does byte after byte, up to the last
--    gives_ahead        byte number n, from 0, is that of those ahead, and FF past them
--    ahead_done, ahead_none, ahead_most    what is ahead: all that can be read, or nothing
--    sent_ahead         the bytes that were sent are the first of those ahead
--    ends_given         how many of them count, whatever the module is at the stop; ends-most, ends-first: they are the first of those sent, and a read now gives them
--    ends_done          the read of as many bytes as count is declined by 8 and 27 alone
--    one_access         a read with nothing between: all count, and the bus was handed what the one read of them gives
--    took w bs          the wire w, once the bytes bs came
--    collecting a l     a wire that has collected the bytes l for the address a; took-all: and then others
--    one_write          a write: the first byte names the address, and the others, 33 at most, are those of one write
-- Assumes nothing.
use Prim.Native.Nat.{ℕ, zero, suc, ◌+◌, ◌-◌, ◌≤◌, ◌<◌}
use native.Mathlib.Omega.{arith}
use native.Mathlib.Numerals.{add-one}
use mathlib.Core.Path.{◌≡◌, refl, sym, ap, ◌∙◌}
use mathlib.Core.Bool.{true, false, cond}
use mathlib.Core.List.{List, [], ◌∷◌, ◌++◌, append-nil}
use lib.Dec.{leb, ltb, eqb}
use lib.ListN.{length, take, get_or, set, replicate, length-take, length-append, get_or-eq_default}
use lib.Seq.{get_or-take, take-take, take_all, take-length, append_snoc, set-append_seam}
use borrow.Author.Tests.{ltb-true, ltb-false, leb-true, leb-false, ne_eqb}
use Rattle.words.proofs.Lists.{by_test}
use Rattle.state.specs.declared.Module.{Module}
use Rattle.sound.specs.Sound.{sound}
use Rattle.access.specs.Accesses.{bytes_read}
use Rattle.calls.specs.Calls.{access_number, read_number}
use Rattle.wire.specs.declared.Wire.{Wire}
use Rattle.wire.specs.Wire.{Handed, Kept, longest, least, agreed, filled, opened, ahead, begin_read, begin_write, take_byte, next_byte, sent, counted, stop}
use Rattle.wire.proofs.Laws.{longest_most, least_left, least_right, least_most, filled_take, filled_at, bytes_length, first_bytes, reads_done, run_within, silent_past, byte_given, byte_names, byte_kept, agreed_most, agreed_all, agreed_first}

unfoldable pub asked : ℕ → Wire → Wire
asked zero w = w
asked (suc n) w = (next_byte (asked n w)).wire

unfoldable pub giving : Wire → List ℕ → ℕ → Wire
giving w l n = record { bytes = filled l; count = length l; given = n; first = w.first; doing = 3 }

any_default : (l : List ℕ) (n : ℕ) → n < length l → (d e : ℕ) → get_or l n d ≡ get_or l n e
any_default [] n h d e = absurd (omega arith)
any_default (x ∷ l) zero h d e = refl
any_default (x ∷ l) (suc n) h d e = any_default l n (omega arith) d e

take_least : (k n : ℕ) (l : List ℕ) → k ≤ n → take (least k (least n (length l))) l ≡ take k l
unfolding least
take_least k n l h =
    by_test (λ t. leb k (length l) ≡ t → take (least k (least n (length l))) l ≡ take k l) (leb k (length l))
    (λ _ e. ap (λ (j : ℕ). take j l) (few (leb-true k (length l) e)))
    (λ _ e. ap (λ (j : ℕ). take j l) (many (leb-false k (length l) e)) ∙ take-length l ∙ sym (take_all k l (let g = leb-false k (length l) e in omega arith))) refl
  where
    few : k ≤ length l → least k (least n (length l)) ≡ k
    few g = least_left k (least n (length l)) (by_test (λ t. k ≤ cond t n (length l)) (leb n (length l)) (λ _. h) (λ _. g))

    many : length l < k → least k (least n (length l)) ≡ length l
    many g = ap (least k) (least_right n (length l) (omega arith)) ∙ least_right k (length l) (omega arith)

-- ---- one byte
module _ (w : Wire) (l : List ℕ) (few : length l ≤ 32) (n : ℕ) where
  pub next_ahead : n < length l → next_byte (giving w l n) ≡ record { wire = giving w l (n + 1); byte = get_or l n 0 }
  unfolding giving
  next_ahead h =
      sym (byte_given (giving w l n) refl h (omega arith))
      ∙ ap (λ (b : ℕ). record { wire = giving w l (n + 1); byte = b }) (filled_at l n h)

  pub next_past : length l ≤ n → next_byte (giving w l n) ≡ record { wire = giving w l n; byte = 0xFF }
  unfolding giving
  next_past h = sym (silent_past (giving w l n) refl h)

-- ---- byte after byte
pub asked_giving : (w : Wire) (l : List ℕ) → length l ≤ 32 → (n : ℕ) → asked n (giving w l 0) ≡ giving w l (least n (length l))
unfolding asked
asked_giving w l few zero = ap (giving w l) (sym (least_left 0 (length l) (omega arith)))
asked_giving w l few (suc n) =
    ap (λ (v : Wire). (next_byte v).wire) (asked_giving w l few n)
    ∙ by_test (λ t. ltb n (length l) ≡ t → (next_byte (giving w l (least n (length l)))).wire ≡ giving w l (least (suc n) (length l))) (ltb n (length l))
    (λ _ e. more (ltb-true n (length l) e)) (λ _ e. over (ltb-false n (length l) e)) refl
  where
    more : n < length l → (next_byte (giving w l (least n (length l)))).wire ≡ giving w l (least (suc n) (length l))
    more h =
        ap (λ (k : ℕ). (next_byte (giving w l k)).wire) (least_left n (length l) (omega arith))
        ∙ ap (λ (o : Handed). o.wire) (next_ahead w l few n h)
        ∙ ap (giving w l) (add-one n ∙ sym (least_left (suc n) (length l) (omega arith)))

    over : length l ≤ n → (next_byte (giving w l (least n (length l)))).wire ≡ giving w l (least (suc n) (length l))
    over h =
        ap (λ (k : ℕ). (next_byte (giving w l k)).wire) (least_right n (length l) h)
        ∙ ap (λ (o : Handed). o.wire) (next_past w l few (length l) (omega arith))
        ∙ ap (giving w l) (sym (least_right (suc n) (length l) (omega arith)))

-- ---- the end of a read
module _ (w : Wire) (l : List ℕ) (most : length l ≤ longest w.first) (n k : ℕ) (h : k ≤ n) where
  giving_sent : sent (giving w l (least n (length l))) k ≡ take k l
  unfolding sent giving
  giving_sent =
      let g = least_most n (length l) in
      let i = least_most k (least n (length l)) in
      ap (λ (j : ℕ). take (least k j) (filled l)) (least_left (least n (length l)) (longest w.first) (omega arith))
      ∙ filled_take l (least k (least n (length l))) (omega arith)
      ∙ take_least k n l h

giving_stop : (x : Module) (w : Wire) (l : List ℕ) (g k : ℕ) → (stop x (giving w l g) k).count ≡ agreed x w.first (sent (giving w l g) k)
unfolding stop counted giving
giving_stop x w l g k = refl

module _ (m : Module) (w : Wire) where
  abbrev a : ℕ
  a = w.first

  abbrev begun : Wire
  begun = (begin_read m w).wire

  pub ahead_done : read_number m a 1 ≡ 0 → ahead m a ≡ bytes_read m a (longest a)
  unfolding ahead
  ahead_done e = rw e refl

  pub ahead_none : (read_number m a 1 ≡ 0 → ⊥) → ahead m a ≡ []
  unfolding ahead
  ahead_none h = rw (ne_eqb (read_number m a 1) 0 h) refl

  pub ahead_most : length (ahead m a) ≤ longest a
  unfolding ahead
  ahead_most =
      let most = bytes_length m a (longest a) in
      by_test (λ t. length (cond t (bytes_read m a (longest a)) []) ≤ longest a) (eqb (read_number m a 1) 0) (λ _. omega arith) (λ _. omega arith)

  few_ahead : length (ahead m a) ≤ 32
  few_ahead =
      let most = longest_most a in
      let some = ahead_most in omega arith

  pub begun_giving : begun ≡ giving w (ahead m a) 0
  unfolding begin_read opened giving
  begun_giving = refl

  asked_begun : (n : ℕ) → asked n begun ≡ giving w (ahead m a) (least n (length (ahead m a)))
  asked_begun n = ap (asked n) begun_giving ∙ asked_giving w (ahead m a) few_ahead n

  pub gives_ahead : (n : ℕ) → (next_byte (asked n begun)).byte ≡ get_or (ahead m a) n 0xFF
  gives_ahead n =
      ap (λ (v : Wire). (next_byte v).byte) (asked_begun n)
      ∙ by_test (λ t. ltb n (length (ahead m a)) ≡ t → (next_byte (giving w (ahead m a) (least n (length (ahead m a))))).byte ≡ get_or (ahead m a) n 0xFF) (ltb n (length (ahead m a)))
      (λ _ e. there (ltb-true n (length (ahead m a)) e)) (λ _ e. past (ltb-false n (length (ahead m a)) e)) refl
    where
      there : n < length (ahead m a) → (next_byte (giving w (ahead m a) (least n (length (ahead m a))))).byte ≡ get_or (ahead m a) n 0xFF
      there h =
          ap (λ (k : ℕ). (next_byte (giving w (ahead m a) k)).byte) (least_left n (length (ahead m a)) (omega arith))
          ∙ ap (λ (o : Handed). o.byte) (next_ahead w (ahead m a) few_ahead n h)
          ∙ any_default (ahead m a) n h 0 0xFF

      past : length (ahead m a) ≤ n → (next_byte (giving w (ahead m a) (least n (length (ahead m a))))).byte ≡ get_or (ahead m a) n 0xFF
      past h =
          ap (λ (k : ℕ). (next_byte (giving w (ahead m a) k)).byte) (least_right n (length (ahead m a)) h)
          ∙ ap (λ (o : Handed). o.byte) (next_past w (ahead m a) few_ahead (length (ahead m a)) (omega arith))
          ∙ sym (get_or-eq_default (ahead m a) 0xFF h)

  -- ---- the end
  pub sent_ahead : (n k : ℕ) → k ≤ n → sent (asked n begun) k ≡ take k (ahead m a)
  sent_ahead n k h = ap (λ (v : Wire). sent v k) (asked_begun n) ∙ giving_sent w (ahead m a) ahead_most n k h

  -- what was sent, and came to the stop of a module x
  pub ends_given : (x : Module) (n k : ℕ) → k ≤ n → (stop x (asked n begun) k).count ≡ agreed x a (take k (ahead m a))
  ends_given x n k h =
      ap (λ (v : Wire). (stop x v k).count) (asked_begun n)
      ∙ giving_stop x w (ahead m a) (least n (length (ahead m a))) k
      ∙ ap (agreed x a) (giving_sent w (ahead m a) ahead_most n k h)

  module _ (ok : sound m ≡ true) (z : m.asleep ≡ false) (n : ℕ) (some : 1 ≤ n) (l : n ≤ longest a) where
    few : n ≤ 32
    few =
        let most = longest_most a in
        omega arith

    its_ahead : ahead m a ≡ bytes_read m a (longest a)
    its_ahead = ahead_done (reads_done m a 1 ok z (omega arith) (omega arith) (run_within a 1 (omega arith)))

    its_bytes : take n (ahead m a) ≡ bytes_read m a n
    its_bytes = ap (take n) its_ahead ∙ first_bytes m a n (longest a) l

    its_byte : (k : ℕ) → k < n → get_or (ahead m a) k 0xFF ≡ get_or (bytes_read m a n) k 0
    its_byte k h =
        let long = bytes_length m a n in
        sym (get_or-take n (ahead m a) k 0xFF h)
        ∙ ap (λ (r : List ℕ). get_or r k 0xFF) its_bytes
        ∙ any_default (bytes_read m a n) k (omega arith) 0xFF 0

    pub one_access : ((stop m (asked n begun) n).count ≡ n) × (read_number m a n ≡ 0) × ((k : ℕ) → k < n → (next_byte (asked k begun)).byte ≡ get_or (bytes_read m a n) k 0)
    one_access = (
      ends_given m n n (omega arith) ∙ ap (agreed m a) its_bytes ∙ agreed_all m a n,
      reads_done m a n ok z some few (run_within a n l),
      λ k h. gives_ahead k ∙ its_byte k h,
    )

-- ---- a look came between: the module x is not the one that the bytes were made of
module _ (m x : Module) (w : Wire) (n k : ℕ) (h : k ≤ n) where
  abbrev counts : ℕ
  counts = (stop x (asked n (begin_read m w).wire) k).count

  pub ends_most : (counts ≤ k) × (counts ≤ longest w.first)
  ends_most =
      let e = ends_given m w x n k h in
      let most = agreed_most x w.first (take k (ahead m w.first)) in
      let long = length-take k (ahead m w.first) in
      let few = ahead_most m w in
      (omega arith, omega arith)

  -- "the bytes that were really sent": those that count were sent, and are given now
  pub ends_first : take counts (ahead m w.first) ≡ bytes_read x w.first counts
  ends_first =
      let l = ahead m w.first in
      let e = ends_given m w x n k h in
      let fewer = ends_most.0 in
      sym (take-take counts k l fewer)
      ∙ ap (λ (j : ℕ). take j (take k l)) e
      ∙ agreed_first x w.first (take k l)
      ∙ ap (bytes_read x w.first) (sym e)

  -- so the access that the transfer comes to is declined by 8 and 27 alone
  pub ends_done : sound x ≡ true → x.asleep ≡ false → 1 ≤ counts → read_number x w.first counts ≡ 0
  ends_done ok z some =
      let most = longest_most w.first in
      let within = ends_most.1 in
      reads_done x w.first counts ok z some (omega arith) (run_within w.first counts within)

-- ---- a write
unfoldable pub took : Wire → List ℕ → Wire
took w [] = w
took w (b ∷ bs) = took (take_byte w b).wire bs

unfoldable pub collecting : ℕ → List ℕ → Wire
collecting a l = record { bytes = filled l; count = length l; given = 0; first = a; doing = 2 }

filled_more : (l : List ℕ) (b : ℕ) → length l < 33 → set (filled l) (length l) b ≡ filled (l ++ (b ∷ []))
unfolding filled
filled_more l b h =
    let e : 33 - length l ≡ suc (32 - length l) = omega arith in
    let k : length (l ++ (b ∷ [])) ≡ suc (length l) = length-append l (b ∷ []) ∙ omega arith in
    let f : 32 - length l ≡ 33 - length (l ++ (b ∷ [])) = omega arith in
    ap (λ (n : ℕ). set (l ++ replicate n 0) (length l) b) e
    ∙ set-append_seam l 0 (replicate (32 - length l) 0) b
    ∙ sym (append_snoc l b (replicate (32 - length l) 0))
    ∙ ap (λ (n : ℕ). (l ++ (b ∷ [])) ++ replicate n 0) f

take_more : (a : ℕ) (l : List ℕ) (b : ℕ) → length l < 33 → (take_byte (collecting a l) b).wire ≡ collecting a (l ++ (b ∷ []))
unfolding collecting
take_more a l b h =
    let k : length l + 1 ≡ length (l ++ (b ∷ [])) = sym (length-append l (b ∷ [])) in
    ap (λ (o : Kept). o.wire) (sym (byte_kept (collecting a l) b (λ e. omega arith) (λ e. omega arith) refl h))
    ∙ (λ i. record { bytes = filled_more l b h i; count = k i; given = 0; first = a; doing = 2 })

pub took_all : (a : ℕ) (l bs : List ℕ) → length l + length bs ≤ 33 → took (collecting a l) bs ≡ collecting a (l ++ bs)
unfolding took
took_all a l [] h = ap (collecting a) (sym (append-nil l))
took_all a l (b ∷ bs) h =
    let e : length (l ++ (b ∷ [])) ≡ length l + 1 = length-append l (b ∷ []) in
    ap (λ (v : Wire). took v bs) (take_more a l b (omega arith))
    ∙ took_all a (l ++ (b ∷ [])) bs (omega arith)
    ∙ ap (collecting a) (append_snoc l b bs)

-- the first byte names the address, and the others make one write, up to one more than an access may have
module _ (m x : Module) (w : Wire) (a : ℕ) (bs : List ℕ) (n : ℕ) (up : access_number m [] ≡ 0) (few : length bs ≤ 33) where
  its_wire : took (begin_write m w).wire (a ∷ bs) ≡ collecting a bs
  unfolding took begin_write opened collecting
  its_wire =
      ap (λ (v : Wire). took v bs) (rw up (ap (λ (o : Kept). o.wire) (sym (byte_names (opened w 1 []) a refl))))
      ∙ took_all a [] bs (omega arith)

  pub one_write : ((stop x (took (begin_write m w).wire (a ∷ bs)) n).count ≡ length bs)
      × (take (length bs) (took (begin_write m w).wire (a ∷ bs)).bytes ≡ bs)
      × ((took (begin_write m w).wire (a ∷ bs)).first ≡ a)
  unfolding collecting stop counted
  one_write = (
    ap (λ (v : Wire). (stop x v n).count) its_wire ∙ least_left (length bs) 33 few,
    ap (λ (v : Wire). take (length bs) v.bytes) its_wire ∙ filled_take bs (length bs) (omega arith) ∙ take-length bs,
    ap (λ (v : Wire). v.first) its_wire,
  )
