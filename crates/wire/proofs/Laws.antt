-- Laws of transfers.
--
--    longest_run, run_longest         the longest run can be read, and no longer one of 32 bytes at most can
--    longest_most, run_within         it has 32 bytes at most, and a shorter one can be read too; run-fewer: so it is of any run
--    longest_none, none_longest       it has no byte exactly if the first can't be read
--    longest_begin, readable_some, readable_none, readable_end    its walk: the beginning, an address that can be read, one that can't, and the end
--    least_left, least_right          the smaller of two numbers; least-most: it is no greater than either
--    shared_begin, shared_more, shared_differ, shared_stop    the walk of two lists: the beginning, an item that they share, one that differs, and the end
--    shared_at, shared_found          what two lists share, by the first place at which they differ
--    shared_all, shared_most          a list shares all with itself, and no more than it has
--    shared_take                      what two lists share are the first items of both
--    reads_unsound, reads_asleep, reads_none, reads_done    the number of a read
--    reads_one                        that of a read of one byte, in each case; one_none, one_done: by the longest run; one_err: declined as an access
--    read_facts                       what holds of a read that is done
--    bytes_length, first_bytes        a read gives as many bytes as it asks for; one of fewer bytes gives the first of them
--    read_leaves                      the module after a done read
--    read_prefix                      READ-PREFIX: where a read is done, one of fewer bytes is done too, gives the first of its bytes, and takes no more
--    agreed_most, agreed_first        of the bytes that a read still gives there are no more than were sent, and they are the first of those
--    agreed_all                       all are given if nothing came between
--    blank                            the room for a transfer's bytes, with none in it
--    filled_length, filled_take, filled_at    the room with bytes at its front: its length, its front, and a byte of that
--    put_filled, put_fits             the bytes of a read, put into the room
--    run_blank, run_all, run_part, part_fits    the reads that are asked for, and that what was sent lies in the room
--    agreed_is                        the bytes are compared with those of a read of as many
--    Begins b n v                     what is told and left is what b gives
--    read_declined, read_none, read_begun    a read that begins: declined as an access, or at the address, and with all made ahead; run_ahead: that these can be read
--    write_declined, write_begun      a write that begins: declined, and with the address to come; reaches: when it is not declined
--    told_kept                        what a byte that comes gives, told apart
--    byte_names, byte_refused, byte_nowhere, byte_over, byte_kept    a byte that comes: the address, that of a declined write, one that nothing waits for, one too many, and one to be written
--    has_facts                        what it is that a byte is there; given_byte, given_none: what is handed over then, and else
--    silent_else, silent_past, silent_full, byte_given    a byte that is asked for: in no read, past the last, past the room, and one that is there
--    least_min                        the smaller of two numbers, by its other name
--    write_counted, none_counted, read_counted    how many bytes there were of a transfer that stops: a write, none, and a read
--    write_ended, none_ended, read_ended    a transfer that stops, the same three
--    open_dropped                     one that is dropped
-- Assumes nothing.
use Prim.Native.Nat.{ℕ, zero, suc, ◌+◌, ◌-◌, ◌≤◌, ◌<◌, min}
use native.Mathlib.Omega.{arith}
use native.Mathlib.Numerals.{add-one, sub-one}
use mathlib.Core.Path.{◌≡◌, refl, sym, ap, subst, ◌∙◌}
use mathlib.Core.Bool.{Bool, true, false, cond, not, ◌&&◌, and-eq-true_iff}
use mathlib.Core.List.{List, [], ◌∷◌, ◌++◌}
use lib.Dec.{leb, ltb, eqb}
use lib.ListN.{length, take, drop, get_or, replicate, length-take, length-append, length-replicate, drop_of_length-le, get_or-append}
use lib.Seq.{drop-cons, take_all, take-append-le}
use Rattle.std.specs.Prelude.{Option, Some, None}
use Rattle.std.specs.Option.{unwrap_or}
use Rattle.std.specs.List.{position_or_len, zip}
use Rattle.std.proofs.lemmas.Slice.Zip.{length-zip}
use borrow.Rule.Slice.PartMut.{put_mid}
use borrow.Author.Tests.{lt-ltb, le-ltb, le-leb, eq-eqb, ne_eqb, eqb-true, eqb-false, ltb-true, ltb-false, leb-true, leb-false, not-false}
use Rattle.words.proofs.Laws.{true_false}
use Rattle.words.proofs.Lists.{by_test}
use Rattle.numbers.specs.declared.Refusal.{Refusal}
use Rattle.numbers.specs.declared.Refusal.TheVariants.{NotAllowed}
use Rattle.numbers.specs.Refusals.{number}
use Rattle.numbers.specs.Numbers.{◌gives◌, number_of, done, no_bytes, too_many, not_allowed, unsound, sleeping}
use Rattle.numbers.proofs.Laws.{line_yes, line_no, lines_end, declining, line_false, refused}
use Rattle.registers.specs.declared.Access.{Access}
use Rattle.registers.specs.declared.Access.TheVariants.{Read}
use Rattle.registers.specs.Registers.{register_at, allowed}
use Rattle.registers.specs.Runs.{next, run_allowed}
use Rattle.registers.proofs.Laws.{run_end, run_no, run_yes}
use Rattle.judge.specs.Lines.{access_lines, read_lines}
use Rattle.state.specs.declared.Module.{Module}
use Rattle.state.specs.Module.{woken}
use Rattle.sound.specs.Sound.{sound}
use Rattle.access.specs.Bytes.{read_out}
use Rattle.access.specs.Accesses.{read_all, bytes_read}
use Rattle.access.proofs.Laws.{bytes_first}
use Rattle.calls.specs.Calls.{access_number, read_number, accessed, read_call}
use Rattle.calls.proofs.Laws.{unsound_access, asleep_first, awake_then, access_err}
use Rattle.wire.specs.declared.Wire.{Wire}
use Rattle.wire.specs.Wire.{Begun, Kept, Handed, Ended, readable, longest, least, shared, agreed, filled, idle, names, reads, refuses, opened, ahead, begin_read, begin_write, named, one_more, kept, take_byte, one_given, has_more, next_byte, sent, counted, stop, drop_open}

sub_zero : (n : ℕ) → n - 0 ≡ n
sub_zero n = omega arith

zero_sub : (n : ℕ) → 0 - n ≡ 0
zero_sub n = omega arith

suc_sub : (n k : ℕ) → suc n - suc k ≡ n - k
suc_sub n k = omega arith

positive : (n : ℕ) → (n ≡ 0 → ⊥) → 1 ≤ n
positive zero h = absurd (h refl)
positive (suc n) h = omega arith

-- ---- the longest run
readable_most : (a n : ℕ) → readable a n ≤ n
unfolding readable
readable_most a zero = omega arith
readable_most a (suc n) =
    by_test (λ t. cond t (readable (next a) n + 1) 0 ≤ suc n) (allowed Read (register_at a)) (λ _. let h = readable_most (next a) n in omega arith) (λ _. omega arith)

module _ (way : Access) (a n : ℕ) where
  run_more : allowed way (register_at a) ≡ true → run_allowed way a (suc n) ≡ run_allowed way (next a) n
  run_more e = run_yes way a (suc n) (omega arith) e ∙ ap (run_allowed way (next a)) (sub-one (suc n))

  run_first : run_allowed way a (suc n) ≡ true → allowed way (register_at a) ≡ true
  run_first h =
      by_test (λ t. allowed way (register_at a) ≡ t → t ≡ true) (allowed way (register_at a))
      (λ _ _. refl) (λ _ e. true_false (sym h ∙ run_no way a (suc n) (omega arith) e)) refl

  run_rest : run_allowed way a (suc n) ≡ true → run_allowed way (next a) n ≡ true
  run_rest h = sym (run_more (run_first h)) ∙ h

readable_run : (a n : ℕ) → run_allowed Read a (readable a n) ≡ true
unfolding readable
readable_run a zero = run_end Read a
readable_run a (suc n) =
    by_test (λ t. allowed Read (register_at a) ≡ t → run_allowed Read a (cond t (readable (next a) n + 1) 0) ≡ true) (allowed Read (register_at a))
    (λ _ e. ap (run_allowed Read a) (add-one (readable (next a) n)) ∙ run_more Read a (readable (next a) n) e ∙ readable_run (next a) n)
    (λ _ _. run_end Read a) refl

run_readable : (a n k : ℕ) → k ≤ n → run_allowed Read a k ≡ true → k ≤ readable a n
unfolding readable
run_readable a n zero l h = omega arith
run_readable a zero (suc k) l h = absurd (omega arith)
run_readable a (suc n) (suc k) l h =
    let rest = run_readable (next a) n k (omega arith) (run_rest Read a k h) in
    subst (λ t. suc k ≤ cond t (readable (next a) n + 1) 0) (sym (run_first Read a k h)) (omega arith)

pub longest_most : (a : ℕ) → longest a ≤ 32
unfolding longest
longest_most a = readable_most a 32

pub longest_run : (a : ℕ) → run_allowed Read a (longest a) ≡ true
unfolding longest
longest_run a = readable_run a 32

pub run_longest : (a n : ℕ) → n ≤ 32 → run_allowed Read a n ≡ true → n ≤ longest a
unfolding longest
run_longest a n l h = run_readable a 32 n l h

pub run_fewer : (way : Access) (a n k : ℕ) → k ≤ n → run_allowed way a n ≡ true → run_allowed way a k ≡ true
run_fewer way a n zero l h = run_end way a
run_fewer way a zero (suc k) l h = absurd (omega arith)
run_fewer way a (suc n) (suc k) l h = run_more way a k (run_first way a n h) ∙ run_fewer way (next a) n k (omega arith) (run_rest way a n h)

pub run_within : (a n : ℕ) → n ≤ longest a → run_allowed Read a n ≡ true
run_within a n l = run_fewer Read a (longest a) n l (longest_run a)

pub longest_none : (a : ℕ) → longest a ≡ 0 → run_allowed Read a 1 ≡ false
longest_none a z =
    by_test (λ t. run_allowed Read a 1 ≡ t → t ≡ false) (run_allowed Read a 1)
    (λ _ e. let l = run_longest a 1 (omega arith) e in absurd (omega arith)) (λ _ _. refl) refl

pub none_longest : (a : ℕ) → run_allowed Read a 1 ≡ false → longest a ≡ 0
none_longest a e = go (longest a) refl
  where
    go : (k : ℕ) → longest a ≡ k → k ≡ 0
    go zero z = refl
    go (suc k) z = true_false (sym (run_within a 1 (omega arith)) ∙ e)

-- the walk of the addresses: n can be read, and k are left
pub longest_begin : (first : ℕ) → longest first ≡ 0 + readable first (32 - 0)
unfolding longest
longest_begin first = omega arith

module _ (first a n k : ℕ) (e : longest first ≡ n + readable a k) where
  pub readable_end : k ≡ 0 → n ≡ longest first
  unfolding readable
  readable_end z = sym (e ∙ ap (λ (j : ℕ). n + readable a j) z ∙ omega arith)

  pub readable_none : allowed Read (register_at a) ≡ false → n ≡ longest first
  unfolding readable
  readable_none f = sym (e ∙ ap (λ (j : ℕ). n + j) (none k) ∙ omega arith)
    where
      none : (j : ℕ) → readable a j ≡ 0
      none zero = refl
      none (suc j) = rw f refl

module _ (first a n : ℕ) (e : longest first ≡ n + readable a (32 - n)) where
  pub readable_some : allowed Read (register_at a) ≡ true → n < 32 → (b : ℕ) → b ≡ next a → longest first ≡ (n + 1) + readable b (32 - (n + 1))
  unfolding readable
  readable_some f h b eb =
      let k : 32 - n ≡ suc (32 - (n + 1)) = omega arith in
      e ∙ ap (λ (j : ℕ). n + readable a j) k ∙ rw (f, eb) (omega arith)

-- ---- the smaller of two numbers
module _ (a b : ℕ) where
  pub least_left : a ≤ b → least a b ≡ a
  unfolding least
  least_left h = rw (le-leb a b h) refl

  pub least_right : b ≤ a → least a b ≡ b
  unfolding least
  least_right h =
      by_test (λ t. leb a b ≡ t → cond t a b ≡ b) (leb a b) (λ _ e. let l = leb-true a b e in omega arith) (λ _ _. refl) refl

  pub least_most : (least a b ≤ a) × (least a b ≤ b)
  unfolding least
  least_most =
      by_test (λ t. leb a b ≡ t → (cond t a b ≤ a) × (cond t a b ≤ b)) (leb a b)
      (λ _ e. let l = leb-true a b e in (omega arith, omega arith)) (λ _ e. let l = leb-false a b e in (omega arith, omega arith)) refl

-- ---- what two lists share
module _ (k l : List ℕ) (n : ℕ) where
  shared_end : length k ≤ n → shared (drop n k) (drop n l) ≡ 0
  unfolding shared
  shared_end h = rw (drop_of_length-le k h) refl

  module _ (h : n < length k) (g : n < length l) where
    shared_no : (get_or k n 0 ≡ get_or l n 0 → ⊥) → shared (drop n k) (drop n l) ≡ 0
    unfolding shared
    shared_no d = rw (drop-cons k n 0 h, drop-cons l n 0 g, ne_eqb (get_or k n 0) (get_or l n 0) d) refl

    shared_yes : get_or k n 0 ≡ get_or l n 0 → shared (drop n k) (drop n l) ≡ shared (drop (n + 1) k) (drop (n + 1) l) + 1
    unfolding shared
    shared_yes d = rw (drop-cons k n 0 h, drop-cons l n 0 g, eq-eqb (get_or k n 0) (get_or l n 0) d, add-one n) refl

-- the walk of two lists: n items are shared
pub shared_begin : (k l : List ℕ) → shared k l ≡ 0 + shared (drop 0 k) (drop 0 l)
shared_begin k l = omega arith

module _ (k l : List ℕ) (n : ℕ) (e : shared k l ≡ n + shared (drop n k) (drop n l)) where
  pub shared_stop : length k ≤ n → n ≡ shared k l
  shared_stop h = sym (e ∙ ap (λ (j : ℕ). n + j) (shared_end k l n h) ∙ omega arith)

  module _ (h : n < length k) (g : n < length l) where
    pub shared_differ : (get_or k n 0 ≡ get_or l n 0 → ⊥) → n ≡ shared k l
    shared_differ d = sym (e ∙ ap (λ (j : ℕ). n + j) (shared_no k l n h g d) ∙ omega arith)

    pub shared_more : get_or k n 0 ≡ get_or l n 0 → shared k l ≡ (n + 1) + shared (drop (n + 1) k) (drop (n + 1) l)
    shared_more d = e ∙ ap (λ (j : ℕ). n + j) (shared_yes k l n h g d) ∙ omega arith

abbrev differ : ℕ × ℕ → Bool
differ p = not (eqb p.0 p.1)

shared_at : (k l : List ℕ) → length k ≡ length l → shared k l ≡ position_or_len differ (zip k l)
unfolding shared
shared_at [] l e = refl
shared_at (x ∷ k) [] e = absurd (omega arith)
shared_at (x ∷ k) (y ∷ l) e =
    let h = shared_at k l (omega arith) in
    by_test (λ t. cond t (shared k l + 1) 0 ≡ cond (not (not t)) (1 + position_or_len differ (zip k l)) 0) (eqb x y) (λ _. omega arith) (λ _. refl)

pub shared_all : (l : List ℕ) → shared l l ≡ length l
unfolding shared
shared_all [] = refl
shared_all (x ∷ l) = rw (eq-eqb x x refl) (ap (λ (n : ℕ). n + 1) (shared_all l) ∙ add-one (length l))

pub shared_most : (k l : List ℕ) → shared k l ≤ length k
unfolding shared
shared_most [] l = omega arith
shared_most (x ∷ k) [] = omega arith
shared_most (x ∷ k) (y ∷ l) =
    let h = shared_most k l in
    by_test (λ t. cond t (shared k l + 1) 0 ≤ suc (length k)) (eqb x y) (λ _. omega arith) (λ _. omega arith)

-- the first place at which two lists differ, or their length
pub shared_found : (k l : List ℕ) → length k ≡ length l → (r : Option ℕ)
    → r ≡ cond (ltb (position_or_len differ (zip k l)) (length (zip k l))) (Some (position_or_len differ (zip k l))) None
    → (n : ℕ) → n ≡ unwrap_or r (length k) → (n ≡ shared k l) × (n ≤ length k)
shared_found k l e r f n g =
    let at = shared_at k l e in
    let long : length (zip k l) ≡ length k = length-zip k l ∙ omega arith in
    let most = shared_most k l in
    let first = position_or_len differ (zip k l) in
    let same : n ≡ shared k l =
    g ∙ rw f
    (by_test (λ t. ltb first (length (zip k l)) ≡ t → unwrap_or (cond t (Some first) None) (length k) ≡ shared k l) (ltb first (length (zip k l)))
    (λ _ _. sym at) (λ _ h. let over = ltb-false first (length (zip k l)) h in omega arith) refl) in
    (same, omega arith)

pub shared_take : (k l : List ℕ) → take (shared k l) k ≡ take (shared k l) l
unfolding shared
shared_take [] l = refl
shared_take (x ∷ k) [] = refl
shared_take (x ∷ k) (y ∷ l) =
    by_test (λ t. eqb x y ≡ t → take (cond t (shared k l + 1) 0) (x ∷ k) ≡ take (cond t (shared k l + 1) 0) (y ∷ l)) (eqb x y)
    (λ _ e. rw (add-one (shared k l)) (λ i. eqb-true x y e i ∷ shared_take k l i)) (λ _ _. refl) refl

-- ---- the number of a read
module _ (m : Module) (a n : ℕ) where
  pub reads_unsound : sound m ≡ false → read_number m a n ≡ unsound
  unfolding read_number
  reads_unsound e = unsound_access m (read_lines a n) e

  module _ (ok : sound m ≡ true) where
    pub reads_asleep : m.asleep ≡ true → read_number m a n ≡ sleeping
    unfolding read_number
    reads_asleep z = asleep_first m (read_lines a n) ok z

    module _ (z : m.asleep ≡ false) (some : 1 ≤ n) (few : n ≤ 32) where
      its_run : read_number m a n ≡ number_of (not (run_allowed Read a n) gives not_allowed ∷ [])
      unfolding read_number read_lines access_lines
      its_run =
          awake_then m (read_lines a n) ok z
          ∙ line_no (eqb n 0) no_bytes _ (ne_eqb n 0 (λ e. omega arith))
          ∙ line_no (ltb 32 n) too_many _ (le-ltb 32 n few)

      pub reads_none : run_allowed Read a n ≡ false → read_number m a n ≡ not_allowed
      reads_none e = its_run ∙ line_yes (not (run_allowed Read a n)) not_allowed [] (ap not e)

      pub reads_done : run_allowed Read a n ≡ true → read_number m a n ≡ 0
      reads_done e = its_run ∙ line_no (not (run_allowed Read a n)) not_allowed [] (ap not e) ∙ lines_end

  pub read_facts : read_number m a n ≡ 0 → (sound m ≡ true) × (m.asleep ≡ false) × (1 ≤ n) × (n ≤ 32) × (run_allowed Read a n ≡ true)
  unfolding read_number access_number read_lines access_lines declining
  read_facts e =
      let sane = not (sound m) gives unsound in
      let up = m.asleep gives sleeping in
      let some = eqb n 0 gives no_bytes in
      let few = ltb 32 n gives too_many in
      let there = not (run_allowed Read a n) gives not_allowed in (
        not-false (sound m) (line_false [] (not (sound m)) unsound (up ∷ some ∷ few ∷ there ∷ []) refl e),
        line_false (sane ∷ []) m.asleep sleeping (some ∷ few ∷ there ∷ []) refl e,
        positive n (eqb-false n 0 (line_false (sane ∷ up ∷ []) (eqb n 0) no_bytes (few ∷ there ∷ []) refl e)),
        ltb-false 32 n (line_false (sane ∷ up ∷ some ∷ []) (ltb 32 n) too_many (there ∷ []) refl e),
        not-false (run_allowed Read a n) (line_false (sane ∷ up ∷ some ∷ few ∷ []) (not (run_allowed Read a n)) not_allowed [] refl e),
      )

module _ (m : Module) (a : ℕ) where
  pub reads_one : read_number m a 1 ≡ cond (not (sound m)) unsound (cond m.asleep sleeping (cond (eqb (longest a) 0) not_allowed 0))
  reads_one =
      by_test (λ t. sound m ≡ t → read_number m a 1 ≡ cond (not t) unsound (cond m.asleep sleeping (cond (eqb (longest a) 0) not_allowed 0))) (sound m)
      (λ _ ok. by_test (λ t. m.asleep ≡ t → read_number m a 1 ≡ cond t sleeping (cond (eqb (longest a) 0) not_allowed 0)) m.asleep
      (λ _ z. reads_asleep m a 1 ok z)
      (λ _ z. by_test (λ t. eqb (longest a) 0 ≡ t → read_number m a 1 ≡ cond t not_allowed 0) (eqb (longest a) 0)
      (λ _ e. reads_none m a 1 ok z (omega arith) (omega arith) (longest_none a (eqb-true (longest a) 0 e)))
      (λ _ e. reads_done m a 1 ok z (omega arith) (omega arith) (run_within a 1 (positive (longest a) (eqb-false (longest a) 0 e)))) refl) refl)
      (λ _ bad. reads_unsound m a 1 bad) refl

-- ---- a read of fewer bytes
pub bytes_length : (m : Module) (a n : ℕ) → length (bytes_read m a n) ≡ n
unfolding bytes_read
bytes_length m a zero = refl
bytes_length m a (suc n) = ap suc (bytes_length (read_out m (register_at a)) (next a) n)

pub first_bytes : (m : Module) (a n k : ℕ) → n ≤ k → take n (bytes_read m a k) ≡ bytes_read m a n
first_bytes m a n k l =
    let e : k ≡ n + (k - n) = omega arith in
    ap (λ (j : ℕ). take n (bytes_read m a j)) e ∙ bytes_first m a n (k - n)

-- a done read begins the count anew: what it leaves
pub read_leaves : (m : Module) (a n : ℕ) → read_number m a n ≡ 0 → (read_call m a n).after ≡ woken (read_all m a n)
unfolding read_call accessed
read_leaves m a n e = rw e refl

pub read_prefix : (m : Module) (a n N : ℕ) → 1 ≤ n → n ≤ N → read_number m a N ≡ 0
    → (read_number m a n ≡ 0) × (bytes_read m a n ≡ take n (bytes_read m a N)) × ((read_call m a n).after ≡ woken (read_all m a n))
read_prefix m a n N some l e =
    let f = read_facts m a N e in
    let also = reads_done m a n f.0 f.1 some (omega (arith, f.3)) (run_fewer Read a N n l f.4) in
    (also, sym (first_bytes m a n N l), read_leaves m a n also)

-- ---- the bytes that a read still gives
module _ (m : Module) (a : ℕ) (l : List ℕ) where
  pub agreed_most : agreed m a l ≤ length l
  unfolding agreed
  agreed_most = shared_most l (bytes_read m a (length l))

  pub agreed_first : take (agreed m a l) l ≡ bytes_read m a (agreed m a l)
  unfolding agreed
  agreed_first = shared_take l (bytes_read m a (length l)) ∙ first_bytes m a (shared l (bytes_read m a (length l))) (length l) agreed_most

pub agreed_all : (m : Module) (a n : ℕ) → agreed m a (bytes_read m a n) ≡ n
unfolding agreed
agreed_all m a n =
    ap (λ (k : ℕ). shared (bytes_read m a n) (bytes_read m a k)) (bytes_length m a n) ∙ shared_all (bytes_read m a n) ∙ bytes_length m a n

-- ---- the number of a read of one byte, n being the longest run
module _ (m : Module) (a : ℕ) (ok : done ≡ access_number m []) (n : ℕ) (e : n ≡ longest a) where
  access_facts : (sound m ≡ true) × (m.asleep ≡ false)
  unfolding access_number declining
  access_facts = (
    not-false (sound m) (line_false [] (not (sound m)) unsound (m.asleep gives sleeping ∷ []) refl (sym ok)),
    line_false (not (sound m) gives unsound ∷ []) m.asleep sleeping [] refl (sym ok),
  )

  pub one_none : n < 1 → not_allowed ≡ read_number m a 1
  one_none h = sym (reads_none m a 1 access_facts.0 access_facts.1 (omega arith) (omega arith) (longest_none a (omega arith)))

  pub one_done : 1 ≤ n → done ≡ read_number m a 1
  one_done h = sym (reads_done m a 1 access_facts.0 access_facts.1 (omega arith) (omega arith) (run_within a 1 (omega arith)))

-- one that is declined as an access
pub one_err : (m : Module) (a : ℕ) (r : Refusal) → number r ≡ access_number m [] → number r ≡ read_number m a 1
unfolding read_number
one_err m a r e = access_err m (read_lines a 1) r e

-- ---- the room for a transfer's bytes
abbrev blank : List ℕ
blank = replicate 33 0

blank_length : (n : ℕ) → n ≤ 33 → length (take n blank) ≡ n
blank_length n h = length-take n blank ∙ omega arith

drop_replicate : (n k : ℕ) → drop k (replicate {A = ℕ} n 0) ≡ replicate (n - k) 0
drop_replicate n zero = ap (λ (j : ℕ). replicate j 0) (sym (sub_zero n))
drop_replicate zero (suc k) = ap (λ (j : ℕ). replicate j 0) (sym (zero_sub (suc k)))
drop_replicate (suc n) (suc k) = drop_replicate n k ∙ ap (λ (j : ℕ). replicate j 0) (sym (suc_sub n k))

pub filled_length : (l : List ℕ) → length l ≤ 33 → length (filled l) ≡ 33
unfolding filled
filled_length l h = length-append l (replicate (33 - length l) 0) ∙ ap (λ (n : ℕ). length l + n) (length-replicate (33 - length l) 0) ∙ omega arith

pub filled_take : (l : List ℕ) (n : ℕ) → n ≤ length l → take n (filled l) ≡ take n l
unfolding filled
filled_take l n h = take-append-le n l (replicate (33 - length l) 0) h

pub filled_at : (l : List ℕ) (n : ℕ) → n < length l → get_or (filled l) n 0 ≡ get_or l n 0
unfolding filled
filled_at l n h = get_or-append l (replicate (33 - length l) 0) 0 n h

-- the bytes l of a read of n bytes, put into the room
module _ (m : Module) (a n : ℕ) (l : List ℕ) (h : n ≤ 33) (e : l ≡ bytes_read m a (length (take n blank))) where
  put_bytes : l ≡ bytes_read m a n
  put_bytes = e ∙ ap (bytes_read m a) (blank_length n h)

  put_length : length l ≡ n
  put_length = ap length put_bytes ∙ bytes_length m a n

  pub put_filled : l ++ drop n blank ≡ filled (bytes_read m a n)
  unfolding filled
  put_filled =
      ap (λ (j : ℕ). l ++ drop j blank) (sym put_length)
      ∙ ap (λ (r : List ℕ). l ++ r) (drop_replicate 33 (length l))
      ∙ ap (λ (r : List ℕ). r ++ replicate (33 - length r) 0) put_bytes

module _ (m : Module) (a n : ℕ) (l : List ℕ) (h : n ≤ 33) (e : l ≡ bytes_read m a (length (take (n - 0) blank))) where
  pub put_fits : n ≤ length (put_mid 0 (n - 0) blank l)
  put_fits =
      let b = bytes_length m a n in
      let same : l ≡ bytes_read m a (length (take n blank)) = e ∙ ap (λ (k : ℕ). bytes_read m a (length (take k blank))) (sub_zero n) in
      let put : put_mid 0 (n - 0) blank l ≡ filled (bytes_read m a n) = ap (λ (k : ℕ). l ++ drop k blank) (sub_zero n) ∙ put_filled m a n l h same in
      subst (λ (k : ℕ). n ≤ k) (sym (ap length put ∙ filled_length (bytes_read m a n) (omega arith))) h

pub run_blank : (a n : ℕ) → n ≤ 33 → run_allowed Read a n ≡ true → run_allowed Read a (length (take n blank)) ≡ true
run_blank a n h e = ap (run_allowed Read a) (blank_length n h) ∙ e

pub run_all : (a n : ℕ) → n ≡ longest a → run_allowed Read a (length (take (n - 0) blank)) ≡ true
run_all a n e =
    let most = longest_most a in
    ap (λ (k : ℕ). run_allowed Read a (length (take k blank))) (sub_zero n) ∙ run_blank a n (omega arith) (ap (run_allowed Read a) e ∙ longest_run a)

-- those that were sent, n of the h that were handed over
pub run_part : (a k h n : ℕ) (l : List ℕ) → k ≡ longest a → h ≤ k → n ≤ h → (length (take n l) ≤ 32) × (run_allowed Read a (length (take n l)) ≡ true)
run_part a k h n l e g f =
    let most = longest_most a in
    let few : length (take n l) ≤ n = subst (λ (j : ℕ). j ≤ n) (sym (length-take n l)) (omega arith) in
    (omega arith, run_within a (length (take n l)) (omega arith))

pub part_fits : (k h n : ℕ) (l : List ℕ) → k ≤ 32 → h ≤ k → n ≤ h → length l ≡ 33 → n ≤ length l
part_fits k h n l e g f long = omega arith

pub agreed_is : (m : Module) (a : ℕ) (k l : List ℕ) (r : ℕ) → length k ≤ 33 → l ≡ bytes_read m a (length (take (length k) blank))
    → r ≡ shared k (take (length k) (l ++ drop (length k) blank)) → r ≡ agreed m a k
unfolding agreed
agreed_is m a k l r h e f =
    let n = length k in
    let b = bytes_length m a n in
    f
    ∙ ap (λ (x : List ℕ). shared k (take n x)) (put_filled m a n l h e)
    ∙ ap (shared k) (filled_take (bytes_read m a n) n (omega arith) ∙ take_all n (bytes_read m a n) (omega arith))

-- ---- the beginning of a transfer
module _ (m : Module) (w v : Wire) where
  abbrev Begins : Begun → ℕ → Wire → Type 0
  Begins b n x = (n ≡ b.number) × (x ≡ b.wire)

  module _ (ev : v ≡ opened w reads []) where
    pub read_declined : (r : Refusal) → number r ≡ read_number m w.first 1 → Begins (begin_read m w) (number r) v
    unfolding begin_read ahead
    read_declined r e = (e, ev ∙ ap (opened w reads) (rw (ne_eqb (read_number m w.first 1) 0 (λ z. refused r (e ∙ z))) refl))

    named_first : v.first ≡ w.first
    unfolding opened
    named_first = ap (λ (x : Wire). x.first) ev

    all_blank : v.bytes ≡ blank
    unfolding opened filled
    all_blank = ap (λ (x : Wire). x.bytes) ev

    module _ (a n : ℕ) (ea : a ≡ v.first) (en : n ≡ longest a) where
      pub run_ahead : run_allowed Read a (length (take n v.bytes)) ≡ true
      run_ahead =
          let most = longest_most a in
          ap (λ (l : List ℕ). run_allowed Read a (length (take n l))) all_blank ∙ run_blank a n (omega arith) (ap (run_allowed Read a) en ∙ longest_run a)

      module _ (ok : done ≡ access_number m []) where
        same : a ≡ w.first
        same = ea ∙ named_first

        pub read_none : n < 1 → Begins (begin_read m w) not_allowed v
        read_none h = read_declined NotAllowed (one_none m a ok n en h ∙ ap (λ (j : ℕ). read_number m j 1) same)

        pub read_begun : 1 ≤ n → (l : List ℕ) → l ≡ bytes_read m a (length (take n v.bytes))
            → Begins (begin_read m w) done (record { bytes = l ++ drop n v.bytes; count = n; given = v.given; first = v.first; doing = v.doing })
        unfolding begin_read ahead opened
        read_begun some l el =
            let most = longest_most a in
            let e : done ≡ read_number m w.first 1 = one_done m a ok n en some ∙ ap (λ (j : ℕ). read_number m j 1) same in
            let k : n ≡ longest w.first = en ∙ ap longest same in
            let put = put_filled m a n l (omega arith) (el ∙ ap (λ (r : List ℕ). bytes_read m a (length (take n r))) all_blank) in
            let bytes : l ++ drop n v.bytes ≡ filled (bytes_read m w.first (longest w.first)) =
            ap (λ (r : List ℕ). l ++ drop n r) all_blank ∙ put ∙ (λ i. filled (bytes_read m (same i) (k i))) in
            let count : n ≡ length (bytes_read m w.first (longest w.first)) = k ∙ sym (bytes_length m w.first (longest w.first)) in
            (e, (λ i. record { bytes = bytes i; count = count i; given = (ev i).given; first = (ev i).first; doing = (ev i).doing }) ∙ rw (sym e) refl)

  module _ (ev : v ≡ opened w refuses []) where
    pub write_declined : (r : Refusal) → number r ≡ access_number m [] → Begins (begin_write m w) (number r) v
    unfolding begin_write
    write_declined r e = (e, ev ∙ rw (ne_eqb (access_number m []) 0 (λ z. refused r (e ∙ z))) refl)

    pub write_begun : done ≡ access_number m [] → Begins (begin_write m w) done (record { bytes = v.bytes; count = v.count; given = v.given; first = v.first; doing = names })
    unfolding begin_write opened
    write_begun e = (e, (λ i. record { bytes = (ev i).bytes; count = (ev i).count; given = (ev i).given; first = (ev i).first; doing = names }) ∙ rw (sym e) refl)

pub reaches : (m : Module) → sound m ≡ true → m.asleep ≡ false → access_number m [] ≡ 0
reaches m ok z = awake_then m [] ok z ∙ lines_end

-- ---- bytes
pub told_kept : {x : Wire} {t : Bool} (k : Kept) → kept x t ≡ k → (t ≡ k.yes) × (x ≡ k.wire)
told_kept k e = (ap (λ (k : Kept). k.yes) e, ap (λ (k : Kept). k.wire) e)

module _ (w : Wire) (b : ℕ) where
  pub byte_names : w.doing ≡ 1 → kept (named w b 2) true ≡ take_byte w b
  unfolding take_byte
  byte_names e = rw (eq-eqb w.doing 1 e) refl

  module _ (d : w.doing ≡ 1 → ⊥) where
    pub byte_refused : w.doing ≡ 4 → kept (named w b 0) false ≡ take_byte w b
    unfolding take_byte
    byte_refused e = rw (ne_eqb w.doing 1 d, eq-eqb w.doing 4 e) refl

    module _ (f : w.doing ≡ 4 → ⊥) where
      pub byte_nowhere : (w.doing ≡ 2 → ⊥) → kept w false ≡ take_byte w b
      unfolding take_byte
      byte_nowhere e = rw (ne_eqb w.doing 1 d, ne_eqb w.doing 4 f, ne_eqb w.doing 2 e) refl

      pub byte_over : w.doing ≡ 2 → 33 ≤ w.count → kept w false ≡ take_byte w b
      unfolding take_byte
      byte_over e h = rw (ne_eqb w.doing 1 d, ne_eqb w.doing 4 f, eq-eqb w.doing 2 e, le-ltb w.count 33 h) refl

      pub byte_kept : w.doing ≡ 2 → w.count < 33 → kept (one_more w b) true ≡ take_byte w b
      unfolding take_byte
      byte_kept e h = rw (ne_eqb w.doing 1 d, ne_eqb w.doing 4 f, eq-eqb w.doing 2 e, lt-ltb w.count 33 h) refl

module _ (w : Wire) where
  abbrev silent : Handed
  silent = record { wire = w; byte = 0xFF }

  pub silent_else : (w.doing ≡ 3 → ⊥) → silent ≡ next_byte w
  unfolding next_byte has_more
  silent_else e = rw (ne_eqb w.doing 3 e) refl

  -- what it is that a byte is there
  pub has_facts : has_more w ≡ true → (w.doing ≡ 3) × (w.given < w.count) × (w.given < 33)
  unfolding has_more
  has_facts e =
      let p = (and-eq-true_iff (eqb w.doing 3) (ltb w.given w.count && ltb w.given 33)).0 e in
      let q = (and-eq-true_iff (ltb w.given w.count) (ltb w.given 33)).0 p.1 in
      (eqb-true w.doing 3 p.0, ltb-true w.given w.count q.0, ltb-true w.given 33 q.1)

  pub given_none : has_more w ≡ false → (0xFF ≡ (next_byte w).byte) × (w ≡ (next_byte w).wire)
  unfolding next_byte
  given_none e = rw e (refl, refl)

  pub given_byte : has_more w ≡ true → (get_or w.bytes w.given 0 ≡ (next_byte w).byte) × (one_given w ≡ (next_byte w).wire)
  unfolding next_byte
  given_byte e = rw e (refl, refl)

  module _ (e : w.doing ≡ 3) where
    pub silent_past : w.count ≤ w.given → silent ≡ next_byte w
    unfolding next_byte has_more
    silent_past h = rw (eq-eqb w.doing 3 e, le-ltb w.given w.count h) refl

    pub silent_full : w.given < w.count → 33 ≤ w.given → silent ≡ next_byte w
    unfolding next_byte has_more
    silent_full h g = rw (eq-eqb w.doing 3 e, lt-ltb w.given w.count h, le-ltb w.given 33 g) refl

    pub byte_given : w.given < w.count → w.given < 33 → ◌≡◌ {A = Handed} (record { wire = one_given w; byte = get_or w.bytes w.given 0 }) (next_byte w)
    unfolding next_byte has_more
    byte_given h g = rw (eq-eqb w.doing 3 e, lt-ltb w.given w.count h, lt-ltb w.given 33 g) refl

-- ---- the end of a transfer
pub least_min : (a b : ℕ) → min a b ≡ least a b
unfolding least
least_min a b =
    by_test (λ t. leb a b ≡ t → min a b ≡ cond t a b) (leb a b)
    (λ _ e. let l = leb-true a b e in omega arith) (λ _ e. let l = leb-false a b e in omega arith) refl

module _ (m : Module) (w : Wire) (n : ℕ) where
  pub write_counted : (k : ℕ) → w.doing ≡ 2 → k ≡ min w.count 33 → (k ≡ counted m w n) × (k ≤ 33)
  unfolding counted
  write_counted k e f = (f ∙ least_min w.count 33 ∙ rw (eq-eqb w.doing 2 e) refl, omega arith)

  pub none_counted : (w.doing ≡ 2 → ⊥) → (w.doing ≡ 3 → ⊥) → (0 ≡ counted m w n) × (0 ≤ 33)
  unfolding counted
  none_counted d e = (rw (ne_eqb w.doing 2 d, ne_eqb w.doing 3 e) refl, omega arith)

  pub read_counted : (a g h j k : ℕ) → w.doing ≡ 3 → a ≡ w.first → g ≡ longest a → h ≡ min w.given g → j ≡ min n h → k ≡ agreed m a (take j w.bytes)
      → (k ≡ counted m w n) × (k ≤ 33)
  unfolding counted sent
  read_counted a g h j k e ea eg eh ej ek =
      let most = longest_most a in
      let few = agreed_most m a (take j w.bytes) in
      let long = length-take j w.bytes in
      let handed : h ≡ least w.given (longest w.first) = eh ∙ ap (min w.given) (eg ∙ ap longest ea) ∙ least_min w.given (longest w.first) in
      let many : j ≡ least n (least w.given (longest w.first)) = ej ∙ ap (min n) handed ∙ least_min n (least w.given (longest w.first)) in
      (ek ∙ (λ i. agreed m (ea i) (take (many i) w.bytes)) ∙ rw (ne_eqb w.doing 2 (λ z. omega arith), eq-eqb w.doing 3 e) refl, omega arith)

module _ (m : Module) (w v : Wire) (n : ℕ) (ev : v ≡ idle w) where
  ended : (k : ℕ) → k ≡ counted m w n → ◌≡◌ {A = Ended} (record { wire = v; count = k }) (stop m w n)
  unfolding stop
  ended k e i = record { wire = ev i; count = e i }

  pub write_ended : (k : ℕ) → w.doing ≡ 2 → k ≡ least w.count 33 → ◌≡◌ {A = Ended} (record { wire = v; count = k }) (stop m w n)
  unfolding counted
  write_ended k e f = ended k (f ∙ go)
    where
      go : least w.count 33 ≡ counted m w n
      go = rw (eq-eqb w.doing 2 e) refl

  module _ (d : w.doing ≡ 2 → ⊥) where
    pub none_ended : (w.doing ≡ 3 → ⊥) → ◌≡◌ {A = Ended} (record { wire = v; count = 0 }) (stop m w n)
    unfolding counted
    none_ended e = ended 0 go
      where
        go : 0 ≡ counted m w n
        go = rw (ne_eqb w.doing 2 d, ne_eqb w.doing 3 e) refl

    pub read_ended : (g h j k : ℕ) → w.doing ≡ 3 → g ≡ longest w.first → h ≡ least w.given g → j ≡ least n h → k ≡ agreed m w.first (take (j - 0) w.bytes)
        → ◌≡◌ {A = Ended} (record { wire = v; count = k }) (stop m w n)
    unfolding counted sent
    read_ended g h j k e eg eh ej ek = ended k (ek ∙ ap (λ (i : ℕ). agreed m w.first (take i w.bytes)) (sub_zero j ∙ ej ∙ ap (least n) (eh ∙ ap (least w.given) eg)) ∙ go)
      where
        go : agreed m w.first (take (least n (least w.given (longest w.first))) w.bytes) ≡ counted m w n
        go = rw (ne_eqb w.doing 2 d, eq-eqb w.doing 3 e) refl

pub open_dropped : (w v : Wire) → v ≡ idle w → kept v (not (eqb w.doing 0)) ≡ drop_open w
unfolding drop_open
open_dropped w v ev = ap (λ (x : Wire). kept x (not (eqb w.doing 0))) ev
