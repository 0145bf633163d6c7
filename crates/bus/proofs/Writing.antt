-- A WRITE ON THE BUS is one write, unless the panel slept.
--
--    sending_calls       bytes that come make no call
--    Collected a l v     the wire v has collected the bytes l for the address a, as far as there was room
--    collected_none, collected_more, collected_all    so it is behind the address, with one byte more, and with all
--    write_cut_lem           a write of more bytes than there is room for is declined like one of as many as there is room for
--    collected_made      the stop makes one write, of the bytes collected
--    whole_write         ONE-WRITE: so a write on the bus is one write
-- Assumes nothing.
use Prim.Native.Nat.{ℕ, suc, ◌+◌, ◌≤◌, ◌<◌}
use native.Mathlib.Omega.{arith}
use native.Mathlib.Decide.{dec_lt}
use native.Mathlib.Numerals.{add-one}
use mathlib.Core.Path.{◌≡◌, refl, sym, ap, subst, ◌∙◌}
use mathlib.Core.Bool.{Bool, true, false, cond}
use mathlib.Core.List.{List, [], ◌∷◌, ◌++◌, append-nil}
use lib.Dec.{eqb, ltb}
use lib.ListN.{length, take, set, length-append, length-take, length-set}
use lib.Seq.{take_all, take-append-le, take-suc-set, append_snoc}
use borrow.Author.Tests.{ne_eqb, lt-ltb}
use Rattle.words.specs.Words.{all}
use Rattle.words.proofs.Lists.{by_test, take_most}
use Rattle.numbers.specs.Numbers.{no_bytes, too_many}
use Rattle.numbers.proofs.Laws.{line_yes, line_no}
use Rattle.judge.specs.Lines.{access_lines, write_lines}
use Rattle.state.specs.declared.Module.{Module}
use Rattle.sound.specs.Sound.{sound}
use Rattle.calls.specs.Calls.{access_number, write_number, accessed, write_call}
use Rattle.calls.proofs.Laws.{asleep_first, awake_then, write_awake}
use Rattle.wire.specs.declared.Wire.{Wire}
use Rattle.wire.specs.Wire.{Kept, counted, filled, opened, begin_write, one_more, take_byte}
use Rattle.wire.proofs.Laws.{least_left, reaches, byte_names, byte_kept, byte_over}
use Rattle.demands.specs.Machine.{Call, write, after}
use Rattle.demands.specs.Ours as calls
use Rattle.demands.specs.Ours.{changing, called}
use Rattle.demands.proofs.Reached.{reached_sound}
use Rattle.bus.specs.Bus.{writes, takes, stops, Event, bus, goes_on, story, state, fit, sending}
use Rattle.bus.specs.Ours.{rouses, twice, made, moved, steps, ours}
use Rattle.bus.proofs.Made.{count_write, made_write, once}
use Rattle.bus.proofs.Sane.{sane}

sending_calls : (l : List ℕ) (es : List Event) → (story ours (sending l es)).calls ≡ (story ours es).calls
unfolding sending story goes_on steps moved
sending_calls [] es = refl
sending_calls (b ∷ l) es = sending_calls l (bus (takes b) ∷ es)

-- ---- the bytes
record Collected (a : ℕ) (l : List ℕ) (v : Wire) : Type 0 where
  pub first : v.first ≡ a
  pub doing : v.doing ≡ 2
  pub long : length v.bytes ≡ 33
  pub count : v.count ≡ length (take 33 l)
  pub bytes : take v.count v.bytes ≡ take 33 l

module _ (a : ℕ) (l : List ℕ) (v : Wire) (c : Collected a l v) (b : ℕ) where
  length_more : length (l ++ (b ∷ [])) ≡ length l + 1
  length_more = length-append l (b ∷ [])

  -- there is room
  collected_room : length l < 33 → Collected a (l ++ (b ∷ [])) (one_more v b)
  collected_room h =
      let all_of : take 33 l ≡ l = take_all 33 l (omega arith) in
      let count : v.count ≡ length l = c.count ∙ ap length all_of in
      let more = length_more in
      let whole : take 33 (l ++ (b ∷ [])) ≡ l ++ (b ∷ []) = take_all 33 (l ++ (b ∷ [])) (omega arith) in
      let long = c.long in
      record {
        first = c.first;
        doing = c.doing;
        long = length-set v.bytes v.count b ∙ c.long;
        count = ap (λ (n : ℕ). n + 1) count ∙ sym length_more ∙ ap length (sym whole);
        bytes =
            ap (λ (n : ℕ). take n (set v.bytes v.count b)) (add-one v.count)
            ∙ take-suc-set v.bytes v.count b (omega arith)
            ∙ ap (λ (k : List ℕ). k ++ (b ∷ [])) (c.bytes ∙ all_of)
            ∙ sym whole;
      }

  -- there is none
  collected_full : 33 ≤ length l → Collected a (l ++ (b ∷ [])) v
  collected_full h =
      let same : take 33 (l ++ (b ∷ [])) ≡ take 33 l = take-append-le 33 l (b ∷ []) h in
      record { first = c.first; doing = c.doing; long = c.long; count = c.count ∙ ap length (sym same); bytes = c.bytes ∙ sym same }

  collected_more : Collected a (l ++ (b ∷ [])) (take_byte v b).wire
  collected_more = go (dec_lt (length l) 33)
    where
      go : Dec (length l < 33) → Collected a (l ++ (b ∷ [])) (take_byte v b).wire
      go (yes h) =
          let few = c.count ∙ length-take 33 l in
          subst (λ k. Collected a (l ++ (b ∷ [])) k.wire) (byte_kept v b (λ e. omega arith) (λ e. omega arith) c.doing (omega arith)) (collected_room h)
      go (no h) =
          let few = c.count ∙ length-take 33 l in
          subst (λ k. Collected a (l ++ (b ∷ [])) k.wire) (byte_over v b (λ e. omega arith) (λ e. omega arith) c.doing (omega (arith, h))) (collected_full (omega (arith, h)))

collected_all : (a : ℕ) (l k : List ℕ) (es : List Event) → Collected a l (story ours es).at → Collected a (l ++ k) (story ours (sending k es)).at
unfolding sending story goes_on steps moved
collected_all a l [] es c = subst (λ j. Collected a j (story ours es).at) (sym (append-nil l)) c
collected_all a l (b ∷ k) es c =
    subst (λ j. Collected a j (story ours (sending k (bus (takes b) ∷ es))).at) (append_snoc l b k)
    (collected_all a (l ++ (b ∷ [])) k (bus (takes b) ∷ es) (collected_more a l (story ours es).at c b))

-- ---- the beginning
module _ (es : List Event) (z : access_number (state ours es) [] ≡ 0) where
  writes_calls : (story ours (bus writes ∷ es)).calls ≡ (story ours es).calls
  unfolding state story goes_on steps moved begin_write rouses
  writes_calls = rw z refl

  writes_opens : (story ours (bus writes ∷ es)).at ≡ opened (story ours es).at 1 []
  unfolding state story goes_on steps moved begin_write
  writes_opens = rw z refl

  collected_none : (a : ℕ) → Collected a [] (story ours (bus (takes a) ∷ bus writes ∷ es)).at
  unfolding story goes_on steps moved opened filled
  collected_none a =
      let w = opened (story ours es).at 1 [] in
      subst (λ v. Collected a [] v) (ap (λ (k : Kept). k.wire) (byte_names w a refl) ∙ ap (λ (v : Wire). (take_byte v a).wire) (sym writes_opens))
      (record { first = refl; doing = refl; long = refl; count = refl; bytes = refl })

-- ---- the stop
module _ (m : Module) (ok : sound m ≡ true) (z : m.asleep ≡ false) (a : ℕ) where
  -- a write that finds the panel awake isn't declined with 27
  write_awakes : (l : List ℕ) → (called m (write a l)).number ≡ 27 → ⊥
  unfolding called changing write_call accessed write_number
  write_awakes l e = write_awake a l (access_number m (write_lines a l)) (awake_then m (write_lines a l) ok z) e

  -- more bytes than an access can have
  too_many_lem : (l : List ℕ) → 32 < length l → write_number m a l ≡ too_many
  unfolding write_number write_lines access_lines
  too_many_lem l h =
      awake_then m (write_lines a l) ok z
      ∙ line_no (eqb (length l) 0) no_bytes _ (ne_eqb (length l) 0 (λ e. omega arith))
      ∙ line_yes (ltb 32 (length l)) too_many _ (lt-ltb 32 (length l) h)

  write_over : (l : List ℕ) → 32 < length l → (called m (write a l)).next ≡ m
  unfolding called changing write_call accessed
  write_over l h = rw (too_many_lem l h) refl

  write_cut_lem : (l : List ℕ) → (called m (write a (take 33 l))).next ≡ (called m (write a l)).next
  write_cut_lem l = go (dec_lt 33 (length l))
    where
      go : Dec (33 < length l) → (called m (write a (take 33 l))).next ≡ (called m (write a l)).next
      go (yes h) = write_over (take 33 l) (rw (length-take 33 l) (omega arith)) ∙ sym (write_over l (omega arith))
      go (no h) = ap (λ (k : List ℕ). (called m (write a k)).next) (take_all 33 l (omega (arith, h)))

  collected_made : (b : ℕ) (bs : List ℕ) (v : Wire) (k : ℕ) → Collected a (b ∷ bs) v → made m v k ≡ write a (take 33 (b ∷ bs)) ∷ []
  collected_made b bs v k c =
      let l = take 33 (b ∷ bs) in
      let most = take_most 33 (b ∷ bs) in
      let is = c.count in
      let some : length l ≡ suc (length (take 32 bs)) = refl in
      let count : counted m v k ≡ v.count = count_write m v k c.doing ∙ least_left v.count 33 (omega arith) in
      made_write m v k c.doing
      ∙ ap (λ (j : ℕ). cond (eqb j 0) [] (twice m (write v.first (take j v.bytes)))) count
      ∙ ap (λ (t : Bool). cond t [] (twice m (write v.first (take v.count v.bytes)))) (ne_eqb v.count 0 (λ e. omega arith))
      ∙ (λ i. twice m (write (c.first i) (c.bytes i)))
      ∙ once m (write a l) (write_awakes l)

-- a sound module that declines no write with 27 is awake
awake_then_write : (m : Module) (a : ℕ) (l : List ℕ) → sound m ≡ true → ((called m (write a l)).number ≡ 27 → ⊥) → m.asleep ≡ false
unfolding called changing write_call accessed write_number
awake_then_write m a l ok h = by_test (λ t. m.asleep ≡ t → t ≡ false) m.asleep (λ _ e. absurd (h (asleep_first m (write_lines a l) ok e))) (λ _ _. refl) refl

pub whole_write : (es : List Event) (a b : ℕ) (bs : List ℕ) (k : ℕ) → all fit es ≡ true → all (λ x. ltb x 256) (b ∷ bs) ≡ true
    → ((called (state ours es) (write a (b ∷ bs))).number ≡ 27 → ⊥)
    → state ours (bus (stops k) ∷ sending (a ∷ b ∷ bs) (bus writes ∷ es)) ≡ (called (state ours es) (write a (b ∷ bs))).next
unfolding state story goes_on steps moved sending after
whole_write es a b bs k f low h =
    let l = b ∷ bs in
    let cs = (story ours es).calls in
    let m = after calls.ours cs in
    let ok = reached_sound cs (sane es f).fitting in
    let z = awake_then_write m a l ok h in
    let y = reaches m ok z in
    let fs = bus (takes a) ∷ bus writes ∷ es in
    let v = (story ours (sending l fs)).at in
    let p = sending_calls l fs ∙ writes_calls es y in
    (λ i. after calls.ours (made (after calls.ours (p i)) v k ++ p i))
    ∙ ap (λ (new : List Call). after calls.ours (new ++ cs)) (collected_made m ok z a b bs v k (collected_all a [] l fs (collected_none es y a)))
    ∙ write_cut_lem m ok z a l
