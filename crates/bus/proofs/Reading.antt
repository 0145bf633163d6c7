-- A READ ON THE BUS gives what a whole read gives, and at its stop one read was made.
--
--    asking_calls             to ask for bytes makes no call
--    Asked w n s, asked       n bytes of the wire w were asked for, and the host was handed them; so it is once they were asked for
--    Onward w v, onward       the wire v is the wire w, from which more bytes were asked for; so it is once they were
--    one_done, done_few       where a read is done, one of one byte is, and it has no more bytes than the longest
--    begins, ahead_first      all its bytes are made ahead
--    made_one                 if the module still gives the bytes that were sent, the stop makes one read, of them
--    whole_bytes              BYTES: the bytes are those of a whole read
--    whole_read               ONE-READ: at the stop one read was made, of the bytes sent
-- Assumes nothing.
use Prim.Native.Nat.{ℕ, zero, suc, ◌≤◌, ◌<◌}
use native.Mathlib.Omega.{arith}
use native.Mathlib.Numerals.{add-one}
use mathlib.Core.Path.{◌≡◌, refl, sym, ap, subst, ◌∙◌}
use mathlib.Core.Bool.{Bool, true, cond}
use mathlib.Core.List.{List, [], ◌∷◌, ◌++◌}
use lib.Dec.{eqb, leb}
use lib.ListN.{length, take, get_or}
use lib.Seq.{take-suc}
use borrow.Author.Tests.{ne_eqb}
use Rattle.words.specs.Words.{all}
use Rattle.words.proofs.Lists.{by_test}
use Rattle.state.specs.declared.Module.{Module}
use Rattle.access.specs.Accesses.{bytes_read}
use Rattle.calls.specs.Calls.{read_number, accessed, read_call, read_buffer}
use Rattle.wire.specs.declared.Wire.{Wire}
use Rattle.wire.specs.Wire.{Handed, longest, least, agreed, sent, counted, filled, opened, ahead, begin_read, next_byte}
use Rattle.wire.proofs.Laws.{longest_most, run_longest, least_left, read_facts, read_prefix, bytes_length, first_bytes, agreed_all, filled_length, filled_take, byte_given}
use Rattle.demands.specs.Machine.{Call, read, after}
use Rattle.demands.specs.Ours as calls
use Rattle.demands.specs.Ours.{changing, called}
use Rattle.bus.specs.Bus.{reads, gives, stops, Event, bus, host, told, Story, goes_on, story, state, fit, asking}
use Rattle.bus.specs.Ours.{rouses, twice, made, moved, steps, ours}
use Rattle.bus.proofs.Cases.{gives_cases}
use Rattle.bus.proofs.Made.{count_read, made_read, once}
use Rattle.bus.proofs.Sane.{sane}

asking_calls : (n : ℕ) (es : List Event) → (story ours (asking n es)).calls ≡ (story ours es).calls
unfolding asking story goes_on steps moved
asking_calls zero es = refl
asking_calls (suc n) es = asking_calls n es

-- ---- bytes that are there
abbrev gave : Wire → ℕ → Wire
gave w n = record { bytes = w.bytes; count = w.count; given = n; first = w.first; doing = w.doing }

record Asked (w : Wire) (n : ℕ) (s : Story ours) : Type 0 where
  pub at : s.at ≡ gave w n
  pub reading : s.host.reading ≡ true
  pub bytes : s.host.bytes ≡ take n w.bytes

module _ (w : Wire) (d : w.doing ≡ 3) (long : length w.bytes ≡ 33) (few : w.count ≤ 33) where
  next_gave : (n : ℕ) → n < w.count → next_byte (gave w n) ≡ record { wire = gave w (suc n); byte = get_or w.bytes n 0 }
  next_gave n l =
      sym (byte_given (gave w n) d l (omega arith))
      ∙ ap (λ (k : ℕ). record { wire = gave w k; byte = get_or w.bytes n 0 }) (add-one n)

  asked_more : (n : ℕ) (s : Story ours) → n < w.count → Asked w n s → Asked w (suc n) (goes_on ours s (bus gives))
  unfolding goes_on steps moved told
  asked_more n s l a =
      let e : next_byte s.at ≡ record { wire = gave w (suc n); byte = get_or w.bytes n 0 } = ap next_byte a.at ∙ next_gave n l in
      let h = s.host in
      record {
        at = ap (λ (x : Handed). x.wire) e;
        reading = rw a.reading refl;
        bytes =
            ap (λ (r : Bool). (cond r (host h.reading h.naming h.first (h.bytes ++ ((next_byte s.at).byte ∷ []))) h).bytes) a.reading
            ∙ (λ i. a.bytes i ++ ((e i).byte ∷ []))
            ∙ sym (take-suc w.bytes n 0 (omega arith));
      }

  asked : (es : List Event) (n : ℕ) → n ≤ w.count → Asked w 0 (story ours es) → Asked w n (story ours (asking n es))
  unfolding asking story
  asked es zero l a = a
  asked es (suc n) l a = asked_more n (story ours (asking n es)) (omega arith) (asked es n (omega arith) a)

-- ---- more of them
record Onward (w v : Wire) : Type 0 where
  pub bytes : v.bytes ≡ w.bytes
  pub first : v.first ≡ w.first
  pub doing : v.doing ≡ w.doing
  pub given : w.given ≤ v.given

onward_next : (w v : Wire) → Onward w v → Onward w (next_byte v).wire
onward_next w v o =
    let h = o.given in
    gives_cases v (λ g _. Onward w g) (λ _ _ _. record { bytes = o.bytes; first = o.first; doing = o.doing; given = omega arith }) (λ _. o)

onward : (es : List Event) (n : ℕ) → Onward (story ours es).at (story ours (asking n es)).at
unfolding asking story goes_on steps moved
onward es zero = record { bytes = refl; first = refl; doing = refl; given = omega arith }
onward es (suc n) = onward_next (story ours es).at (story ours (asking n es)).at (onward es n)

-- ---- a read that is done
module _ (m : Module) (w : Wire) (n : ℕ) (e : read_number m w.first n ≡ 0) where
  one_done : read_number m w.first 1 ≡ 0
  one_done = let some = (read_facts m w.first n e).2 in (read_prefix m w.first 1 n (omega arith) some e).0

  done_few : n ≤ longest w.first
  done_few = let f = read_facts m w.first n e in run_longest w.first n f.3 f.4

  -- the wire once it has begun
  abbrev all_ahead : List ℕ
  all_ahead = bytes_read m w.first (longest w.first)

  abbrev begun : Wire
  begun = opened w 3 all_ahead

  begins : (begin_read m w).wire ≡ begun
  unfolding begin_read ahead
  begins = rw one_done refl

  ahead_long : length all_ahead ≤ 33
  ahead_long =
      let most = longest_most w.first in
      let long = bytes_length m w.first (longest w.first) in
      omega arith

  ahead_first : (k : ℕ) → k ≤ n → take k (filled all_ahead) ≡ bytes_read m w.first k
  ahead_first k l =
      let few = done_few in
      let long = bytes_length m w.first (longest w.first) in
      filled_take all_ahead k (omega arith) ∙ first_bytes m w.first k (longest w.first) (omega arith)

module _ (es : List Event) where
  abbrev wire_then : Wire
  wire_then = (story ours es).at

  abbrev then : Module
  then = state ours es

  -- the wire names the address as the host does
  done_then : all fit es ≡ true → (out : List ℕ) → (called then (read (story ours es).host.first out)).number ≡ 0 → read_number then wire_then.first (length out) ≡ 0
  unfolding called changing read_call accessed
  done_then f out e = subst (λ a. read_number then a (length out) ≡ 0) (sane es f).wired.first e

  buffer_then : all fit es ≡ true → (out : List ℕ) → (called then (read (story ours es).host.first out)).number ≡ 0
      → (called then (read (story ours es).host.first out)).buffer ≡ bytes_read then wire_then.first (length out)
  unfolding called changing read_call accessed read_buffer
  buffer_then f out e = rw e (ap (λ (a : ℕ). bytes_read then a (length out)) (sane es f).wired.first)

  module _ (n : ℕ) (e : read_number then wire_then.first n ≡ 0) where
    begun_asked : Asked (begun then wire_then n e) 0 (story ours (bus reads ∷ es))
    unfolding state story goes_on steps moved told opened
    begun_asked = record { at = begins then wire_then n e; reading = refl; bytes = refl }

    all_asked : (k : ℕ) → k ≤ n → Asked (begun then wire_then n e) k (story ours (asking k (bus reads ∷ es)))
    unfolding opened
    all_asked k l =
        let few = done_few then wire_then n e in
        let long = bytes_length then wire_then.first (longest wire_then.first) in
        asked (begun then wire_then n e) refl (filled_length (all_ahead then wire_then n e) (ahead_long then wire_then n e)) (ahead_long then wire_then n e) (bus reads ∷ es) k (omega arith) begun_asked

pub whole_bytes : (es : List Event) (n : ℕ) (out : List ℕ) → all fit es ≡ true → n ≤ length out
    → (called (state ours es) (read (story ours es).host.first out)).number ≡ 0
    → (story ours (asking n (bus reads ∷ es))).host.bytes ≡ take n (called (state ours es) (read (story ours es).host.first out)).buffer
unfolding opened
whole_bytes es n out f l e =
    let k = length out in
    let m = state ours es in
    let w = (story ours es).at in
    let d = done_then es f out e in
    (all_asked es k d n l).bytes
    ∙ ahead_first m w k d n l
    ∙ sym (first_bytes m w.first n k l)
    ∙ ap (take n) (sym (buffer_then es f out e))

-- ---- the stop
-- the bytes sent are those that a read of as many gives now
made_one : (m : Module) (v : Wire) (n k : ℕ) → v.doing ≡ 3 → sent v k ≡ bytes_read m v.first (suc n) → length (take (suc n) v.bytes) ≡ suc n → read_number m v.first (suc n) ≡ 0
    → made m v k ≡ read v.first (take (suc n) v.bytes) ∷ []
unfolding called changing read_call accessed
made_one m v n k d e long z =
    let l = take (suc n) v.bytes in
    let count : counted m v k ≡ suc n = count_read m v k d ∙ ap (agreed m v.first) e ∙ agreed_all m v.first (suc n) in
    let number : (called m (read v.first l)).number ≡ 0 = ap (read_number m v.first) long ∙ z in
    made_read m v k d
    ∙ ap (λ (j : ℕ). cond (eqb j 0) [] (twice m (read v.first (take j v.bytes)))) count
    ∙ ap (λ (b : Bool). cond b [] (twice m (read v.first l))) (ne_eqb (suc n) 0 (λ y. omega arith))
    ∙ once m (read v.first l) (λ y. omega arith)

least_room : (k a b : ℕ) → k ≤ a → k ≤ b → k ≤ least a b
unfolding least
least_room k a b h g = by_test (λ t. k ≤ cond t a b) (leb a b) (λ _. h) (λ _. g)

-- all bytes that were sent were handed over
sent_all : (v : Wire) (k : ℕ) → k ≤ v.given → k ≤ longest v.first → sent v k ≡ take k v.bytes
unfolding sent
sent_all v k h g = ap (λ (j : ℕ). take j v.bytes) (least_left k (least v.given (longest v.first)) (least_room k v.given (longest v.first) h g))

-- a read that would be done begins with no call
reads_calls : (es : List Event) → read_number (state ours es) (story ours es).at.first 1 ≡ 0 → (story ours (bus reads ∷ es)).calls ≡ (story ours es).calls
unfolding state story goes_on steps moved begin_read rouses
reads_calls es e = rw e refl

pub whole_read : (es : List Event) (n more : ℕ) (out : List ℕ) → all fit es ≡ true → length out ≡ suc n
    → (called (state ours es) (read (story ours es).host.first out)).number ≡ 0
    → state ours (bus (stops (suc n)) ∷ asking more (asking (suc n) (bus reads ∷ es))) ≡ (called (state ours es) (read (story ours es).host.first out)).next
unfolding state story goes_on steps moved after called changing read_call opened
whole_read es n more out f l e =
    let k = length out in
    let w = (story ours es).at in
    let cs = (story ours es).calls in
    let m = after calls.ours cs in
    let d = done_then es f out e in
    let fs = asking (suc n) (bus reads ∷ es) in
    let v = (story ours (asking more fs)).at in
    let o = subst (λ x. Onward x v) (all_asked es k d (suc n) (omega arith)).at (onward fs more) in
    let p = asking_calls more fs ∙ asking_calls (suc n) (bus reads ∷ es) ∙ reads_calls es (one_done m w k d) in
    let few = done_few m w k d in
    let given = o.given in
    let front : take (suc n) v.bytes ≡ bytes_read m w.first (suc n) = ap (take (suc n)) o.bytes ∙ ahead_first m w k d (suc n) (omega arith) in
    let long : length (take (suc n) v.bytes) ≡ suc n = ap length front ∙ bytes_length m w.first (suc n) in
    let room : suc n ≤ longest v.first = subst (λ a. suc n ≤ longest a) (sym o.first) (omega arith) in
    let whole : sent v (suc n) ≡ bytes_read m v.first (suc n) =
    sent_all v (suc n) given room ∙ front ∙ ap (λ (a : ℕ). bytes_read m a (suc n)) (sym o.first) in
    let number : read_number m v.first (suc n) ≡ 0 = (λ i. read_number m (o.first i) (sym l i)) ∙ d in
    (λ i. after calls.ours (made (after calls.ours (p i)) v (suc n) ++ p i))
    ∙ ap (λ (new : List Call). after calls.ours (new ++ cs)) (made_one m v n (suc n) o.doing whole long number)
    ∙ (λ i. (read_call m ((o.first ∙ sym (sane es f).wired.first) i) ((long ∙ sym l) i)).after)
