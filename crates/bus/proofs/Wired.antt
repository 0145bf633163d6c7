-- THE WIRE AND THE HOST: what a wire knows of a transfer is what its host knows.
--
--    Wired w h      the wire w and the host h have the same transfer open
--    wired_start    at the start
--    wired_reads, wired_writes, wired_takes, wired_gives, wired_idle    after each step
-- Assumes nothing.
use Prim.Native.Nat.{ℕ, zero, suc, ◌+◌, ◌≤◌, ◌<◌}
use native.Mathlib.Omega.{arith}
use native.Mathlib.Numerals.{add-one}
use mathlib.Core.Path.{◌≡◌, refl, sym, ap, subst, ◌∙◌}
use mathlib.Core.Bool.{Bool, true, false, cond, ◌||◌}
use mathlib.Core.List.{List, [], ◌∷◌, ◌++◌, append-nil, append_assoc}
use lib.Dec.{eqb, ltb}
use lib.ListN.{length, take, set, get_or, replicate, length-set, replicate-append-replicate}
use lib.Seq.{take-suc}
use borrow.Author.Tests.{ne_eqb, eq-eqb, eqb-true, lt-ltb, ltb-true, ltb-false}
use Rattle.words.specs.Words.{all}
use Rattle.words.proofs.Laws.{true_false, and_both, all_first, all_rest, all_cons}
use Rattle.words.proofs.Lists.{by_test, all_replicate}
use Rattle.state.specs.declared.Module.{Module}
use Rattle.calls.specs.Calls.{access_number, read_number}
use Rattle.access.specs.Accesses.{bytes_read}
use Rattle.wire.specs.declared.Wire.{Wire}
use Rattle.wire.specs.Wire.{longest, filled, opened, idle, ahead, begin_read, begin_write, named, one_more, take_byte, one_given, has_more, next_byte}
use Rattle.wire.proofs.Laws.{longest_most, bytes_length, filled_length}
use Rattle.bus.specs.Bus.{reads, writes, takes, gives, Host, host, told}
use Rattle.bus.specs.Ours.{nameless}
use Rattle.bus.proofs.Cases.{takes_cases, gives_cases}

-- a byte
abbrev pub low : ℕ → Bool
low b = ltb b 256

pub record Wired (w : Wire) (h : Host) : Type 0 where
  pub first : h.first ≡ w.first
  pub reading : h.reading ≡ eqb w.doing 3
  pub naming : h.naming ≡ (eqb w.doing 1 || eqb w.doing 4)
  pub long : length w.bytes ≡ 33
  pub few : w.count ≤ 33
  -- while the host writes, its bytes are bytes
  pub fitting : 1 ≤ w.doing → w.doing ≤ 2 → all low w.bytes ≡ true
  -- while it reads, it was handed the bytes made ahead, as many as were asked for, and then so many FF
  pub within : w.doing ≡ 3 → w.count ≤ longest w.first
  pub given : w.doing ≡ 3 → w.given ≤ w.count
  pub silent : ℕ
  pub handed : w.doing ≡ 3 → h.bytes ≡ take w.given w.bytes ++ replicate silent 0xFF
  pub loud : w.doing ≡ 3 → w.given < w.count → silent ≡ 0

all_set : (f : ℕ → Bool) (l : List ℕ) (i x : ℕ) → all f l ≡ true → f x ≡ true → all f (set l i x) ≡ true
all_set f [] i x h e = h
all_set f (y ∷ l) zero x h e = all_cons f x l e (all_rest f y l h)
all_set f (y ∷ l) (suc i) x h e = all_cons f y (set l i x) (all_first f y l h) (all_set f l i x (all_rest f y l h) e)

-- no more is made ahead than can be read
ahead_few : (m : Module) (a : ℕ) → length (ahead m a) ≤ longest a
unfolding ahead
ahead_few m a =
    by_test (λ t. length (cond t (bytes_read m a (longest a)) []) ≤ longest a) (eqb (read_number m a 1) 0)
    (λ _. rw (bytes_length m a (longest a)) (omega arith)) (λ _. omega arith)

-- ---- the steps
-- the host doesn't read
module _ (w : Wire) (h : Host) (apart : w.doing ≡ 3 → ⊥) where
  wired_apart : h.first ≡ w.first → h.reading ≡ false → h.naming ≡ (eqb w.doing 1 || eqb w.doing 4) → length w.bytes ≡ 33 → w.count ≤ 33
      → (1 ≤ w.doing → w.doing ≤ 2 → all low w.bytes ≡ true) → Wired w h
  wired_apart first reading naming long few fitting =
      record {
        first = first;
        reading = reading ∙ sym (ne_eqb w.doing 3 apart);
        naming = naming;
        long = long;
        few = few;
        fitting = fitting;
        within = λ e. absurd (apart e);
        given = λ e. absurd (apart e);
        silent = 0;
        handed = λ e. absurd (apart e);
        loud = λ e. absurd (apart e);
      }

pub wired_start : Wired nameless (host false false 0 [])
unfolding nameless
wired_start = wired_apart nameless (host false false 0 []) (λ e. omega arith) refl refl refl refl (omega arith) (λ a b. absurd (omega arith))

module _ (w : Wire) (h : Host) (v : Wired w h) where
  pub wired_idle : Wired (idle w) (host false false h.first [])
  unfolding idle
  wired_idle = wired_apart (idle w) (host false false h.first []) (λ e. omega arith) v.first refl refl v.long (omega arith) (λ a b. absurd (omega arith))

  pub wired_reads : (m : Module) (b : ℕ) → Wired (begin_read m w).wire (told h reads b)
  unfolding begin_read opened told
  wired_reads m b =
      let few = ahead_few m w.first in
      let most = longest_most w.first in
      record {
        first = v.first;
        reading = refl;
        naming = refl;
        long = filled_length (ahead m w.first) (omega arith);
        few = omega arith;
        fitting = λ a b. absurd (omega arith);
        within = λ e. few;
        given = λ e. omega arith;
        silent = 0;
        handed = λ e. refl;
        loud = λ e l. refl;
      }

  -- the address is to come, also if the write is declined
  wired_names : (d : ℕ) → (eqb d 1 || eqb d 4) ≡ true → (d ≡ 3 → ⊥) → Wired (opened w d []) (host false true h.first [])
  unfolding opened filled
  wired_names d n r =
      wired_apart (opened w d []) (host false true h.first []) r v.first refl (sym n) (filled_length [] (omega arith)) (omega arith) (λ a b. all_replicate low 33 0 refl)

  pub wired_writes : (m : Module) (b : ℕ) → Wired (begin_write m w).wire (told h writes b)
  unfolding begin_write told
  wired_writes m b =
      by_test (λ t. Wired (opened w (cond t 1 4) []) (host false true h.first [])) (eqb (access_number m []) 0)
      (λ _. wired_names 1 refl (λ e. omega arith)) (λ _. wired_names 4 refl (λ e. omega arith))

  -- ---- a byte comes
  module _ (x : ℕ) where
    -- it is the address
    wired_named : (d : ℕ) → (1 ≤ d → all low w.bytes ≡ true) → (d ≡ 3 → ⊥) → (eqb d 1 || eqb d 4) ≡ false → (w.doing ≡ 3 → ⊥)
        → Wired (named w x d) (host h.reading false x h.bytes)
    wired_named d bytes r n apart =
        wired_apart (named w x d) (host h.reading false x h.bytes) r refl (v.reading ∙ ne_eqb w.doing 3 apart) (sym n) v.long v.few (λ a b. bytes a)

    -- it is to be written
    wired_more : w.doing ≡ 2 → w.count < 33 → low x ≡ true → Wired (one_more w x) h
    wired_more e room fit =
        wired_apart (one_more w x) h (λ z. omega arith) v.first (v.reading ∙ ne_eqb w.doing 3 (λ z. omega arith)) v.naming
        (length-set w.bytes w.count x ∙ v.long) (omega arith)
        (λ a b. all_set low w.bytes w.count x (v.fitting a b) fit)

    -- the host named the address, or sent another byte
    abbrev sends : Host
    sends = cond h.naming (host h.reading false x h.bytes) h

    wired_sends : (g : Wire) (b : Bool) → (eqb w.doing 1 || eqb w.doing 4) ≡ b → Wired g (cond b (host h.reading false x h.bytes) h) → Wired g sends
    wired_sends g b e u = subst (λ t. Wired g (cond t (host h.reading false x h.bytes) h)) (sym (v.naming ∙ e)) u

    pub wired_takes : (b : ℕ) → low x ≡ true → Wired (take_byte w x).wire (told h (takes x) b)
    unfolding told
    wired_takes b fit =
        let d = w.doing in
        takes_cases w (λ g. Wired g sends) x
        (λ e. wired_sends (named w x 2) true (ap (λ (n : ℕ). eqb n 1 || eqb n 4) e) (wired_named 2 (λ a. v.fitting (omega arith) (omega arith)) (λ z. omega arith) refl (λ z. omega arith)))
        (λ e. wired_sends (named w x 0) true (ap (λ (n : ℕ). eqb n 1 || eqb n 4) e) (wired_named 0 (λ a. absurd (omega arith)) (λ z. omega arith) refl (λ z. omega arith)))
        (λ e room. wired_sends (one_more w x) false (ap (λ (n : ℕ). eqb n 1 || eqb n 4) e) (wired_more e room fit))
        (λ e f. wired_sends w false (rw (ne_eqb d 1 e, ne_eqb d 4 f) refl) v)

  -- ---- a byte is asked for
  -- there is one
  wired_given : w.doing ≡ 3 → w.given < w.count → w.given < 33
      → Wired (one_given w) (host h.reading h.naming h.first (h.bytes ++ (get_or w.bytes w.given 0 ∷ [])))
  wired_given e more room =
      let long = v.long in
      record {
        first = v.first;
        reading = v.reading;
        naming = v.naming;
        long = v.long;
        few = v.few;
        fitting = v.fitting;
        within = v.within;
        given = λ z. omega arith;
        silent = 0;
        handed = λ z.
            ap (λ (l : List ℕ). l ++ (get_or w.bytes w.given 0 ∷ []))
            (v.handed e ∙ ap (λ (n : ℕ). take w.given w.bytes ++ replicate n 0xFF) (v.loud e more) ∙ append-nil (take w.given w.bytes))
            ∙ sym (take-suc w.bytes w.given 0 (omega arith))
            ∙ ap (λ (n : ℕ). take n w.bytes) (sym (add-one w.given))
            ∙ sym (append-nil (take (w.given + 1) w.bytes));
        loud = λ z l. refl;
      }

  -- there is none, and the host reads
  wired_silent : w.doing ≡ 3 → w.count ≤ w.given → Wired w (host h.reading h.naming h.first (h.bytes ++ (0xFF ∷ [])))
  wired_silent e none =
      record {
        first = v.first;
        reading = v.reading;
        naming = v.naming;
        long = v.long;
        few = v.few;
        fitting = v.fitting;
        within = v.within;
        given = v.given;
        silent = v.silent + 1;
        handed = λ z.
            ap (λ (l : List ℕ). l ++ (0xFF ∷ [])) (v.handed e)
            ∙ append_assoc (take w.given w.bytes) (replicate v.silent 0xFF) (0xFF ∷ [])
            ∙ ap (λ (l : List ℕ). take w.given w.bytes ++ l) (replicate-append-replicate v.silent 1 0xFF);
        loud = λ z l. absurd (omega arith);
      }

  -- the host, once it is handed the byte b
  abbrev hands : ℕ → Host
  hands b = cond h.reading (host h.reading h.naming h.first (h.bytes ++ (b ∷ []))) h

  wired_hands : (g : Wire) (b : ℕ) → w.doing ≡ 3 → Wired g (host h.reading h.naming h.first (h.bytes ++ (b ∷ []))) → Wired g (hands b)
  wired_hands g b e u = subst (λ t. Wired g (cond t (host h.reading h.naming h.first (h.bytes ++ (b ∷ []))) h)) (sym (v.reading ∙ eq-eqb w.doing 3 e)) u

  -- there is none only if all were given
  none_left : has_more w ≡ false → w.doing ≡ 3 → w.count ≤ w.given
  unfolding has_more
  none_left m e =
      let within = v.within e in
      let most = longest_most w.first in
      by_test (λ t. ltb w.given w.count ≡ t → w.count ≤ w.given) (ltb w.given w.count)
      (λ l _. let less = ltb-true w.given w.count l in
      true_false (sym (and_both (eqb w.doing 3) _ (eq-eqb w.doing 3 e) (and_both (ltb w.given w.count) (ltb w.given 33) l (lt-ltb w.given 33 (omega arith)))) ∙ m))
      (λ l _. ltb-false w.given w.count l) refl

  pub wired_gives : Wired (next_byte w).wire (told h gives (next_byte w).byte)
  unfolding told
  wired_gives =
      gives_cases w (λ g b. Wired g (hands b))
      (λ e more room. wired_hands (one_given w) (get_or w.bytes w.given 0) e (wired_given e more room))
      (λ e. by_test (λ t. Wired w (cond t (host h.reading h.naming h.first (h.bytes ++ (0xFF ∷ []))) h)) h.reading
      (λ r. let is = eqb-true w.doing 3 (sym v.reading ∙ r) in wired_silent is (none_left e is)) (λ r. v))
