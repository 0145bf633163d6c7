-- Laws of reads of the pins' registers.
--
--    no_left, no_right         of a disjunction that is false
--    next_from, next_most      behind an address of the pins comes no other; the next address is at most one more
--    renewed p                 the pins with the newest samples for their levels
--    seen m a                  the byte that a read of the state m gives at an address of the pins
--    irqst_byte, other_byte    IRQST, and any other register
--    no_edges                  an address that is none of GPIORIS and GPIOMIS
--    unknown_byte, pin_byte_lem    it is that of the register there, which reading leaves as it is
--    along_read                so are the bytes of a read
--    pins_given                the same, of bytes that are told
--    items_last, items_all     bytes at hand, the last of them and all
--    items_end, items_more     bytes at hand are given: none is left; one, and then the rest
--    along_end, along_last     byte for byte: none is left; one is
--    along_more                one, and then the rest
--    items_along               bytes at hand that a read gives, one after the other
--    kept_byte, kept_given     of registers that read as they are kept
--    edge_byte, edge_given     of GPIORIS and GPIOMIS
--    past_address, keypad_more    the next address, and a run from there on
--    keypad_run                a read that may be done stays among the keypad's registers if it begins there
--    keypad_other, keypad_no_pin, told_no_pin    no register of the keypad is one of the pins'
--    pins_alike                all registers of the pins count as one
-- Assumes nothing.
use Prim.Native.Nat.{ℕ, zero, suc, ◌+◌, ◌-◌, ◌≤◌, ◌<◌}
use native.Mathlib.Decide.{dec_lt}
use native.Mathlib.Numerals.{sub-one}
use native.Mathlib.Omega.{arith}
use mathlib.Core.Path.{◌≡◌, refl, sym, ap, subst, ◌∙◌}
use mathlib.Core.Logic.{◌⊎◌, inl, inr}
use mathlib.Core.Bool.{Bool, true, false, cond, ◌&&◌, ◌||◌}
use mathlib.Core.List.{List, [], ◌∷◌, ◌++◌}
use lib.Dec.{leb, eqb}
use lib.ListN.{length, get_or, set}
use borrow.Author.Tests.{eq-eqb, ne_eqb, lt-leb}
use Rattle.words.specs.Words.{table, within}
use Rattle.words.proofs.Laws.{true_false}
use Rattle.words.proofs.Lists.{by_test}
use Rattle.pins.specs.Rules.{is_data, reads}
use Rattle.pins.specs.declared.Pins.{Pins}
use Rattle.pins.specs.Pins as pins
use Rattle.pins.specs.Pins.{place, kept_in, flag_in, newest_of, edges}
use Rattle.pins.proofs.Laws.{within_yes, within_under, within_over, within_to, place_pulls, place_settings, place_drains, place_other, kept_at, kept_none, reads_kept}
use Rattle.registers.specs.declared.Access.{Access}
use Rattle.registers.specs.declared.Access.TheVariants.{Read, Write}
use Rattle.registers.specs.declared.Register.{Register}
use Rattle.registers.specs.declared.Register.TheVariants.{PIN, Unknown}
use Rattle.registers.specs.Registers.{pin_reads, pin_writes, register_at, allowed, ◌is◌, address}
use Rattle.registers.specs.Runs.{next, run_allowed}
use Rattle.registers.proofs.Laws.{pin_from, keypad_below, run_no, run_yes, run_in, run_from, run_to}
use Rattle.state.specs.declared.Module.{Module}
use Rattle.flags.specs.Flags.{irqst}
use Rattle.access.specs.Bytes.{byte_of, read_out}
use Rattle.access.specs.Accesses.{read_all, bytes_read}
use Rattle.access.specs.Pins.{pin_byte, along, items, kept_run}
use Rattle.access.proofs.Laws.{rest, back, rest_length, back_is}

no_left : (a b : Bool) → (a || b) ≡ false → a ≡ false
no_left true b e = e
no_left false b e = refl

no_right : (a b : Bool) → (a || b) ≡ false → b ≡ false
no_right true b e = true_false e
no_right false b e = e

pub next_from : (a : ℕ) → 0x91 ≤ a → 0x91 ≤ next a
unfolding next
next_from a h = by_test (λ t. 0x91 ≤ cond t a (a + 1)) (eqb a 0x10 || leb 0x100 a) (λ e. h) (λ e. omega arith)

pub next_most : (a : ℕ) → next a ≤ a + 1
unfolding next
next_most a = by_test (λ t. cond t a (a + 1) ≤ a + 1) (eqb a 0x10 || leb 0x100 a) (λ e. omega arith) (λ e. omega arith)

-- two gaps in the keypad's registers
gap_0f : (way : Access) → allowed way (register_at 0x0F) ≡ false
unfolding allowed register_at
gap_0f Read = refl
gap_0f Write = refl

gap_90 : (way : Access) → allowed way (register_at 0x90) ≡ false
unfolding allowed register_at
gap_90 Read = refl
gap_90 Write = refl

-- ---- what is read
abbrev pub renewed : Pins → Pins
renewed p = record { kept = p.kept; edge = p.edge; level = newest_of p; sampled = p.sampled }

abbrev pub seen : Module → ℕ → ℕ
seen m = pin_byte m (renewed m.pins)

module _ (m : Module) (p : Pins) (a : ℕ) where
  pub irqst_byte : a ≡ 0x91 → pin_byte m p a ≡ irqst m
  unfolding pin_byte
  irqst_byte h = rw (eq-eqb a 0x91 h)

  pub other_byte : (a ≡ 0x91 → ⊥) → pin_byte m p a ≡ reads (kept_in p.kept) (flag_in p.edge) (flag_in p.level) m.size a
  unfolding pin_byte
  other_byte h = rw (ne_eqb a 0x91 h)

  -- not GPIORIS, not GPIOMIS
  no_edges : within 0xD6 0xDB a ≡ false → (within 0xD6 0xD8 a ≡ false) × (within 0xD9 0xDB a ≡ false)
  no_edges f = go (dec_lt a 0xD6) (dec_lt 0xDB a)
    where
      go : Dec (a < 0xD6) → Dec (0xDB < a) → (within 0xD6 0xD8 a ≡ false) × (within 0xD9 0xDB a ≡ false)
      go (yes u) o = (within_under 0xD6 0xD8 a u, within_under 0xD9 0xDB a (omega arith))
      go (no u) (yes o) = (within_over 0xD6 0xD8 a (omega arith), within_over 0xD9 0xDB a o)
      go (no u) (no o) = true_false (sym (within_yes 0xD6 0xDB a (omega arith) (omega arith)) ∙ f)

  unknown_byte : pin_reads a ≡ false → pin_writes a ≡ false → pin_byte m p a ≡ 0
  unfolding pin_reads pin_writes is_data
  unknown_byte r w =
      let r1 = no_right (eqb a 0x91) _ r in
      let r2 = no_right (within 0xAA 0xAF a) _ r1 in
      let r3 = no_right (eqb a 0xC0) _ r2 in
      let r4 = no_right (eqb a 0xC2) _ r3 in
      let r5 = no_right (eqb a 0xC4) _ r4 in
      let r6 = no_right (within 0xC6 0xD4 a) _ r5 in
      let edge = no_edges (no_left (within 0xD6 0xDB a) _ r6) in
      let w1 = no_right (within 0xAA 0xAF a) _ w in
      let none : place a ≡ 33 = place_other a (no_left (within 0xAA 0xAF a) _ r1) (no_left (within 0xC0 0xD4 a) _ w1) (no_right (within 0xD6 0xDB a) _ r6) in
      let other : is_data a ≡ false = λ i. no_left (eqb a 0xC0) _ r2 i || (no_left (eqb a 0xC2) _ r3 i || no_left (eqb a 0xC4) _ r4 i) in
      other_byte (λ h. true_false (sym (eq-eqb a 0x91 h) ∙ no_left (eqb a 0x91) _ r))
      ∙ reads_kept (kept_in p.kept) (flag_in p.edge) (flag_in p.level) m.size a other edge.0 edge.1 ∙ kept_none p.kept a (omega arith)

module _ (m : Module) (a : ℕ) (h : 0x91 ≤ a) where
  pin_byte_lem : (byte_of m (register_at a) ≡ seen m a) × (read_out m (register_at a) ≡ m)
  unfolding byte_of read_out pin_byte pins.byte_of
  pin_byte_lem =
      subst (λ (r : Register). (byte_of m r ≡ seen m a) × (read_out m r ≡ m)) (sym (pin_from a h))
      (by_test (λ t. (byte_of m (cond t (PIN a) Unknown) ≡ seen m a) × (read_out m (cond t (PIN a) Unknown) ≡ m)) (pin_reads a || pin_writes a)
      (λ e. (refl, refl))
      (λ e. (sym (unknown_byte m (renewed m.pins) a (no_left (pin_reads a) (pin_writes a) e) (no_right (pin_reads a) (pin_writes a) e)), refl)))

pub along_read : (m : Module) (n a : ℕ) → 0x91 ≤ a → (m ≡ read_all m a n) × (along (seen m) a n ≡ bytes_read m a n)
unfolding along read_all bytes_read
along_read m zero a h = (refl, refl)
along_read m (suc n) a h =
    let b = pin_byte_lem m a h in
    let r = along_read m n (next a) (next_from a h) in (
      r.0 ∙ ap (λ (x : Module). read_all x (next a) n) (sym b.1),
      ap (λ (l : List ℕ). seen m a ∷ l) r.1 ∙ (λ i. sym b.0 i ∷ bytes_read (sym b.1 i) (next a) n),
    )

pub pins_given : (m : Module) (n a : ℕ) (e : List ℕ) → 0x91 ≤ a → e ≡ along (seen m) a n → (m ≡ read_all m a n) × (e ≡ bytes_read m a n)
pins_given m n a e h f = let r = along_read m n a h in (r.0, f ∙ r.1)

-- ---- bytes at hand, and byte for byte
items_last : (l : List ℕ) (at n : ℕ) → items l at (suc n) ≡ items l at n ++ (get_or l (at + n) 0 ∷ [])
unfolding items
items_last l at zero = let e : at ≡ at + zero = omega arith in ap (λ (k : ℕ). get_or l k 0 ∷ []) e
items_last l at (suc n) =
    let e : (at + 1) + n ≡ at + suc n = omega arith in
    ap (λ (x : List ℕ). get_or l at 0 ∷ x) (items_last l (at + 1) n) ∙ ap (λ (k : ℕ). get_or l at 0 ∷ (items l (at + 1) n ++ (get_or l k 0 ∷ []))) e

pub items_all : (l : List ℕ) (at n : ℕ) → table (λ k. get_or l (at + k) 0) n ≡ items l at n
unfolding items table
items_all l at zero = refl
items_all l at (suc n) = ap (λ (x : List ℕ). x ++ (get_or l (at + n) 0 ∷ [])) (items_all l at n) ∙ sym (items_last l at n)

pub items_end : (l : List ℕ) (at : ℕ) (x : List ℕ) → length x < 1 → x ≡ items l at (length x)
unfolding items
items_end l at [] h = refl
items_end l at (b ∷ x) h = absurd (omega arith)

items_next : (l : List ℕ) (at n : ℕ) → 1 ≤ n → get_or l at 0 ∷ items l (at + 1) (n - 1) ≡ items l at n
unfolding items
items_next l at zero h = absurd (omega arith)
items_next l at (suc n) h = simp sub-one

pub items_more : (l : List ℕ) (at : ℕ) (x : List ℕ) (b : ℕ) (e : List ℕ) → 1 ≤ length x → b ≡ get_or l at 0 → e ≡ items l (at + 1) (length (rest x b)) → back x b e ≡ items l at (length x)
items_more l at x b e h eb ee =
    back_is x b h e ∙ (λ i. eb i ∷ ee i) ∙ ap (λ (n : ℕ). get_or l at 0 ∷ items l (at + 1) n) (rest_length x b h) ∙ items_next l at (length x) h

pub along_end : (f : ℕ → ℕ) (a : ℕ) (x : List ℕ) → length x < 1 → x ≡ along f a (length x)
unfolding along
along_end f a [] h = refl
along_end f a (b ∷ x) h = absurd (omega arith)

pub along_last : (f : ℕ → ℕ) (a : ℕ) (x : List ℕ) (b : ℕ) → 1 ≤ length x → length x < 2 → b ≡ f a → set x 0 b ≡ along f a (length x)
unfolding along
along_last f a [] b h l e = absurd (omega arith)
along_last f a (y ∷ []) b h l e = ap (λ (k : ℕ). k ∷ []) e
along_last f a (y ∷ z ∷ x) b h l e = absurd (omega arith)

along_next : (f : ℕ → ℕ) (a n : ℕ) → 1 ≤ n → f a ∷ along f (next a) (n - 1) ≡ along f a n
unfolding along
along_next f a zero h = absurd (omega arith)
along_next f a (suc n) h = simp sub-one

pub along_more : (f : ℕ → ℕ) (a c : ℕ) (x : List ℕ) (b : ℕ) (e : List ℕ) → 1 ≤ length x → b ≡ f a → c ≡ next a → e ≡ along f c (length (rest x b)) → back x b e ≡ along f a (length x)
along_more f a c x b e h eb ec ee =
    back_is x b h e ∙ (λ i. eb i ∷ ee i) ∙ (λ i. f a ∷ along f (ec i) (rest_length x b h i)) ∙ along_next f a (length x) h

module _ (f : ℕ → ℕ) (l : List ℕ) (d lo hi : ℕ) (low : 0x11 ≤ lo) (high : hi ≤ 0x100) (from : d ≤ lo) (same : (b : ℕ) → lo ≤ b → b < hi → get_or l (b - d) 0 ≡ f b) where
  pub items_along : (n a : ℕ) → lo ≤ a → a + n ≤ hi → items l (a - d) n ≡ along f a n
  unfolding items along next
  items_along zero a h k = refl
  items_along (suc n) a h k =
      let past : next a ≡ a + 1 = rw (ne_eqb a 0x10 (λ e. omega arith), lt-leb 0x100 a (omega arith)) refl in
      let rest = items_along n (a + 1) (omega arith) (omega arith) in
      let at : (a - d) + 1 ≡ (a + 1) - d = omega arith in
      (λ i. same a h (omega arith) i ∷ items l (at i) n) ∙ ap (λ (x : List ℕ). f a ∷ x) rest ∙ ap (λ (b : ℕ). f a ∷ along f b n) (sym past)

module _ (m : Module) (p : Pins) where
  abbrev gives : ℕ → ℕ
  gives = pin_byte m p

  -- registers that read as they are kept
  kept_byte : (b : ℕ) → (b ≡ 0x91 → ⊥) → is_data b ≡ false → within 0xD6 0xDB b ≡ false → place b < 33 → get_or p.kept (place b) 0 ≡ gives b
  kept_byte b n other f h =
      let edge = no_edges m p b f in
      sym (other_byte m p b n
      ∙ reads_kept (kept_in p.kept) (flag_in p.edge) (flag_in p.level) m.size b other edge.0 edge.1 ∙ kept_at p.kept b h)

  plain : (b : ℕ) → (b < 0xC0) ⊎ (0xC4 < b) → is_data b ≡ false
  unfolding is_data
  plain b (inl h) = rw (ne_eqb b 0xC0 (λ e. omega arith), ne_eqb b 0xC2 (λ e. omega arith), ne_eqb b 0xC4 (λ e. omega arith)) refl
  plain b (inr h) = rw (ne_eqb b 0xC0 (λ e. omega arith), ne_eqb b 0xC2 (λ e. omega arith), ne_eqb b 0xC4 (λ e. omega arith)) refl

  module _ (lo hi d : ℕ) (low : 0x11 ≤ lo) (high : hi ≤ 0x100) (from : d ≤ lo) (fact : (b : ℕ) → lo ≤ b → b < hi → (place b ≡ b - d) × (get_or p.kept (place b) 0 ≡ gives b)) where
    run_given : (n a : ℕ) → lo ≤ a → a + n ≤ hi → items p.kept (place a) n ≡ along gives a n
    unfolding items along
    run_given zero a h t = refl
    run_given (suc n) a h t =
        ap (λ (j : ℕ). items p.kept j (suc n)) (fact a h (omega arith)).0
        ∙ items_along gives p.kept d lo hi low high from (λ b u v. ap (λ (j : ℕ). get_or p.kept j 0) (sym (fact b u v).0) ∙ (fact b u v).1) (suc n) a h t

  pub kept_given : (n a : ℕ) → kept_run a n ≡ true → items p.kept (place a) n ≡ along gives a n
  unfolding kept_run
  kept_given n a run = go (run_in 0xAA 0xB0 a n) (run_in 0xC6 0xD5 a n) refl refl run
    where
      pull : (b : ℕ) → 0xAA ≤ b → b < 0xB0 → (place b ≡ b - 0xAA) × (get_or p.kept (place b) 0 ≡ gives b)
      pull b u v =
          let at = place_pulls b u (omega arith) in
          (at, kept_byte b (λ x. omega arith) (plain b (inl (omega arith))) (within_under 0xD6 0xDB b (omega arith)) (omega arith))

      setting : (b : ℕ) → 0xC6 ≤ b → b < 0xD5 → (place b ≡ b - 0xBA) × (get_or p.kept (place b) 0 ≡ gives b)
      setting b u v =
          let at = place_settings b (omega arith) (omega arith) in
          (at, kept_byte b (λ x. omega arith) (plain b (inr (omega arith))) (within_under 0xD6 0xDB b (omega arith)) (omega arith))

      drain : (b : ℕ) → 0xE0 ≤ b → b < 0xE6 → (place b ≡ b - 0xC5) × (get_or p.kept (place b) 0 ≡ gives b)
      drain b u v =
          let at = place_drains b u (omega arith) in
          (at, kept_byte b (λ x. omega arith) (plain b (inr (omega arith))) (within_over 0xD6 0xDB b (omega arith)) (omega arith))

      go : (x y : Bool) → run_in 0xAA 0xB0 a n ≡ x → run_in 0xC6 0xD5 a n ≡ y → (run_in 0xAA 0xB0 a n || (run_in 0xC6 0xD5 a n || run_in 0xE0 0xE6 a n)) ≡ true → items p.kept (place a) n ≡ along gives a n
      go true y e f r = run_given 0xAA 0xB0 0xAA (omega arith) (omega arith) (omega arith) pull n a (run_from 0xAA 0xB0 a n e) (run_to 0xAA 0xB0 a n e)
      go false true e f r = run_given 0xC6 0xD5 0xBA (omega arith) (omega arith) (omega arith) setting n a (run_from 0xC6 0xD5 a n f) (run_to 0xC6 0xD5 a n f)
      go false false e f r =
          let g : run_in 0xE0 0xE6 a n ≡ true = (λ i. sym e i || (sym f i || run_in 0xE0 0xE6 a n)) ∙ r in
          run_given 0xE0 0xE6 0xC5 (omega arith) (omega arith) (omega arith) drain n a (run_from 0xE0 0xE6 a n g) (run_to 0xE0 0xE6 a n g)

  -- a run of them has room among the kept bytes
  room_some : (n a : ℕ) → kept_run a n ≡ true → 1 ≤ n → place a + n ≤ 33
  unfolding kept_run
  room_some n a run one = go (run_in 0xAA 0xB0 a n) (run_in 0xC6 0xD5 a n) refl refl run
    where
      go : (x y : Bool) → run_in 0xAA 0xB0 a n ≡ x → run_in 0xC6 0xD5 a n ≡ y → (run_in 0xAA 0xB0 a n || (run_in 0xC6 0xD5 a n || run_in 0xE0 0xE6 a n)) ≡ true → place a + n ≤ 33
      go true y e f r =
          let from = run_from 0xAA 0xB0 a n e in
          let to = run_to 0xAA 0xB0 a n e in
          let at = place_pulls a from (omega arith) in
          omega arith
      go false true e f r =
          let from = run_from 0xC6 0xD5 a n f in
          let to = run_to 0xC6 0xD5 a n f in
          let at = place_settings a (omega arith) (omega arith) in
          omega arith
      go false false e f r =
          let g : run_in 0xE0 0xE6 a n ≡ true = (λ i. sym e i || (sym f i || run_in 0xE0 0xE6 a n)) ∙ r in
          let from = run_from 0xE0 0xE6 a n g in
          let to = run_to 0xE0 0xE6 a n g in
          let at = place_drains a from (omega arith) in
          omega arith

  room_none : (a : ℕ) → place a ≤ 33
  unfolding place
  room_none a =
      by_test (λ t. cond t (a - 0xAA) (cond (within 0xC0 0xD4 a) (a - 0xBA) (cond (within 0xE0 0xE5 a) (a - 0xC5) 33)) ≤ 33) (within 0xAA 0xAF a)
      (λ e. let to = within_to 0xAA 0xAF a e in omega arith)
      (λ e. by_test (λ t. cond t (a - 0xBA) (cond (within 0xE0 0xE5 a) (a - 0xC5) 33) ≤ 33) (within 0xC0 0xD4 a)
      (λ f. let to = within_to 0xC0 0xD4 a f in omega arith)
      (λ f. by_test (λ t. cond t (a - 0xC5) 33 ≤ 33) (within 0xE0 0xE5 a) (λ g. let to = within_to 0xE0 0xE5 a g in omega arith) (λ g. omega arith)))

  pub kept_room : (n a : ℕ) → kept_run a n ≡ true → place a + n ≤ 33
  kept_room zero a run = let most = room_none a in omega arith
  kept_room (suc n) a run = room_some (suc n) a run (omega arith)

  -- GPIORIS and GPIOMIS
  edge_byte : (j : ℕ) → j < 6 → get_or (edges p.kept p.edge) j 0 ≡ gives (0xD6 + j)
  unfolding edges pin_byte reads is_data
  edge_byte zero h = refl
  edge_byte (suc zero) h = refl
  edge_byte (suc (suc zero)) h = refl
  edge_byte (suc (suc (suc zero))) h = refl
  edge_byte (suc (suc (suc (suc zero)))) h = refl
  edge_byte (suc (suc (suc (suc (suc zero))))) h = refl
  edge_byte (suc (suc (suc (suc (suc (suc j)))))) h = absurd (omega arith)

  pub edge_given : (n a : ℕ) → 0xD6 ≤ a → a + n ≤ 0xDC → items (edges p.kept p.edge) (a - 0xD6) n ≡ along gives a n
  edge_given =
      items_along gives (edges p.kept p.edge) 0xD6 0xD6 0xDC (omega arith) (omega arith) (omega arith)
      (λ b u v. let back : 0xD6 + (b - 0xD6) ≡ b = omega arith in edge_byte (b - 0xD6) (omega arith) ∙ ap gives back)

-- ---- the keypad's registers
past_address : (a : ℕ) → (a ≡ 0x10 → ⊥) → a < 0x100 → next a ≡ a + 1
unfolding next
past_address a s h = rw (ne_eqb a 0x10 s, lt-leb 0x100 a h) refl

-- a run of n bytes more, of which the rule is known
keypad_more : (way : Access) (n a : ℕ) → a < 0x91 → (a ≡ 0x10 → ⊥) → run_allowed way a (suc n) ≡ true
    → (a + 1 < 0x91 → (a + 1 ≡ 0x10 → ⊥) → run_allowed way (a + 1) n ≡ true → (a + 1) + n ≤ 0x91) → a + suc n ≤ 0x91
keypad_more way n a h s run more = go (allowed way (register_at a)) refl (dec_lt 0x8F a)
  where
    gap : (b : ℕ) → a ≡ b → allowed way (register_at a) ≡ true → allowed way (register_at b) ≡ false → ⊥
    gap b e t f = true_false (sym t ∙ ap (λ (k : ℕ). allowed way (register_at k)) e ∙ f)

    go : (t : Bool) → allowed way (register_at a) ≡ t → Dec (0x8F < a) → a + suc n ≤ 0x91
    go false e u = true_false (sym run ∙ run_no way a (suc n) (omega arith) e)
    go true e (yes u) = let last : a ≡ 0x90 = omega arith in absurd (gap 0x90 last e (gap_90 way))
    go true e (no u) =
        let past = past_address a s (omega arith) in
        let rest : run_allowed way (a + 1) n ≡ true =
        ap (λ (b : ℕ). run_allowed way b n) (sym past) ∙ ap (run_allowed way (next a)) (sym (sub-one (suc n))) ∙ sym (run_yes way a (suc n) (omega arith) e) ∙ run in
        let behind = more (omega arith) (λ f. let was : a ≡ 0x0F = omega arith in gap 0x0F was e (gap_0f way)) rest in
        omega arith

pub keypad_run : (way : Access) (n a : ℕ) → a < 0x91 → (a ≡ 0x10 → ⊥) → run_allowed way a n ≡ true → a + n ≤ 0x91
keypad_run way zero a h s run = omega arith
keypad_run way (suc n) a h s run = keypad_more way n a h s run (keypad_run way n (a + 1))

-- a register below 0x91 is none of the pins'
keypad_other : (t : Bool) (r s : Register) → (r is PIN 0x91) ≡ false → (s is PIN 0x91) ≡ false → (cond t r s is PIN 0x91) ≡ false
keypad_other true r s e f = e
keypad_other false r s e f = f

keypad_no_pin : (a : ℕ) → a < 0x91 → (register_at a is PIN 0x91) ≡ false
unfolding ◌is◌ address
keypad_no_pin a h =
    ap (λ (r : Register). r is PIN 0x91) (keypad_below a h)
    ∙ keypad_other (eqb a 0x02) _ _ refl
    (keypad_other (eqb a 0x03) _ _ refl
    (keypad_other (eqb a 0x06) _ _ refl
    (keypad_other (eqb a 0x07) _ _ refl
    (keypad_other (eqb a 0x08) _ _ refl
    (keypad_other (eqb a 0x09) _ _ refl
    (keypad_other (leb 0x0B a && leb a 0x0E) _ _ refl
    (keypad_other (eqb a 0x10) _ _ refl
    (keypad_other (eqb a 0x84) _ _ refl refl))))))))

pub pins_alike : (a b : ℕ) → (PIN a is PIN b) ≡ true
unfolding ◌is◌ address
pins_alike a b = refl

pub told_no_pin : (r : Register) (a : ℕ) → r ≡ register_at a → a < 0x91 → (r is PIN 0x91) ≡ false
told_no_pin r a e h = ap (λ (s : Register). s is PIN 0x91) e ∙ keypad_no_pin a h
