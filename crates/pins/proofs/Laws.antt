-- Laws of the spare pins.
--
--    within_yes, within_under, within_over    an address that is within, below and above; within-from, within-to: told from it
--    place_pulls, place_settings, place_drains, place_other    the place of a register: 0xAA on, 0xC0 on, 0xE0 on, and none
--    place_where               a register that has a place is in one of the three
--    place_below, place_below_drains    the registers at 0xC0 to 0xD4 and at 0xE0 to 0xE5 have one
--    address_place, place_address       the address of a register's place, and the place of an address
--    address_low               an address of a place is below 0x100
--    kept_at, kept_none        the byte kept at an address, by its place; 0 where there is none
--    kept_own, kept_other, kept_set     once a byte is set: at its address, elsewhere, and both in one
--    kept_table, kept_fresh, set_table  in a table by address, after reset, and a byte set in such a table
--    written_kept, written_clears       a byte written to a register that has a place, and to one that has none
--    bank_at, paired_at, drain_at       a pin's bit by places and by addresses
--    data_at, mask_at, ..; banks        the same for each bank; all of these
--    drives_used, drives_input, drives_masked, drives_whole, drives_drain    a pin that is driven, test by test
--    shows_used, shows_masked, shows_output, shows_input                     a read of GPIODATA, the same
--    edge_steady, edge_used, edge_output, edge_level, edge_both, edge_one    an edge, the same
--    clears_elsewhere, clears_here      a byte for another GPIOIC register, and for the pin's own
--    turned_next               a list of flags that is replaced from the front, one of them turned or left as it was
--    sample_next, clear_next   one pin more is sampled, one pin more is cleared
--    word_none, word_next, word_below   a word that is put together from the top
--    some_any                  `any` finds whether some pin has a flag
--    reads_data, reads_raw, reads_masked, reads_kept    a read, by the address; data_within: which addresses GPIODATA has
--    word_same, byte_same, some_same    where flags agree at every pin
--    bank_same, paired_same, drain_same, drives_same, high_same, edge_same, shows_same, masked_same, raised_same, reads_same
--                              where also bytes agree, at every register that has a place
-- Assumes nothing.
use Prim.Native.Nat.{ℕ, ◌+◌, ◌-◌, ◌*◌, ◌/◌, ◌%◌, ◌^◌, ◌≤◌, ◌<◌}
use native.Mathlib.Nat.{pow-le-pow_right}
use native.Mathlib.Decide.{dec_lt}
use native.Mathlib.Numerals.{add-one}
use native.Mathlib.Omega.{arith}
use mathlib.Core.Path.{◌≡◌, refl, sym, ap, ◌∙◌}
use mathlib.Core.Bool.{Bool, true, false, not, ◌&&◌, ◌||◌, beq, and-false, or-true, or-false, not-not, or_assoc}
use mathlib.Core.List.{List}
use mathlib.Core.Logic.{◌⊎◌, inl, inr}
use lib.Dec.{leb, ltb, eqb}
use lib.ListN.{length, get_or, set, drop, length-set, length-drop, drop_of_length-le}
use lib.Seq.{drop-cons, get_or-set_same, get_or-set_other, set-get_or}
use Rattle.std.specs.List.{list_any, range_with_len}
use borrow.Author.Tests.{ltb-true, leb-true, eqb-true, lt-ltb, le-ltb, le-leb, lt-leb, eq-eqb, ne_eqb}
use Rattle.words.specs.Words.{◌if◌, ◌else◌, all_below, within, bit, table}
use Rattle.words.specs.Bits.{binary}
use Rattle.words.proofs.Laws.{true_false, and_left, and_right, all_below_lem, below_same}
use Rattle.words.proofs.Bits.{binary_below}
use Rattle.words.proofs.Tables.{table_length, table_at, table_same, by_table, replaced, replaced_at, replaced_next}
use Rattle.pins.specs.declared.Pins.{Pins}
use Rattle.pins.specs.Rules.{used, after_reset, bank, paired, DATA, MASK, DIR, IS, IBE, IEV, IE, OME, OMS, drives, shows, edge, clears, some_pin, word, byte_by, is_data, reads}
use Rattle.pins.specs.Pins.{place, address_of, kept_in, flag_in, pins, fresh, cleared, written, edged}

-- ---- addresses
module _ (lo hi a : ℕ) where
  pub within_yes : lo ≤ a → a ≤ hi → within lo hi a ≡ true
  within_yes h k = rw (le-leb lo a h, le-leb a hi k)

  pub within_under : a < lo → within lo hi a ≡ false
  within_under h = rw (lt-leb lo a h)

  pub within_over : hi < a → within lo hi a ≡ false
  within_over h = rw (lt-leb a hi h) (and-false (leb lo a))

  pub within_from : within lo hi a ≡ true → lo ≤ a
  within_from e = leb-true lo a (and_left (leb lo a) (leb a hi) e)

  pub within_to : within lo hi a ≡ true → a ≤ hi
  within_to e = leb-true a hi (and_right (leb lo a) (leb a hi) e)

neither : (a : ℕ) → within 0xD6 0xD8 a ≡ false → within 0xD9 0xDB a ≡ false → within 0xD6 0xDB a ≡ false
neither a f g = go (within 0xD6 0xDB a) refl (dec_lt a 0xD9)
  where
    go : (t : Bool) → within 0xD6 0xDB a ≡ t → Dec (a < 0xD9) → within 0xD6 0xDB a ≡ false
    go true e (yes l) = true_false (sym (within_yes 0xD6 0xD8 a (within_from 0xD6 0xDB a e) (omega arith)) ∙ f)
    go true e (no l) = true_false (sym (within_yes 0xD9 0xDB a (omega arith) (within_to 0xD6 0xDB a e)) ∙ g)
    go false e d = e

module _ (a : ℕ) where
  pub place_pulls : 0xAA ≤ a → a ≤ 0xAF → place a ≡ a - 0xAA
  unfolding place
  place_pulls h k = rw (within_yes 0xAA 0xAF a h k)

  pub place_settings : 0xC0 ≤ a → a ≤ 0xD4 → place a ≡ a - 0xBA
  unfolding place
  place_settings h k = rw (within_over 0xAA 0xAF a (omega arith), within_yes 0xC0 0xD4 a h k)

  pub place_drains : 0xE0 ≤ a → a ≤ 0xE5 → place a ≡ a - 0xC5
  unfolding place
  place_drains h k = rw (within_over 0xAA 0xAF a (omega arith), within_over 0xC0 0xD4 a (omega arith), within_yes 0xE0 0xE5 a h k)

  pub place_other : within 0xAA 0xAF a ≡ false → within 0xC0 0xD4 a ≡ false → within 0xE0 0xE5 a ≡ false → place a ≡ 33
  unfolding place
  place_other e f g = rw (e, f, g)

  pub place_where : place a < 33 → ((0xAA ≤ a) × (a ≤ 0xAF)) ⊎ (((0xC0 ≤ a) × (a ≤ 0xD4)) ⊎ ((0xE0 ≤ a) × (a ≤ 0xE5)))
  place_where h = go (within 0xAA 0xAF a) (within 0xC0 0xD4 a) (within 0xE0 0xE5 a) refl refl refl
    where
      go : (p s d : Bool) → within 0xAA 0xAF a ≡ p → within 0xC0 0xD4 a ≡ s → within 0xE0 0xE5 a ≡ d
          → ((0xAA ≤ a) × (a ≤ 0xAF)) ⊎ (((0xC0 ≤ a) × (a ≤ 0xD4)) ⊎ ((0xE0 ≤ a) × (a ≤ 0xE5)))
      go true s d e f g = inl (within_from 0xAA 0xAF a e, within_to 0xAA 0xAF a e)
      go false true d e f g = inr (inl (within_from 0xC0 0xD4 a f, within_to 0xC0 0xD4 a f))
      go false false true e f g = inr (inr (within_from 0xE0 0xE5 a g, within_to 0xE0 0xE5 a g))
      go false false false e f g = let none = place_other e f g in absurd (omega arith)

  pub place_below : 0xC0 ≤ a → a ≤ 0xD4 → place a < 33
  place_below h k = let e = place_settings h k in omega arith

  pub place_below_drains : 0xE0 ≤ a → a ≤ 0xE5 → place a < 33
  place_below_drains h k = let e = place_drains h k in omega arith

  pub address_place : place a < 33 → address_of (place a) ≡ a
  unfolding address_of
  address_place h = go (place_where h)
    where
      go : ((0xAA ≤ a) × (a ≤ 0xAF)) ⊎ (((0xC0 ≤ a) × (a ≤ 0xD4)) ⊎ ((0xE0 ≤ a) × (a ≤ 0xE5))) → address_of (place a) ≡ a
      go (inl (l, k)) = rw (place_pulls l k, lt-ltb (a - 0xAA) 6 (omega arith)) (omega arith)
      go (inr (inl (l, k))) = rw (place_settings l k, le-ltb (a - 0xBA) 6 (omega arith), lt-ltb (a - 0xBA) 27 (omega arith)) (omega arith)
      go (inr (inr (l, k))) = rw (place_drains l k, le-ltb (a - 0xC5) 6 (omega arith), le-ltb (a - 0xC5) 27 (omega arith)) (omega arith)

placed : all_below (λ n. eqb (place (address_of n)) n && ltb (address_of n) 0x100) 33 ≡ true
unfolding all_below place address_of
placed = refl

module _ (n : ℕ) (h : n < 33) where
  one_placed : (eqb (place (address_of n)) n && ltb (address_of n) 0x100) ≡ true
  one_placed = all_below_lem (λ k. eqb (place (address_of k)) k && ltb (address_of k) 0x100) 33 placed n h

  pub place_address : place (address_of n) ≡ n
  place_address = eqb-true (place (address_of n)) n (and_left (eqb (place (address_of n)) n) (ltb (address_of n) 0x100) one_placed)

  pub address_low : address_of n < 0x100
  address_low = ltb-true (address_of n) 0x100 (and_right (eqb (place (address_of n)) n) (ltb (address_of n) 0x100) one_placed)

-- ---- the bytes kept
module _ (k : List ℕ) (a : ℕ) where
  pub kept_at : place a < 33 → kept_in k a ≡ get_or k (place a) 0
  unfolding kept_in
  kept_at h = rw (lt-ltb (place a) 33 h)

  pub kept_none : 33 ≤ place a → kept_in k a ≡ 0
  unfolding kept_in
  kept_none h = rw (le-ltb (place a) 33 h)

module _ (k : List ℕ) (a b : ℕ) (h : place a < 33) where
  pub kept_own : length k ≡ 33 → kept_in (set k (place a) b) a ≡ b
  kept_own l = kept_at (set k (place a) b) a h ∙ get_or-set_same k (place a) b 0 (omega arith)

  pub kept_other : (c : ℕ) → (c ≡ a → ⊥) → kept_in (set k (place a) b) c ≡ kept_in k c
  kept_other c n = go (dec_lt (place c) 33)
    where
      apart : place c < 33 → place c ≡ place a → ⊥
      apart l e = n (sym (address_place c l) ∙ ap address_of e ∙ address_place a h)

      go : Dec (place c < 33) → kept_in (set k (place a) b) c ≡ kept_in k c
      go (yes l) = kept_at (set k (place a) b) c l ∙ get_or-set_other k (place a) (place c) b 0 (apart l) ∙ sym (kept_at k c l)
      go (no l) = kept_none (set k (place a) b) c (omega arith) ∙ sym (kept_none k c (omega arith))

  pub kept_set : length k ≡ 33 → (c : ℕ) → kept_in (set k (place a) b) c ≡ (b if eqb c a else kept_in k c)
  kept_set l c = go (eqb c a) refl
    where
      go : (t : Bool) → eqb c a ≡ t → kept_in (set k (place a) b) c ≡ (b if eqb c a else kept_in k c)
      go true e = rw (e, eqb-true c a e) (kept_own l)
      go false e = rw e (kept_other c (λ q. true_false (sym (eq-eqb c a q) ∙ e)))

-- a table by address
module _ (f : ℕ → ℕ) where
  pub kept_table : (a : ℕ) → place a < 33 → kept_in (table (λ n. f (address_of n)) 33) a ≡ f a
  kept_table a h = kept_at (table (λ n. f (address_of n)) 33) a h ∙ table_at (λ n. f (address_of n)) 33 (place a) 0 h ∙ ap f (address_place a h)

  pub set_table : (a b : ℕ) → place a < 33
      → set (table (λ n. f (address_of n)) 33) (place a) b ≡ table (λ n. b if eqb (address_of n) a else f (address_of n)) 33
  set_table a b h = sym (by_table 0 (λ n. b if eqb (address_of n) a else f (address_of n)) 33 (set (table (λ n. f (address_of n)) 33) (place a) b) long same)
    where
      long : length (set (table (λ n. f (address_of n)) 33) (place a) b) ≡ 33
      long = length-set (table (λ n. f (address_of n)) 33) (place a) b ∙ table_length (λ n. f (address_of n)) 33

      go : (n : ℕ) → n < 33 → (t : Bool) → eqb (address_of n) a ≡ t
          → (b if eqb (address_of n) a else f (address_of n)) ≡ get_or (set (table (λ n. f (address_of n)) 33) (place a) b) n 0
      go n l true e =
          let here : n ≡ place a = sym (place_address n l) ∙ ap place (eqb-true (address_of n) a e) in
          let wide = table_length (λ n. f (address_of n)) 33 in
          rw (e, here) (sym (get_or-set_same (table (λ n. f (address_of n)) 33) (place a) b 0 (omega arith)))
      go n l false e =
          let away : n ≡ place a → ⊥ = λ q. true_false (sym (eq-eqb (address_of n) a (ap address_of q ∙ address_place a h)) ∙ e) in
          rw e (sym (get_or-set_other (table (λ n. f (address_of n)) 33) (place a) n b 0 away ∙ table_at (λ n. f (address_of n)) 33 n 0 l))

      same : (n : ℕ) → n < 33 → (b if eqb (address_of n) a else f (address_of n)) ≡ get_or (set (table (λ n. f (address_of n)) 33) (place a) b) n 0
      same n l = go n l (eqb (address_of n) a) refl

pub kept_fresh : (a : ℕ) → place a < 33 → kept_in fresh.kept a ≡ after_reset a
unfolding fresh
kept_fresh = kept_table after_reset

module _ (p : Pins) (a b : ℕ) where
  pub written_kept : place a < 33 → written p a b ≡ pins (set p.kept (place a) b) p.edge p.level p.sampled
  unfolding written
  written_kept h = rw (lt-ltb (place a) 33 h)

  pub written_clears : 33 ≤ place a → written p a b ≡ pins p.kept (cleared p.edge a b) p.level p.sampled
  unfolding written
  written_clears h = rw (le-ltb (place a) 33 h)

-- ---- a pin's bit, by places and by addresses
module _ (k : List ℕ) where
  by_place : (c n a : ℕ) → place a ≡ n → n < 33 → bit c (get_or k n 0) ≡ bit c (kept_in k a)
  by_place c n a e h = rw (kept_at k a (omega arith), e)

  module _ (n i : ℕ) (h : i < 19) where
    pub bank_at : 6 ≤ n → n ≤ 24 → bit (i % 8) (get_or k (n + i / 8) 0) ≡ bank (kept_in k) (n + 0xBA) i
    unfolding bank
    bank_at l m = by_place (i % 8) (n + i / 8) (n + 0xBA + i / 8) (place_settings (n + 0xBA + i / 8) (omega arith) (omega arith) ∙ omega arith) (omega arith)

    pub paired_at : 6 ≤ n → n ≤ 22 → bit (i % 8) (get_or k (n + 2 * (i / 8)) 0) ≡ paired (kept_in k) (n + 0xBA) i
    unfolding paired
    paired_at l m = by_place (i % 8) (n + 2 * (i / 8)) (n + 0xBA + 2 * (i / 8)) (place_settings (n + 0xBA + 2 * (i / 8)) (omega arith) (omega arith) ∙ omega arith) (omega arith)

    pub drain_at : 27 ≤ n → n ≤ 28 → bit (i % 8) (get_or k (n + 2 * (i / 8)) 0) ≡ paired (kept_in k) (n + 0xC5) i
    unfolding paired
    drain_at l m = by_place (i % 8) (n + 2 * (i / 8)) (n + 0xC5 + 2 * (i / 8)) (place_drains (n + 0xC5 + 2 * (i / 8)) (omega arith) (omega arith) ∙ omega arith) (omega arith)

-- the same, bank for bank
module _ (k : List ℕ) (i : ℕ) (h : i < 19) where
  pub data_at : bit (i % 8) (get_or k (6 + 2 * (i / 8)) 0) ≡ DATA (kept_in k) i
  data_at = paired_at k 6 i h (omega arith) (omega arith)

  pub mask_at : bit (i % 8) (get_or k (7 + 2 * (i / 8)) 0) ≡ MASK (kept_in k) i
  mask_at = paired_at k 7 i h (omega arith) (omega arith)

  pub dir_at : bit (i % 8) (get_or k (12 + i / 8) 0) ≡ DIR (kept_in k) i
  dir_at = bank_at k 12 i h (omega arith) (omega arith)

  pub is_at : bit (i % 8) (get_or k (15 + i / 8) 0) ≡ IS (kept_in k) i
  is_at = bank_at k 15 i h (omega arith) (omega arith)

  pub ibe_at : bit (i % 8) (get_or k (18 + i / 8) 0) ≡ IBE (kept_in k) i
  ibe_at = bank_at k 18 i h (omega arith) (omega arith)

  pub iev_at : bit (i % 8) (get_or k (21 + i / 8) 0) ≡ IEV (kept_in k) i
  iev_at = bank_at k 21 i h (omega arith) (omega arith)

  pub ie_at : bit (i % 8) (get_or k (24 + i / 8) 0) ≡ IE (kept_in k) i
  ie_at = bank_at k 24 i h (omega arith) (omega arith)

  pub ome_at : bit (i % 8) (get_or k (27 + 2 * (i / 8)) 0) ≡ OME (kept_in k) i
  ome_at = drain_at k 27 i h (omega arith) (omega arith)

  pub oms_at : bit (i % 8) (get_or k (28 + 2 * (i / 8)) 0) ≡ OMS (kept_in k) i
  oms_at = drain_at k 28 i h (omega arith) (omega arith)

pub ruleset banks = (data_at, mask_at, dir_at, is_at, ibe_at, iev_at, ie_at, ome_at, oms_at)

-- ---- what a pin does, test by test
module _ (K : ℕ → ℕ) (size i : ℕ) where
  pub drives_used : used size i ≡ true → drives K size i ≡ false
  unfolding drives
  drives_used e = rw e

  module _ (e : used size i ≡ false) where
    pub drives_input : DIR K i ≡ false → drives K size i ≡ false
    unfolding drives
    drives_input f = rw (e, f)

    pub drives_masked : DIR K i ≡ true → MASK K i ≡ false → drives K size i ≡ false
    unfolding drives
    drives_masked f g = rw (e, f, g)

    pub drives_whole : DIR K i ≡ true → MASK K i ≡ true → OME K i ≡ false → drives K size i ≡ true
    unfolding drives
    drives_whole f g o = rw (e, f, g, o)

    pub drives_drain : DIR K i ≡ true → MASK K i ≡ true → OME K i ≡ true → drives K size i ≡ beq (OMS K i) (DATA K i)
    unfolding drives
    drives_drain f g o = rw (e, f, g, o)

  module _ (L : ℕ → Bool) where
    pub shows_used : used size i ≡ true → shows K size L i ≡ false
    unfolding shows
    shows_used e = rw e

    module _ (e : used size i ≡ false) where
      pub shows_masked : MASK K i ≡ false → shows K size L i ≡ false
      unfolding shows
      shows_masked f = rw (e, f)

      pub shows_output : MASK K i ≡ true → DIR K i ≡ true → shows K size L i ≡ DATA K i
      unfolding shows
      shows_output f g = rw (e, f, g)

      pub shows_input : MASK K i ≡ true → DIR K i ≡ false → shows K size L i ≡ L i
      unfolding shows
      shows_input f g = rw (e, f, g)

  module _ (old new : Bool) where
    pub edge_steady : beq old new ≡ true → edge K size i old new ≡ false
    unfolding edge
    edge_steady s = rw s

    module _ (s : beq old new ≡ false) where
      pub edge_used : used size i ≡ true → edge K size i old new ≡ false
      unfolding edge
      edge_used e = rw (s, e)

      module _ (e : used size i ≡ false) where
        pub edge_output : DIR K i ≡ true → edge K size i old new ≡ false
        unfolding edge
        edge_output f = rw (s, e, f)

        pub edge_level : DIR K i ≡ false → IS K i ≡ true → edge K size i old new ≡ false
        unfolding edge
        edge_level f g = rw (s, e, f, g)

        pub edge_both : DIR K i ≡ false → IS K i ≡ false → IBE K i ≡ true → edge K size i old new ≡ true
        unfolding edge
        edge_both f g o = rw (s, e, f, g, o)

        pub edge_one : DIR K i ≡ false → IS K i ≡ false → IBE K i ≡ false → edge K size i old new ≡ beq (IEV K i) new
        unfolding edge
        edge_one f g o = rw (s, e, f, g, o)

module _ (a b i : ℕ) where
  pub clears_elsewhere : (a ≡ 0xDC + i / 8 → ⊥) → clears a b i ≡ false
  unfolding clears
  clears_elsewhere n = rw (ne_eqb a (0xDC + i / 8) n)

  pub clears_here : a ≡ 0xDC + i / 8 → clears a b i ≡ bit (i % 8) b
  unfolding clears
  clears_here e = rw (eq-eqb a (0xDC + i / 8) e)

-- ---- pin after pin
pub turned_next : (f : ℕ → Bool) (l : List Bool) (k : ℕ) (v t : Bool) → k < length l → f k ≡ (v if t else get_or l k false)
    → (set (replaced f k l) k v if t else replaced f k l) ≡ replaced f (k + 1) l
turned_next f l k v true h e = ap (set (replaced f k l) k) (sym e) ∙ replaced_next f l k h
turned_next f l k v false h e =
    sym (set-get_or (replaced f k l) k false) ∙ ap (set (replaced f k l) k) (replaced_at f l k h false ∙ sym e) ∙ replaced_next f l k h

or_turned : (a t : Bool) → (a || t) ≡ (true if t else a)
or_turned a true = or-true a
or_turned a false = or-false a

module _ (p : Pins) (size x k : ℕ) (h : k < length p.edge) where
  pub sample_next : (old : Bool) → old ≡ get_or p.level k false
      → (set (replaced (edged p size x) k p.edge) k true if (p.sampled && edge (kept_in p.kept) size k old (bit k x)) else replaced (edged p size x) k p.edge)
      ≡ replaced (edged p size x) (k + 1) p.edge
  unfolding edged
  sample_next old e =
      turned_next (edged p size x) p.edge k true (p.sampled && edge (kept_in p.kept) size k old (bit k x)) h
      (rw e (or_turned (flag_in p.edge k) (p.sampled && edge (kept_in p.kept) size k (get_or p.level k false) (bit k x))))

module _ (l : List Bool) (a b k : ℕ) (h : k < length l) where
  pub clear_next : (set (replaced (λ i. false if clears a b i else flag_in l i) k l) k false if clears a b k else replaced (λ i. false if clears a b i else flag_in l i) k l)
      ≡ replaced (λ i. false if clears a b i else flag_in l i) (k + 1) l
  clear_next = turned_next (λ i. false if clears a b i else flag_in l i) l k false (clears a b k) h refl

-- ---- words of bits
module _ (f : ℕ → Bool) where
  pub word_none : binary (drop 19 (table f 19)) ≡ 0
  unfolding binary
  word_none = let n = table_length f 19 in rw (drop_of_length-le (table f 19) {i = 19} (omega arith))

  pub word_next : (n : ℕ) → n < 19 → (1 if f n else 0) + 2 * binary (drop (n + 1) (table f 19)) ≡ binary (drop n (table f 19))
  unfolding binary
  word_next n h =
      let l = table_length f 19 in
      rw (drop-cons (table f 19) n false (omega arith), table_at f 19 n false h, add-one n)

  pub word_below : (n : ℕ) → 1 ≤ n → binary (drop n (table f 19)) < 262144
  word_below n h =
      let l : length (drop n (table f 19)) ≤ 18 = rw (length-drop n (table f 19), table_length f 19) (omega arith) in
      let most : 2 ^ length (drop n (table f 19)) ≤ 2 ^ 18 = pow-le-pow_right (omega arith) l in
      let low = binary_below (drop n (table f 19)) in
      omega arith

-- ---- some pin, as `any` finds it
neither_of : (a b : Bool) → not (a && b) ≡ (not a || not b)
neither_of true b = refl
neither_of false b = refl

pub some_any : (f : ℕ → Bool) → list_any f (range_with_len 0 19) ≡ some_pin f
unfolding all_below
some_any f = simp (neither_of, not-not, or-false, or_assoc)

-- ---- a read, by the address
module _ (K : ℕ → ℕ) (E L : ℕ → Bool) (size a : ℕ) where
  pub reads_data : is_data a ≡ true → reads K E L size a ≡ byte_by (shows K size L) ((a - 0xC0) / 2)
  unfolding reads
  reads_data e = rw e

  module _ (e : is_data a ≡ false) where
    pub reads_raw : within 0xD6 0xD8 a ≡ true → reads K E L size a ≡ byte_by E (a - 0xD6)
    unfolding reads
    reads_raw f = rw (e, f)

    module _ (f : within 0xD6 0xD8 a ≡ false) where
      pub reads_masked : within 0xD9 0xDB a ≡ true → reads K E L size a ≡ byte_by (λ i. E i && IE K i) (a - 0xD9)
      unfolding reads
      reads_masked g = rw (e, f, g)

      pub reads_kept : within 0xD9 0xDB a ≡ false → reads K E L size a ≡ K a
      unfolding reads
      reads_kept g = rw (e, f, g)

pub data_within : (a : ℕ) → is_data a ≡ true → (0xC0 ≤ a) × (a ≤ 0xC4)
unfolding is_data
data_within a e = go (eqb a 0xC0) (eqb a 0xC2) (eqb a 0xC4) refl refl refl
  where
    go : (x y z : Bool) → eqb a 0xC0 ≡ x → eqb a 0xC2 ≡ y → eqb a 0xC4 ≡ z → (0xC0 ≤ a) × (a ≤ 0xC4)
    go true y z f g h = let q = eqb-true a 0xC0 f in (omega arith, omega arith)
    go false true z f g h = let q = eqb-true a 0xC2 g in (omega arith, omega arith)
    go false false true f g h = let q = eqb-true a 0xC4 h in (omega arith, omega arith)
    go false false false f g h = true_false (sym (rw (f, g, h) at e))

-- ---- bytes that agree at every register that has a place, and flags that agree at every pin
pub word_same : (f g : ℕ → Bool) → ((i : ℕ) → i < 19 → f i ≡ g i) → word f ≡ word g
unfolding word
word_same f g h = ap binary (table_same f g 19 h)

pub byte_same : (f g : ℕ → Bool) (n : ℕ) → ((i : ℕ) → i < 19 → f i ≡ g i) → byte_by f n ≡ byte_by g n
unfolding byte_by
byte_same f g n h = ap (λ (w : ℕ). w / 2 ^ (8 * n) % 256) (word_same f g h)

pub some_same : (f g : ℕ → Bool) → ((i : ℕ) → i < 19 → f i ≡ g i) → some_pin f ≡ some_pin g
some_same f g h = ap not (below_same (λ i. not (f i)) (λ i. not (g i)) 19 (λ i l. ap not (h i l)))

module _ (K K' : ℕ → ℕ) (same : (a : ℕ) → place a < 33 → K a ≡ K' a) where
  module _ (a i : ℕ) (h : i < 19) where
    pub bank_same : 0xC0 ≤ a → a ≤ 0xD2 → bank K a i ≡ bank K' a i
    unfolding bank
    bank_same l m = ap (bit (i % 8)) (same (a + i / 8) (place_below (a + i / 8) (omega arith) (omega arith)))

    pub paired_same : 0xC0 ≤ a → a ≤ 0xD0 → paired K a i ≡ paired K' a i
    unfolding paired
    paired_same l m = ap (bit (i % 8)) (same (a + 2 * (i / 8)) (place_below (a + 2 * (i / 8)) (omega arith) (omega arith)))

    pub drain_same : 0xE0 ≤ a → a ≤ 0xE1 → paired K a i ≡ paired K' a i
    unfolding paired
    drain_same l m = ap (bit (i % 8)) (same (a + 2 * (i / 8)) (place_below_drains (a + 2 * (i / 8)) (omega arith) (omega arith)))

  module _ (size i : ℕ) (h : i < 19) where
    data_same : DATA K i ≡ DATA K' i
    data_same = paired_same 0xC0 i h (omega arith) (omega arith)

    mask_same : MASK K i ≡ MASK K' i
    mask_same = paired_same 0xC1 i h (omega arith) (omega arith)

    dir_same : DIR K i ≡ DIR K' i
    dir_same = bank_same 0xC6 i h (omega arith) (omega arith)

    pub drives_same : drives K size i ≡ drives K' size i
    unfolding drives
    drives_same = rw (dir_same, mask_same, data_same, drain_same 0xE0 i h (omega arith) (omega arith), drain_same 0xE1 i h (omega arith) (omega arith))

    pub high_same : (drives K size i && DATA K i) ≡ (drives K' size i && DATA K' i)
    high_same = rw (drives_same, data_same)

    pub edge_same : (old new : Bool) → edge K size i old new ≡ edge K' size i old new
    unfolding edge
    edge_same old new = rw (dir_same, bank_same 0xC9 i h (omega arith) (omega arith), bank_same 0xCC i h (omega arith) (omega arith), bank_same 0xCF i h (omega arith) (omega arith))

    pub shows_same : (L L' : ℕ → Bool) → L i ≡ L' i → shows K size L i ≡ shows K' size L' i
    unfolding shows
    shows_same L L' e = rw (dir_same, mask_same, data_same, e)

  module _ (E E' : ℕ → Bool) (edges : (i : ℕ) → i < 19 → E i ≡ E' i) where
    pub masked_same : (i : ℕ) → i < 19 → (E i && IE K i) ≡ (E' i && IE K' i)
    masked_same i h = rw (edges i h, bank_same 0xD2 i h (omega arith) (omega arith))

    pub raised_same : some_pin (λ i. E i && IE K i) ≡ some_pin (λ i. E' i && IE K' i)
    raised_same = some_same (λ i. E i && IE K i) (λ i. E' i && IE K' i) masked_same

    module _ (L L' : ℕ → Bool) (levels : (i : ℕ) → i < 19 → L i ≡ L' i) (size a : ℕ) where
      pub reads_same : (ltb (place a) 33 || (is_data a || within 0xD6 0xDB a)) ≡ true → reads K E L size a ≡ reads K' E' L' size a
      reads_same e = go (is_data a) (within 0xD6 0xD8 a) (within 0xD9 0xDB a) refl refl refl
        where
          kept : is_data a ≡ false → within 0xD6 0xD8 a ≡ false → within 0xD9 0xDB a ≡ false → (t : Bool) → ltb (place a) 33 ≡ t → K a ≡ K' a
          kept d r m true p = same a (ltb-true (place a) 33 p)
          kept d r m false p = true_false (sym (rw (p, d, neither a r m) at e))

          go : (d r m : Bool) → is_data a ≡ d → within 0xD6 0xD8 a ≡ r → within 0xD9 0xDB a ≡ m → reads K E L size a ≡ reads K' E' L' size a
          go true r m d f g =
              reads_data K E L size a d ∙ byte_same (shows K size L) (shows K' size L') ((a - 0xC0) / 2) (λ i h. shows_same size i h L L' (levels i h))
              ∙ sym (reads_data K' E' L' size a d)
          go false true m d f g = reads_raw K E L size a d f ∙ byte_same E E' (a - 0xD6) edges ∙ sym (reads_raw K' E' L' size a d f)
          go false false true d f g =
              reads_masked K E L size a d f g ∙ byte_same (λ i. E i && IE K i) (λ i. E' i && IE K' i) (a - 0xD9) masked_same ∙ sym (reads_masked K' E' L' size a d f g)
          go false false false d f g = reads_kept K E L size a d f g ∙ kept d f g (ltb (place a) 33) refl ∙ sym (reads_kept K' E' L' size a d f g)
