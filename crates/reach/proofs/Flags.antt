-- ANY KEYS, ANY FLAGS and ANY MARKS short of all four can be had while 15 codes wait; then those before the wanted ones are fetched.
--
--    Flags past ..    what is known of a past's flags and marks
--    Known z d ..     after some past, all of this is known
--    dropped          one key changes while 15 wait: RSINT and RELINT are set, RKLINT if RSINT was, no mark is left
--    flat h           the keys h, with every special function key open
--    all_set          the matrix as wanted, then the special function keys, which hide nothing that is not yet so;
--                     then the first row's special function key there and back: every flag is set
--    two_flags        RSINT and RKLINT as wanted: by KBDIC bit 0, by a read of the four, or by KBDIC between there and back
--    any_flags        and RELINT, by KBDIC bit 1
--    fetch_all        codes fetched
--    any_marks        picture registers read
-- Assumes nothing.
use Prim.Native.Nat.{ℕ, ◌<◌}
use native.Mathlib.Omega.{arith}
use mathlib.Core.Path.{◌≡◌, refl, sym, ap, ◌∙◌}
use mathlib.Core.Bool.{Bool, true, false, not, ◌||◌, cond, or-true, and-true}
use mathlib.Core.List.{List, [], ◌∷◌, ◌++◌}
use borrow.Author.Tests.{lt-ltb}
use lib.Dec.{ltb}
use lib.ListN.{length, drop, length-append}
use Rattle.words.specs.Words.{all, among, some, bit, without}
use Rattle.words.proofs.Laws.{and_left}
use Rattle.words.proofs.Lists.{by_test}
use Rattle.keys.specs.Keys.{col_of, code, acceptable, special}
use Rattle.keys.proofs.Laws.{hidden_special}
use Rattle.registers.specs.declared.Register.TheVariants.{KBDIC, KBDCODE, EVTCODE}
use Rattle.registers.specs.Registers.{◌is◌, address, pictured}
use Rattle.sheet.specs.Sheet.{Past, looked, wrote, got, cleared, bounce, size, history, held, changes, waiting, relint, all_read, marks, rsint, rklint, porirq}
use Rattle.judge.specs.Lines.{byte_fits}
use Rattle.demands.specs.Shown.{run}
use Rattle.reach.proofs.Samples.{samples_of, Within, told_hidden}
use Rattle.reach.proofs.Steps.{possible, doable, Keys, none, Clear, clear_open, clear_one, look_full, look_one}
use Rattle.reach.proofs.Codes.{twice, put, put_at, put_else, put_within, first_in_lem, Waits}

pub record Flags (past : Past) (rs rk re : Bool) (l : List ℕ) : Type 0 where
  pub its_rsint : rsint past ≡ rs
  pub its_rklint : rklint past ≡ rk
  pub its_relint : relint past ≡ re
  pub its_marks : marks past ≡ l

-- ---- a change while 15 wait
module _ (past : Past) (z : ℕ) (h : ℕ → Bool) (w : List ℕ) (t : Keys past z 1 h none w) (n : length w ≡ 15) (f : ℕ → Bool) (ok : Within z f)
    (clear : Clear z h f) (k : ℕ) (low : k < 104) (e : f k ≡ not (h k)) (same : (j : ℕ) → (j ≡ k → ⊥) → f j ≡ h j) where
  one : changes (samples_of f) past ≡ code k (f k) ∷ []
  one = look_one past z h w t f ok clear k low e same

  some_one : some (changes (samples_of f) past) ≡ true
  unfolding some
  some_one = ap some one

  over : ltb 15 (length (waiting past ++ changes (samples_of f) past)) ≡ true
  over =
      let s : length (waiting past ++ changes (samples_of f) past) ≡ 16 =
      (λ i. length (t.its_waiting i ++ one i)) ∙ length-append w (code k (f k) ∷ []) ∙ omega arith in
      ap (ltb 15) s ∙ lt-ltb 15 16 (omega arith)

  pub dropped : (rk : Bool) → (rklint past || rsint past) ≡ rk → Flags (looked (samples_of f) ∷ past) true rk true []
  unfolding rsint rklint relint marks
  dropped rk r =
      record {
        its_rsint = rw some_one (or-true (rsint past));
        its_rklint = rw (some_one, and-true (rsint past)) r;
        its_relint = rw over (or-true (relint past));
        its_marks = rw some_one refl;
      }

-- ---- all that is known, d being KBDBOUNCE
abbrev pub Known : ℕ → ℕ → (ℕ → Bool) → (ℕ → ℕ) → List ℕ → Bool → Bool → Bool → List ℕ → Type 0
Known z d h r w rs rk re l = (past : Past) × (Keys past z d h r w × Flags past rs rk re l)

-- ---- the matrix alone
flat : (ℕ → Bool) → ℕ → Bool
flat h k = cond (ltb (col_of k) 12) (h k) false

module _ (z : ℕ) (h : ℕ → Bool) (h_ok : Within z h) where
  flat_ok : Within z (flat h)
  unfolding flat
  flat_ok k l o = by_test (λ t. cond t (h k) false ≡ false) (ltb (col_of k) 12) (λ _. h_ok k l o) (λ _. refl)

  -- with no special function key closed nothing is hidden
  to_flat : (g : ℕ → Bool) → Clear z g (flat h)
  unfolding flat
  to_flat g = clear_open z g (flat h) flat_ok (λ k l e. rw e)

  -- what these hide then is as wanted
  from_flat : Clear z (flat h) h
  unfolding flat
  from_flat k l e = rw (and_left (ltb (col_of k) 12) (h (special k)) (sym (told_hidden h z k l h_ok) ∙ e))

module _ (z : ℕ) (size_ok : acceptable z ≡ true) (h : ℕ → Bool) (h_ok : Within z h) (w : List ℕ) (n : length w ≡ 15) where
  h₁ : ℕ → Bool
  h₁ = put h 12 (not (h 12))

  h₁_ok : Within z h₁
  unfolding h₁
  h₁_ok = put_within z h 12 (not (h 12)) (first_in_lem z size_ok) h_ok

  -- only that key differs, and it is never hidden
  there_else : (j : ℕ) → (j ≡ 12 → ⊥) → h₁ j ≡ h j
  unfolding h₁
  there_else = put_else h 12 (not (h 12))

  there_clear : Clear z h h₁
  there_clear = clear_one z h h₁ 12 (hidden_special (samples_of h₁) z 0 (omega arith)) there_else

  home_clear : Clear z h₁ h
  home_clear = clear_one z h₁ h 12 (hidden_special (samples_of h) z 0 (omega arith)) (λ j m. sym (there_else j m))

  -- there, and back
  there : (past : Past) → Keys past z 1 h none w → (rk : Bool) → (rklint past || rsint past) ≡ rk
      → Keys (looked (samples_of h₁) ∷ past) z 1 h₁ none w × Flags (looked (samples_of h₁) ∷ past) true rk true []
  unfolding h₁
  there past t rk r = (
    look_full past z h w t h₁ h₁_ok there_clear n,
    dropped past z h w t n h₁ h₁_ok there_clear 12 (omega arith) (put_at h 12 (not (h 12))) there_else rk r,
  )

  home : (past : Past) → Keys past z 1 h₁ none w → (rk : Bool) → (rklint past || rsint past) ≡ rk
      → Keys (looked (samples_of h) ∷ past) z 1 h none w × Flags (looked (samples_of h) ∷ past) true rk true []
  unfolding h₁
  home past t rk r = (
    look_full past z h₁ w t h h_ok home_clear n,
    dropped past z h₁ w t n h h_ok home_clear 12 (omega arith) (twice (h 12) ∙ ap not (sym (put_at h 12 (not (h 12))))) (λ j m. sym (there_else j m)) rk r,
  )

  -- every flag set
  pub all_set : Waits z w → Known z 1 h none w true true true []
  all_set (past, (g, t)) =
      let t₁ = look_full past z g w t (flat h) (flat_ok z h h_ok) (to_flat z h h_ok g) n in
      let past₁ : Past = looked (samples_of (flat h)) ∷ past in
      let t₂ = look_full past₁ z (flat h) w t₁ h h_ok (from_flat z h h_ok) n in
      let past₂ : Past = looked (samples_of h) ∷ past₁ in
      let b = there past₂ t₂ (rklint past₂ || rsint past₂) refl in
      let past₃ : Past = looked (samples_of h₁) ∷ past₂ in
      let c = home past₃ b.0 true (rw b.1.its_rsint (or-true (rklint past₃))) in
      (looked (samples_of h) ∷ past₃, c)

  -- ---- KBDIC
  module _ (g : ℕ → Bool) (rs rk re : Bool) (l : List ℕ) where
    clear_01 : (past : Past) → Keys past z 1 g none w × Flags past rs rk re l → Keys (wrote KBDIC 1 ∷ past) z 1 g none w × Flags (wrote KBDIC 1 ∷ past) false false re l
    unfolding doable possible byte_fits ◌is◌ address size bounce held run history waiting porirq rsint rklint relint marks cleared without bit
    clear_01 past (t, f) = (
      record { can = t.can; its_size = t.its_size; its_bounce = t.its_bounce; its_held = t.its_held; its_run = t.its_run; its_waiting = t.its_waiting; its_porirq = t.its_porirq },
      record { its_rsint = refl; its_rklint = refl; its_relint = f.its_relint; its_marks = f.its_marks },
    )

    clear_2 : (past : Past) → Keys past z 1 g none w × Flags past rs rk re l → Keys (wrote KBDIC 2 ∷ past) z 1 g none w × Flags (wrote KBDIC 2 ∷ past) rs rk false l
    unfolding doable possible byte_fits ◌is◌ address size bounce held run history waiting porirq rsint rklint relint marks cleared without bit
    clear_2 past (t, f) = (
      record { can = t.can; its_size = t.its_size; its_bounce = t.its_bounce; its_held = t.its_held; its_run = t.its_run; its_waiting = t.its_waiting; its_porirq = t.its_porirq },
      record { its_rsint = f.its_rsint; its_rklint = f.its_rklint; its_relint = refl; its_marks = f.its_marks },
    )

-- ---- the picture's registers read
module _ (z d : ℕ) (h : ℕ → Bool) (r : ℕ → ℕ) (w : List ℕ) (rs rk re : Bool) (l : List ℕ) where
  got_keys : (past : Past) (n : ℕ) → ltb n 4 ≡ true → Keys past z d h r w → Keys (got (KBDCODE n) ∷ past) z d h r w
  unfolding doable possible all pictured ◌is◌ address size bounce held run history waiting porirq
  got_keys past n low t = record { can = rw low t.can; its_size = t.its_size; its_bounce = t.its_bounce; its_held = t.its_held; its_run = t.its_run; its_waiting = t.its_waiting; its_porirq = t.its_porirq }

  mark_one : (n : ℕ) → ltb n 4 ≡ true → all_read (n ∷ l) ≡ false → Known z d h r w rs rk re l → Known z d h r w rs rk re (n ∷ l)
  unfolding rsint rklint relint marks pictured
  mark_one n low a (past, (t, f)) =
      let m = f.its_marks in
      let e : all_read (n ∷ marks past) ≡ false = ap (λ (x : List ℕ). all_read (n ∷ x)) m ∙ a in
      (got (KBDCODE n) ∷ past, (got_keys past n low t, record { its_rsint = rw e f.its_rsint; its_rklint = f.its_rklint; its_relint = f.its_relint; its_marks = rw e (ap (λ (x : List ℕ). n ∷ x) m) }))

  -- the one that completes the four
  mark_last : (n : ℕ) → ltb n 4 ≡ true → all_read (n ∷ l) ≡ true → Known z d h r w rs rk re l → Known z d h r w false rk re []
  unfolding rsint rklint relint marks pictured
  mark_last n low a (past, (t, f)) =
      let e : all_read (n ∷ marks past) ≡ true = ap (λ (x : List ℕ). all_read (n ∷ x)) f.its_marks ∙ a in
      (got (KBDCODE n) ∷ past, (got_keys past n low t, record { its_rsint = rw e refl; its_rklint = f.its_rklint; its_relint = f.its_relint; its_marks = rw e refl }))

  pub mark_if : (b : Bool) (n : ℕ) → ltb n 4 ≡ true → all_read (cond b (n ∷ l) l) ≡ false → Known z d h r w rs rk re l → Known z d h r w rs rk re (cond b (n ∷ l) l)
  mark_if true n low a k = mark_one n low a k
  mark_if false n low a k = k

-- ---- any flags, no mark
module _ (z : ℕ) (size_ok : acceptable z ≡ true) (h : ℕ → Bool) (h_ok : Within z h) (w : List ℕ) (n : length w ≡ 15) where
  pub two_flags : (rs rk : Bool) → Waits z w → Known z 1 h none w rs rk true []
  unfolding all_read among
  two_flags true true t = all_set z size_ok h h_ok w n t
  two_flags false false t = go (all_set z size_ok h h_ok w n t)
    where
      go : Known z 1 h none w true true true [] → Known z 1 h none w false false true []
      go (past, k) = (wrote KBDIC 1 ∷ past, clear_01 z size_ok h h_ok w n h true true true [] past k)
  two_flags false true t =
      mark_last z 1 h none w true true true (2 ∷ 1 ∷ 0 ∷ []) 3 refl refl
      (mark_one z 1 h none w true true true (1 ∷ 0 ∷ []) 2 refl refl
      (mark_one z 1 h none w true true true (0 ∷ []) 1 refl refl
      (mark_one z 1 h none w true true true [] 0 refl refl (all_set z size_ok h h_ok w n t))))
  two_flags true false t = go (all_set z size_ok h h_ok w n t)
    where
      g : ℕ → Bool
      g = h₁ z size_ok h h_ok w n

      go : Known z 1 h none w true true true [] → Known z 1 h none w true false true []
      go (past, (t, f)) =
          let b = there z size_ok h h_ok w n past t true (rw f.its_rklint refl) in
          let past₁ : Past = looked (samples_of g) ∷ past in
          let c = clear_01 z size_ok h h_ok w n g true true true [] past₁ b in
          let past₂ : Past = wrote KBDIC 1 ∷ past₁ in
          (looked (samples_of h) ∷ past₂, home z size_ok h h_ok w n past₂ c.0 false (rw (c.1.its_rklint, c.1.its_rsint) refl))

  pub any_flags : (rs rk re : Bool) → Waits z w → Known z 1 h none w rs rk re []
  any_flags rs rk true t = two_flags rs rk t
  any_flags rs rk false t = go (two_flags rs rk t)
    where
      go : Known z 1 h none w rs rk true [] → Known z 1 h none w rs rk false []
      go (past, k) = (wrote KBDIC 2 ∷ past, clear_2 z size_ok h h_ok w n h rs rk true [] past k)

-- ---- the codes before those wanted are fetched
module _ (z d : ℕ) (h : ℕ → Bool) (r : ℕ → ℕ) (rs rk re : Bool) where
  fetch : (c : ℕ) (w : List ℕ) → Known z d h r (c ∷ w) rs rk re [] → Known z d h r w rs rk re []
  unfolding doable possible all ◌is◌ address size bounce held run history waiting porirq rsint rklint relint marks pictured all_read among
  fetch c w (past, (t, f)) =
      let e : all_read (marks past) ≡ false = ap all_read f.its_marks in (
        got EVTCODE ∷ past,
        (
          record { can = t.can; its_size = t.its_size; its_bounce = t.its_bounce; its_held = t.its_held; its_run = t.its_run; its_waiting = ap (drop 1) t.its_waiting; its_porirq = t.its_porirq },
          record { its_rsint = rw e f.its_rsint; its_rklint = f.its_rklint; its_relint = f.its_relint; its_marks = rw e f.its_marks },
        ),
      )

  pub fetch_all : (j w : List ℕ) → Known z d h r (j ++ w) rs rk re [] → Known z d h r w rs rk re []
  fetch_all [] w k = k
  fetch_all (c ∷ j) w k = fetch_all j w (fetch c (j ++ w) k)

-- ---- any marks, short of all four
unfoldable pub marked : Bool → Bool → Bool → Bool → List ℕ
marked a b c e =
    let l₀ : List ℕ = cond a (0 ∷ []) [] in
    let l₁ : List ℕ = cond b (1 ∷ l₀) l₀ in
    let l₂ : List ℕ = cond c (2 ∷ l₁) l₁ in
    cond e (3 ∷ l₂) l₂

three : (a b c : Bool) → all_read (marked a b c false) ≡ false
unfolding marked all_read among
three true true true = refl
three true true false = refl
three true false true = refl
three true false false = refl
three false true true = refl
three false true false = refl
three false false true = refl
three false false false = refl

module _ (z d : ℕ) (h : ℕ → Bool) (r : ℕ → ℕ) (w : List ℕ) (rs rk re : Bool) where
  pub any_marks : (a b c e : Bool) → all_read (marked a b c e) ≡ false → Known z d h r w rs rk re [] → Known z d h r w rs rk re (marked a b c e)
  unfolding marked
  any_marks a b c e short k =
      mark_if z d h r w rs rk re (marked a b c false) e 3 refl short
      (mark_if z d h r w rs rk re (marked a b false false) c 2 refl (three a b c)
      (mark_if z d h r w rs rk re (marked a false false false) b 1 refl (three a b false)
      (mark_if z d h r w rs rk re [] a 0 refl (three a false false) k)))
