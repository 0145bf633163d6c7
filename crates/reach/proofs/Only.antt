-- EVERY SOUND STATE'S KEYPAD, awake, with a count of 0, and with the pins as after reset, is one that the sheet writes down, for a past that calls can make.
--
--    marked_seen   the marks, as the state's four
--    same_shown    the sheet's state, field by field
--    codes         the codes that wait; known: and all else but KBDMSK and PORIRQ
--    only          THE WHOLE STATE, but for the pins, the count and the sleep
-- Assumes nothing.
use Prim.Native.Nat.{ℕ, ◌+◌, ◌*◌, ◌/◌, ◌%◌, ◌-◌, ◌≤◌, ◌<◌, min}
use native.Mathlib.Omega.{arith}
use mathlib.Core.Path.{◌≡◌, refl, sym, ap, ◌∙◌, subst}
use mathlib.Core.Bool.{Bool, true, false}
use mathlib.Core.List.{List, [], ◌∷◌, ◌++◌, append-nil}
use borrow.Author.Tests.{le-leb}
use lib.Dec.{leb}
use lib.ListN.{length, get_or, take, drop, replicate, length-take, length-drop, length-replicate, get_or-replicate, take-append-drop}
use lib.Seq.{get_or-take, get_or-drop, ext_get_or}
use Rattle.words.specs.Words.{among, table, bit, without}
use Rattle.words.proofs.Tables.{by_table}
use Rattle.keys.specs.Keys.{key_in}
use Rattle.registers.specs.declared.Register.TheVariants.{KBDMSK, RSTINTCLR}
use Rattle.registers.specs.Registers.{◌is◌, address}
use Rattle.sheet.specs.Sheet as sheet
use Rattle.sheet.specs.Sheet.{Past, wrote, cleared, bounce, size, mask, history, held, waiting, relint, marks, rsint, rklint, porirq, quiet_looks, quiet, asleep}
use Rattle.sheet.proofs.Sleep.{access_wakes}
use Rattle.judge.specs.Lines.{byte_fits}
use Rattle.state.specs.declared.Module.{Module}
use Rattle.state.specs.Module.{keypad}
use Rattle.state.specs.Typed.{Typed}
use Rattle.picture.specs.Picture.{all_read}
use Rattle.sound.specs.Sound.{sound}
use Rattle.sound.specs.Said.{Code, Said}
use Rattle.sound.proofs.Laws.{sound_facts, sound_out}
use Rattle.sound.proofs.Exactly.{said_sound}
use Rattle.demands.specs.Shown.{run, places, shown}
use Rattle.demands.proofs.Bytes.{seen_all}
use Rattle.reach.proofs.Samples.{Within}
use Rattle.reach.proofs.Steps.{possible, doable, no_pins, none}
use Rattle.reach.proofs.Codes.{Waits, filled, told_code, all_more}
use Rattle.reach.proofs.Flags.{Known, any_flags, fetch_all, marked, any_marks}
use Rattle.reach.proofs.Runs.{bounced, any_runs}

-- ---- the marks
four : (s : List Bool) → length s ≡ 4 → s ≡ get_or s 0 false ∷ get_or s 1 false ∷ get_or s 2 false ∷ get_or s 3 false ∷ []
four [] e = absurd (omega arith)
four (a ∷ []) e = absurd (omega arith)
four (a ∷ b ∷ []) e = absurd (omega arith)
four (a ∷ b ∷ c ∷ []) e = absurd (omega arith)
four (a ∷ b ∷ c ∷ d ∷ []) e = refl
four (a ∷ b ∷ c ∷ d ∷ x ∷ s) e = absurd (omega arith)

marked_seen : (a b c e : Bool) → table (λ n. among n (marked a b c e)) 4 ≡ a ∷ b ∷ c ∷ e ∷ []
unfolding marked table among
marked_seen true true true true = refl
marked_seen true true true false = refl
marked_seen true true false true = refl
marked_seen true true false false = refl
marked_seen true false true true = refl
marked_seen true false true false = refl
marked_seen true false false true = refl
marked_seen true false false false = refl
marked_seen false true true true = refl
marked_seen false true true false = refl
marked_seen false true false true = refl
marked_seen false true false false = refl
marked_seen false false true true = refl
marked_seen false false true false = refl
marked_seen false false false true = refl
marked_seen false false false false = refl

-- ---- field by field
same_shown : (past : Past) (m : Module) → table (λ k. held k past) 104 ≡ m.held → table (λ k. run k past) 104 ≡ m.run
    → places (waiting past) ≡ m.queue → length (waiting past) ≡ m.count → bounce past ≡ m.bounce → size past ≡ m.size → mask past ≡ m.mask
    → rsint past ≡ m.rsint → rklint past ≡ m.rklint → relint past ≡ m.relint → porirq past ≡ m.porirq → table (λ n. among n (marks past)) 4 ≡ m.seen
    → quiet_looks past ≡ 0 → doable past ≡ true → shown past ≡ keypad m
unfolding shown quiet asleep
same_shown past m h r q c b z k rs rk re p s y d =
    λ i. record { held = h i; run = r i; queue = q i; count = c i; bounce = b i; size = z i; mask = k i; rsint = rs i; rklint = rk i; relint = re i; porirq = p i; seen = s i; quiet = min 255 (y i); asleep = leb 255 (y i); pins = no_pins past d i }

module _ (m : Module) (y : Typed m) (s : Said m) where
  good : sound m ≡ true
  good = said_sound m y s

  h : ℕ → Bool
  h k = get_or m.held k false

  r : ℕ → ℕ
  r k = get_or m.run k 0

  w : List ℕ
  w = take m.count m.queue

  l : List ℕ
  l = marked (get_or m.seen 0 false) (get_or m.seen 1 false) (get_or m.seen 2 false) (get_or m.seen 3 false)

  h_ok : Within m.size h
  unfolding h
  h_ok k a o = (sound_out m good k a o).0

  r_ok : (k : ℕ) → k < 104 → key_in m.size k ≡ false → r k ≡ 0
  unfolding r
  r_ok k a o = (sound_out m good k a o).1

  r_low : (k : ℕ) → k < 104 → r k ≤ 254
  unfolding r
  r_low k a =
      let j : 13 * (k / 13) + k % 13 ≡ k = omega arith in
      subst (λ (x : ℕ). get_or m.run x 0 ≤ 254) j (s.low (k / 13) (k % 13) (omega arith) (omega arith))

  w_long : length w ≡ m.count
  unfolding w
  w_long = let e = y.places in let f = s.few in length-take m.count m.queue ∙ omega arith

  l_seen : table (λ n. among n l) 4 ≡ m.seen
  unfolding l
  l_seen = marked_seen (get_or m.seen 0 false) (get_or m.seen 1 false) (get_or m.seen 2 false) (get_or m.seen 3 false) ∙ sym (four m.seen y.marks)

  l_short : sheet.all_read l ≡ false
  l_short = sym (seen_all l) ∙ ap all_read l_seen ∙ (sound_facts m good).marks

  w_places : places w ≡ m.queue
  unfolding places w
  w_places =
      let n = m.count in
      let q = m.queue in
      let long = y.places in
      let few = s.few in
      let un : List ℕ = replicate (15 - n) 0x7F in
      let a : length un ≡ 15 - n = length-replicate {A = ℕ} (15 - n) 0x7F in
      let b : length (drop n q) ≡ 15 - n = length-drop n q ∙ ap (λ (x : ℕ). x - n) long in
      let rest : un ≡ drop n q =
      ext_get_or 0 un (drop n q) (a ∙ sym b) (λ i g.
      get_or-replicate {A = ℕ} (15 - n) i 0x7F 0 (omega arith) ∙ sym (get_or-drop n q i 0 ∙ s.rest (n + i) (omega arith) (omega arith))) in
      ap (λ (x : ℕ). w ++ replicate (15 - x) 0x7F) w_long ∙ ap (λ (x : List ℕ). take n q ++ x) rest ∙ take-append-drop n q

  -- ---- the way there
  codes : (j : List ℕ) × ((length (j ++ ([] ++ w)) ≡ 15) × Waits m.size (j ++ ([] ++ w)))
  unfolding w
  codes = go (filled m.size s.size 15 (omega arith))
    where
      go : (j : List ℕ) × ((length j ≡ 15) × Waits m.size j) → (j : List ℕ) × ((length (j ++ ([] ++ w)) ≡ 15) × Waits m.size (j ++ ([] ++ w)))
      go (j, (n, t)) =
          let few = s.few in
          let long = w_long in
          let e : j ++ [] ≡ j = append-nil j in
          all_more m.size w j [] (λ i g. told_code m.size (get_or w i 0)
          (subst (λ (c : ℕ). Code m.size c) (sym (get_or-take m.count m.queue i 0 (omega arith))) (s.codes i (omega arith))))
          (ap length e ∙ n) (omega arith) (subst (Waits m.size) (sym e) t)

  known : Known m.size m.bounce h r w m.rsint m.rklint m.relint l
  unfolding l
  known = go codes
    where
      go : (j : List ℕ) × ((length (j ++ ([] ++ w)) ≡ 15) × Waits m.size (j ++ ([] ++ w))) → Known m.size m.bounce h r w m.rsint m.rklint m.relint l
      go (j, (n, t)) =
          bounced m.size 255 h r w m.rsint m.rklint m.relint l m.bounce y.bounce_low
          (any_runs m.size h h_ok r r_ok r_low w m.rsint m.rklint m.relint l
          (any_marks m.size 1 h none w m.rsint m.rklint m.relint (get_or m.seen 0 false) (get_or m.seen 1 false) (get_or m.seen 2 false) (get_or m.seen 3 false) l_short
          (fetch_all m.size 1 h none m.rsint m.rklint m.relint j w
          (any_flags m.size s.size h h_ok (j ++ w) n m.rsint m.rklint m.relint t))))

  -- KBDMSK, and RSTINTCLR if PORIRQ is to be clear
  ended : (b : Bool) → b ≡ m.porirq → Known m.size m.bounce h r w m.rsint m.rklint m.relint l → (past : Past) × ((doable past ≡ true) × (shown past ≡ keypad m))
  unfolding doable possible byte_fits ◌is◌ address bounce size mask held run history waiting relint marks rsint rklint porirq cleared without bit h r
  ended true e (past, (t, f)) =
      let low = s.mask in
      let past' : Past = wrote KBDMSK m.mask ∷ past in
      let can : doable past' ≡ true = rw (le-leb m.mask 255 (omega arith)) t.can in (
        past',
        (
          can,
          same_shown past' m (by_table false (λ k. held k past') 104 m.held y.keys t.its_held) (by_table 0 (λ k. run k past') 104 m.run y.runs t.its_run)
              (ap places t.its_waiting ∙ w_places) (ap length t.its_waiting ∙ w_long) t.its_bounce t.its_size (omega arith)
              f.its_rsint f.its_rklint f.its_relint (t.its_porirq ∙ e) (ap (λ (x : List ℕ). table (λ n. among n x) 4) f.its_marks ∙ l_seen) (access_wakes KBDMSK m.mask past).0 can,
        ),
      )
  ended false e (past, (t, f)) =
      let low = s.mask in
      let past' : Past = wrote RSTINTCLR 1 ∷ wrote KBDMSK m.mask ∷ past in
      let can : doable past' ≡ true = rw (le-leb m.mask 255 (omega arith)) t.can in (
        past',
        (
          can,
          same_shown past' m (by_table false (λ k. held k past') 104 m.held y.keys t.its_held) (by_table 0 (λ k. run k past') 104 m.run y.runs t.its_run)
              (ap places t.its_waiting ∙ w_places) (ap length t.its_waiting ∙ w_long) t.its_bounce t.its_size (omega arith)
              f.its_rsint f.its_rklint f.its_relint e (ap (λ (x : List ℕ). table (λ n. among n x) 4) f.its_marks ∙ l_seen) (access_wakes RSTINTCLR 1 (wrote KBDMSK m.mask ∷ past)).0 can,
        ),
      )

  pub only : (past : Past) × ((doable past ≡ true) × (shown past ≡ keypad m))
  only = ended m.porirq refl known
