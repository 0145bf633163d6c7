-- WHAT THE HOST GOT is what was fetched.
--
--    sent_first, sent_few, sent_ahead    the bytes of a read that were sent: as many as were handed over and the bus says, and the first of those made ahead
--    heard_sent        what a host hears of a read is in them
--    agreed_codes, agreed_elsewhere, heard_agreed    and the codes in them are those of the read that is made at the stop, as far as the module still gives them
--    reads_can         a read of bytes that can be read is declined by the panel's sleep only
--    reads_fetched, writes_fetched       what the calls of a stop fetch, and what they leave
--    stop_got          so at a stop the host gets what is fetched
--    host_got          HOST-GOT: after any events the codes that the host got are those that were fetched
--    host_ledger       DEMAND 3, BY WHAT THE HOST GOT
-- Assumes nothing.
use Prim.Native.Nat.{ℕ, ◌≤◌}
use native.Mathlib.Omega.{arith}
use mathlib.Core.Path.{◌≡◌, refl, sym, ap, subst, ◌∙◌}
use mathlib.Core.Bool.{true, cond, not, ◌||◌}
use mathlib.Core.List.{List, [], ◌∷◌, ◌++◌, append-nil, append_assoc}
use lib.Dec.{eqb, ltb}
use lib.ListN.{length, take, replicate}
use lib.Seq.{length-take-le, take-take, take-append_seam}
use borrow.Author.Tests.{ne_eqb, eqb-true, eqb-false, le-ltb}
use Rattle.words.specs.Words.{all}
use Rattle.words.proofs.Laws.{and_right, all_rest}
use Rattle.words.proofs.Lists.{by_test, all_append, all_take, all_replicate, take_most}
use Rattle.numbers.specs.Numbers.{number_of, no_bytes, too_many, not_allowed}
use Rattle.numbers.proofs.Laws.{line_no, lines_end}
use Rattle.keys.specs.Keys.{is_code}
use Rattle.registers.specs.declared.Access.TheVariants.{Read}
use Rattle.registers.specs.Runs.{run_allowed}
use Rattle.judge.specs.Lines.{access_lines, read_lines}
use Rattle.sheet.specs.Sheet.{waiting}
use Rattle.sheet.specs.Ledger.{kept, arrivals}
use Rattle.sheet.proofs.Facts.{waiting_codes}
use Rattle.state.specs.declared.Module.{Module}
use Rattle.access.specs.Accesses.{bytes_read}
use Rattle.wire.specs.declared.Wire.{Wire}
use Rattle.wire.specs.Wire as wire
use Rattle.wire.specs.Wire.{longest, least, shared, agreed, sent, counted}
use Rattle.wire.proofs.Laws.{longest_most, run_within, least_left, least_most, shared_most, bytes_length, first_bytes, agreed_most}
use Rattle.demands.specs.Machine.{Call, write, read, after, done, fits, codes_in, fetched_by, fetched, seen}
use Rattle.demands.specs.Ours as calls
use Rattle.demands.proofs.Meets.{ours_demand3}
use Rattle.demands.proofs.Observed.{bytes_read_lem}
use Rattle.bus.specs.Bus.{Step, reads, writes, takes, gives, stops, drops, Event, bus, own, Host, heard, hears, emptied, Story, goes_on, story, state, fit, mild, proper}
use Rattle.bus.specs.Ours.{twice, made, moved, steps, ours}
use Rattle.bus.proofs.Laws.{all_so, take_least, heard_silent, heard_elsewhere, codes_elsewhere, driven, code_driven, heard_codes, bytes_waiting, shared_codes}
use Rattle.bus.proofs.Twice.{rouses_fetched, rouses_empty, twice_empty, read_twice, write_twice}
use Rattle.bus.proofs.Made.{count_read, made_read, made_write, made_none}
use Rattle.bus.proofs.Wired.{Wired}
use Rattle.bus.proofs.Sane.{Sane, sane}
use Rattle.bus.proofs.Ahead.{AheadThen, aheads}

-- ---- the bytes that were sent
module _ (w : Wire) (h : Host) (v : Wired w h) (d : w.doing ≡ 3) (n : ℕ) where
  -- as many as were handed over, and not more than the bus says
  sent_first : sent w n ≡ take (least n w.given) w.bytes
  unfolding sent
  sent_first =
      let few = v.given d in
      let most = v.within d in
      ap (λ (k : ℕ). take (least n k) w.bytes) (least_left w.given (longest w.first) (omega arith))

  heard_sent : heard h.first (take n h.bytes) ≡ heard w.first (sent w n)
  heard_sent =
      let l = take w.given w.bytes in
      (λ i. heard (v.first i) (take n (v.handed d i)))
      ∙ heard_silent n v.silent w.first l
      ∙ ap (heard w.first) (take_least n w.given w.bytes ∙ sym sent_first)

  sent_few : length (sent w n) ≤ w.count
  sent_few =
      let few = v.given d in
      let most = (least_most n w.given).1 in
      let front = take_most (least n w.given) w.bytes in
      rw sent_first (omega arith)

  -- they are the first of those made ahead
  sent_ahead : sent w n ≡ take (length (sent w n)) (take w.count w.bytes)
  sent_ahead =
      let few = v.given d in
      let most = (least_most n w.given).1 in
      let k = least n w.given in
      let room = v.few in
      let whole = v.long in
      let long : length (sent w n) ≡ k = ap length sent_first ∙ length-take-le k w.bytes (omega arith) in
      sent_first ∙ ap (λ (j : ℕ). take j w.bytes) (sym long) ∙ sym (take-take (length (sent w n)) w.count w.bytes sent_few)

-- ---- the read at the stop
-- from EVTCODE: the bytes sent are the codes q, then empty marks; a read now gives q, then others
module _ (m : Module) (l q r : List ℕ) (good : all is_code q ≡ true) (e : l ≡ take (length l) (q ++ replicate 32 0x7F)) (f : bytes_read m 0x10 (length l) ≡ take (length l) (q ++ r)) where
  sent_driven : all driven l ≡ true
  sent_driven =
      subst (λ k. all driven k ≡ true) (sym e)
      (all_take driven (length l) (q ++ replicate 32 0x7F) (all_append driven q (replicate 32 0x7F) (all_so is_code driven code_driven q good) (all_replicate driven 32 0x7F refl)))

  agreed_codes : heard 0x10 l ≡ codes_in 0x10 (bytes_read m 0x10 (agreed m 0x10 l))
  unfolding agreed
  agreed_codes =
      let b = bytes_read m 0x10 (length l) in
      heard_codes l sent_driven
      ∙ ap (codes_in 0x10) e
      ∙ sym (shared_codes (length l) 32 q r)
      ∙ (λ i. codes_in 0x10 (take (shared (sym e i) (sym f i)) (sym f i)))
      ∙ ap (codes_in 0x10) (first_bytes m 0x10 (shared l b) (length l) (shared_most l b))

-- from elsewhere
agreed_elsewhere : (m : Module) (a : ℕ) (l : List ℕ) → (a ≡ 0x10 → ⊥) → length l ≤ longest a → heard a l ≡ codes_in a (bytes_read m a (agreed m a l))
agreed_elsewhere m a l h few =
    let most = agreed_most m a l in
    let n = agreed m a l in
    heard_elsewhere a l h (run_within a (length l) few)
    ∙ sym (codes_elsewhere a (bytes_read m a n) h (run_within a (length (bytes_read m a n)) (rw (bytes_length m a n) (omega arith))))

module _ (cs : List Call) (w : Wire) (h : Host) (v : Wired w h) (g : AheadThen w (done calls.ours cs)) (d : w.doing ≡ 3) (n : ℕ) where
  abbrev now : Module
  now = after calls.ours cs

  codes_agreed : w.first ≡ 0x10 → heard w.first (sent w n) ≡ codes_in w.first (bytes_read now w.first (agreed now w.first (sent w n)))
  codes_agreed a =
      let k = g d a in
      let l = sent w n in
      let past = done calls.ours cs in
      let few = sent_few w h v d n in
      let within = v.within d in
      let long : length l ≤ longest 0x10 = subst (λ b. length l ≤ longest b) a (omega arith) in
      let most = longest_most 0x10 in
      subst (λ b. heard b l ≡ codes_in b (bytes_read now b (agreed now b l))) (sym a)
      (agreed_codes now l k.old (k.since ++ replicate 32 0x7F)
      (subst (λ c. all is_code c ≡ true) (ap (take (length k.old)) k.waits ∙ take-append_seam k.old k.since) (all_take is_code (length k.old) (waiting past) (waiting_codes past)))
      (sent_ahead w h v d n ∙ ap (take (length l)) k.same ∙ take-take (length l) w.count (k.old ++ replicate 32 0x7F) few)
      (bytes_read_lem cs 0x10 (length l) (run_within 0x10 (length l) long)
      ∙ bytes_waiting (length l) past 32 (omega arith)
      ∙ ap (λ (c : List ℕ). take (length l) (c ++ replicate 32 0x7F)) k.waits
      ∙ ap (take (length l)) (append_assoc k.old k.since (replicate 32 0x7F))))

  heard_agreed : heard h.first (take n h.bytes) ≡ codes_in w.first (bytes_read now w.first (agreed now w.first (sent w n)))
  heard_agreed =
      let few = sent_few w h v d n in
      let most = v.within d in
      heard_sent w h v d n
      ∙ by_test (λ t. heard w.first (sent w n) ≡ codes_in w.first (bytes_read now w.first (agreed now w.first (sent w n)))) (eqb w.first 0x10)
      (λ e. codes_agreed (eqb-true w.first 0x10 e)) (λ e. agreed_elsewhere now w.first (sent w n) (eqb-false w.first 0x10 e) (omega arith))

-- ---- the stop
reads_can : (a n : ℕ) → (n ≡ 0 → ⊥) → n ≤ longest a → number_of (read_lines a n) ≡ 0
unfolding read_lines access_lines
reads_can a n some few =
    let most = longest_most a in
    line_no (eqb n 0) no_bytes _ (ne_eqb n 0 some)
    ∙ line_no (ltb 32 n) too_many _ (le-ltb 32 n (omega arith))
    ∙ line_no (not (run_allowed Read a n)) not_allowed [] (ap not (run_within a n few))
    ∙ lines_end

module _ (cs : List Call) (t : all fits cs ≡ true) (w : Wire) (h : Host) (v : Wired w h) (n : ℕ) where
  abbrev at_stop : Module
  at_stop = after calls.ours cs

  abbrev count_of : ℕ
  count_of = counted at_stop w n

  -- while the host reads
  module _ (d : w.doing ≡ 3) where
    reads_emptied : (l : List ℕ) → emptied calls.ours cs (made at_stop w n) l ≡ l
    unfolding emptied
    reads_emptied l =
        ap (λ (new : List Call). emptied calls.ours cs new l) (made_read at_stop w n d)
        ∙ by_test (λ b. emptied calls.ours cs (cond b [] (twice at_stop (read w.first (take count_of w.bytes)))) l ≡ l) (eqb count_of 0)
        (λ _. refl) (λ _. twice_empty cs w.first (take count_of w.bytes) l)

    count_few : count_of ≤ longest w.first
    count_few =
        let most = agreed_most at_stop w.first (sent w n) in
        let few = sent_few w h v d n in
        let within = v.within d in
        rw (count_read at_stop w n d) (omega arith)

    reads_fetched : fetched calls.ours (made at_stop w n ++ cs) ≡ fetched calls.ours cs ++ codes_in w.first (bytes_read at_stop w.first count_of)
    unfolding codes_in bytes_read
    reads_fetched =
        let k = count_of in
        let a = w.first in
        let old = fetched calls.ours cs in
        let l = take k w.bytes in
        let few = count_few in
        let most = longest_most a in
        let room = v.long in
        let long : length l ≡ k = length-take-le k w.bytes (omega arith) in
        ap (λ (new : List Call). fetched calls.ours (new ++ cs)) (made_read at_stop w n d)
        ∙ by_test (λ b. fetched calls.ours (cond b [] (twice at_stop (read a l)) ++ cs) ≡ old ++ codes_in a (bytes_read at_stop a k)) (eqb k 0)
        (λ e. sym (append-nil old) ∙ ap (λ (j : ℕ). old ++ codes_in a (bytes_read at_stop a j)) (sym (eqb-true k 0 e)))
        (λ e. read_twice cs t a l (subst (λ j. number_of (read_lines a j) ≡ 0) (sym long) (reads_can a k (eqb-false k 0 e) few))
        ∙ ap (λ (j : ℕ). old ++ codes_in a (bytes_read at_stop a j)) long)

  -- while it writes
  writes_fetched : w.doing ≡ 2 → emptied calls.ours cs (made at_stop w n) (fetched calls.ours cs) ≡ fetched calls.ours (made at_stop w n ++ cs)
  unfolding emptied
  writes_fetched d =
      let k = count_of in
      let c = write w.first (take k w.bytes) in
      let old = fetched calls.ours cs in
      subst (λ new. emptied calls.ours cs new old ≡ fetched calls.ours (new ++ cs)) (sym (made_write at_stop w n d))
      (by_test (λ b. emptied calls.ours cs (cond b [] (twice at_stop c)) old ≡ fetched calls.ours (cond b [] (twice at_stop c) ++ cs)) (eqb k 0)
      (λ _. refl) (λ _. write_twice cs w.first (take k w.bytes)))

  -- what the host hears at the stop
  abbrev hears_then : List ℕ
  hears_then = heard h.first (take n h.bytes)

  abbrev old_fetched : List ℕ
  old_fetched = fetched calls.ours cs

  stop_got : AheadThen w (done calls.ours cs) → emptied calls.ours cs (made at_stop w n) old_fetched ++ hears h (stops n) ≡ fetched calls.ours (made at_stop w n ++ cs)
  unfolding hears emptied
  stop_got g =
      let new = made at_stop w n in
      subst (λ r. emptied calls.ours cs new old_fetched ++ cond r hears_then [] ≡ fetched calls.ours (new ++ cs)) (sym v.reading)
      (by_test (λ r. emptied calls.ours cs new old_fetched ++ cond r hears_then [] ≡ fetched calls.ours (new ++ cs)) (eqb w.doing 3)
      (λ e. let d = eqb-true w.doing 3 e in
      (λ i. reads_emptied d old_fetched i ++ heard_agreed cs w h v g d n i)
      ∙ ap (λ (k : ℕ). old_fetched ++ codes_in w.first (bytes_read at_stop w.first k)) (sym (count_read at_stop w n d))
      ∙ sym (reads_fetched d))
      (λ e. append-nil (emptied calls.ours cs new old_fetched)
      ∙ by_test (λ b. emptied calls.ours cs new old_fetched ≡ fetched calls.ours (new ++ cs)) (eqb w.doing 2)
      (λ f. writes_fetched (eqb-true w.doing 2 f))
      (λ f. subst (λ k. emptied calls.ours cs k old_fetched ≡ fetched calls.ours (k ++ cs)) (sym (made_none at_stop w n (eqb-false w.doing 2 f) (eqb-false w.doing 3 e))) refl)))

-- ---- any events
got_step : (s : Story ours) (x : Step) → Sane s → AheadThen s.at (done calls.ours s.calls) → s.got ≡ fetched calls.ours s.calls
    → (goes_on ours s (bus x)).got ≡ fetched calls.ours (goes_on ours s (bus x)).calls
unfolding goes_on steps moved hears emptied
got_step s reads v h e =
    let n = (wire.begin_read (after calls.ours s.calls) s.at).number in
    append-nil _ ∙ rouses_empty s.calls n s.got ∙ e ∙ sym (rouses_fetched s.calls n)
got_step s writes v h e =
    let n = (wire.begin_write (after calls.ours s.calls) s.at).number in
    append-nil _ ∙ rouses_empty s.calls n s.got ∙ e ∙ sym (rouses_fetched s.calls n)
got_step s (takes b) v h e = append-nil s.got ∙ e
got_step s gives v h e = append-nil s.got ∙ e
got_step s (stops n) v h e =
    ap (λ (l : List ℕ). emptied calls.ours s.calls (made (after calls.ours s.calls) s.at n) l ++ hears s.host (stops n)) e
    ∙ stop_got s.calls v.fitting s.at s.host v.wired n h
got_step s drops v h e = append-nil s.got ∙ e

pub host_got : (es : List Event) → all fit es ≡ true → proper ours es ≡ true → (story ours es).got ≡ fetched calls.ours (story ours es).calls
unfolding story goes_on proper fetched
host_got [] f p = refl
host_got (bus x ∷ es) f p =
    let g = all_rest fit (bus x) es f in
    got_step (story ours es) x (sane es g) (aheads es g p) (host_got es g p)
host_got (own c ∷ es) f p =
    let s = story ours es in
    let g = calls.called (after calls.ours s.calls) c in
    ap (λ (l : List ℕ). cond (eqb g.number 0) (fetched_by c g.buffer l) l) (host_got es (all_rest fit (own c) es f) (and_right (mild c || not s.host.reading) (proper ours es) p))

pub host_ledger : (es : List Event) → all fit es ≡ true → proper ours es ≡ true
    → (story ours es).got ++ seen calls.ours (state ours es) ≡ kept (arrivals (done calls.ours (story ours es).calls))
unfolding state
host_ledger es f p =
    let cs = (story ours es).calls in
    ap (λ (l : List ℕ). l ++ seen calls.ours (after calls.ours cs)) (host_got es f p) ∙ ours_demand3.ledger cs (sane es f).fitting
