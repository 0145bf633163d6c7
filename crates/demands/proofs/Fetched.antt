-- WHAT A HOST FETCHES can be read back: the codes that were fetched since the restart are codes of keys, and if none was lost each press is of a key that is up and each release of one that is down.
--
--    demanded_good, kept_good     the demanded changes are codes, and so are those of them that were kept
--    codes_good, codes_legal      the codes fetched, followed by those that wait, on every machine that meets demand 3
--    fetched_good, fetched_legal  the codes fetched, on every machine that meets demand 3
--    fetched_cut                  so the undo reader declines them neither with 23 nor with 24
--    ours_codes_good, ours_codes_legal, ours_fetched_good, ours_fetched_legal, ours_fetched_cut    the same of ours
--    lossy, lossy_fetched         calls that lose a press and fetch its release: what was fetched then isn't legal
--
-- Only legality asks that no change was lost; that the codes are codes holds in any case.
-- Assumes nothing.
use Prim.Native.Nat.{ℕ}
use mathlib.Core.Path.{◌≡◌, refl, ap, ◌∙◌}
use mathlib.Core.Bool.{Bool, true, false, not, cond, ◌&&◌}
use mathlib.Core.List.{List, [], ◌∷◌, ◌++◌}
use lib.ListN.{drop, replicate}
use Rattle.words.specs.Words.{all}
use Rattle.words.proofs.Laws.{and_left, and_both, all_first, all_rest, all_cons}
use Rattle.words.proofs.Lists.{by_test, all_none, all_append}
use Rattle.numbers.specs.Numbers as numbers
use Rattle.numbers.specs.Numbers.{number_of, bad_code, bad_change}
use Rattle.numbers.proofs.Laws.{line_no, lines_end}
use Rattle.keys.specs.Keys.{is_code, sample}
use Rattle.keys.specs.Replay.{replayed, legal_from, legal}
use Rattle.keys.proofs.Replay.{legal_append}
use Rattle.registers.specs.declared.Register.TheVariants.{KBDSIZE}
use Rattle.registers.specs.Registers.{◌is◌}
use Rattle.sheet.specs.Sheet.{Past, looked, wrote, got, beside, size, changes}
use Rattle.sheet.specs.Ledger.{Arrival, room, codes, kept, lost, arrivals, demanded}
use Rattle.sheet.proofs.Facts.{code_is, changes_all}
use Rattle.sheet.proofs.Arrivals.{all_kept}
use Rattle.sheet.proofs.Ledger.{all_demanded}
use Rattle.sheet.proofs.Replay.{legal_demanded}
use Rattle.undo.specs.Stands.{is_trim}
use Rattle.undo.specs.Walk.{walk_lines}
use Rattle.demands.specs.Machine.{Call, look, write, read, Machine, after, done, fits, fetched, seen}
use Rattle.demands.specs.Demands.{Demand3}
use Rattle.demands.specs.Ours.{ours}
use Rattle.demands.proofs.Meets.{ours_demand3}
use Rattle.demands.proofs.Opened.{opened}

-- ---- on the sheet
pub demanded_good : (past : Past) → all is_code (demanded past) ≡ true
unfolding demanded
demanded_good [] = all_none is_code
demanded_good (looked s ∷ past) =
    all_append is_code (demanded past) (changes s past) (demanded_good past) (changes_all s past is_code (λ k l e. code_is k (sample s (size past) k) l))
demanded_good (wrote r b ∷ past) = by_test (λ t. all is_code (cond t [] (demanded past)) ≡ true) (r is KBDSIZE) (λ e. all_none is_code) (λ e. demanded_good past)
demanded_good (got r ∷ past) = demanded_good past
demanded_good (beside e ∷ past) = demanded_good past

-- what is true of every change is true of those that were kept
kept_all : (f : ℕ → Bool) (l : List Arrival) → all f (codes l) ≡ true → all f (kept l) ≡ true
unfolding codes kept
kept_all f [] h = all_none f
kept_all f (a ∷ l) h =
    let rest = kept_all f l (all_rest f a.change (codes l) h) in
    by_test (λ t. all f (cond t (a.change ∷ []) [] ++ kept l) ≡ true) (room a.waited) (λ e. all_cons f a.change (kept l) (all_first f a.change (codes l) h) rest) (λ e. rest)

pub kept_good : (past : Past) → all is_code (kept (arrivals past)) ≡ true
kept_good past = kept_all is_code (arrivals past) (ap (all is_code) (all_demanded past) ∙ demanded_good past)

-- if none was lost, all were kept
kept_legal : (past : Past) → lost (arrivals past) ≡ [] → legal (kept (arrivals past)) ≡ true
kept_legal past none = ap legal (all_kept (arrivals past) none ∙ all_demanded past) ∙ legal_demanded past

-- ---- a list's beginning
all_front : (f : ℕ → Bool) (a b : List ℕ) → all f (a ++ b) ≡ true → all f a ≡ true
all_front f [] b h = all_none f
all_front f (x ∷ a) b h = all_cons f x a (all_first f x (a ++ b) h) (all_front f a b (all_rest f x (a ++ b) h))

legal_front : (a b : List ℕ) → legal (a ++ b) ≡ true → legal a ≡ true
unfolding legal
legal_front a b h = and_left (legal a) (legal_from (λ k. replayed k false a) b) (rw (legal_append (λ k. false) a b) at h)

-- ---- on every machine that meets demand 3
module _ (M : Machine) (d : Demand3 M) (cs : List Call) (fit : all fits cs ≡ true) where
  pub codes_good : all is_code (fetched M cs ++ seen M (after M cs)) ≡ true
  codes_good = ap (all is_code) (d.ledger cs fit) ∙ kept_good (done M cs)

  pub codes_legal : lost (arrivals (done M cs)) ≡ [] → legal (fetched M cs ++ seen M (after M cs)) ≡ true
  codes_legal none = ap legal (d.ledger cs fit) ∙ kept_legal (done M cs) none

  pub fetched_good : all is_code (fetched M cs) ≡ true
  fetched_good = all_front is_code (fetched M cs) (seen M (after M cs)) codes_good

  pub fetched_legal : lost (arrivals (done M cs)) ≡ [] → legal (fetched M cs) ≡ true
  fetched_legal none = legal_front (fetched M cs) (seen M (after M cs)) (codes_legal none)

  -- so the undo reader gives neither 23 nor 24 for them, whichever key is the trim key
  pub fetched_cut : (trim : ℕ) → is_trim trim ≡ true → lost (arrivals (done M cs)) ≡ [] → number_of (walk_lines trim (fetched M cs)) ≡ numbers.done
  unfolding walk_lines
  fetched_cut trim key none =
      let good : (is_trim trim && all is_code (fetched M cs)) ≡ true = and_both (is_trim trim) (all is_code (fetched M cs)) key fetched_good in
      line_no _ bad_code _ (ap not good) ∙ line_no _ bad_change _ (ap not (fetched_legal none)) ∙ lines_end

-- ---- ours
module _ (cs : List Call) (fit : all fits cs ≡ true) where
  pub ours_codes_good : all is_code (fetched ours cs ++ seen ours (after ours cs)) ≡ true
  ours_codes_good = codes_good ours ours_demand3 cs fit

  pub ours_codes_legal : lost (arrivals (done ours cs)) ≡ [] → legal (fetched ours cs ++ seen ours (after ours cs)) ≡ true
  ours_codes_legal = codes_legal ours ours_demand3 cs fit

  pub ours_fetched_good : all is_code (fetched ours cs) ≡ true
  ours_fetched_good = fetched_good ours ours_demand3 cs fit

  pub ours_fetched_legal : lost (arrivals (done ours cs)) ≡ [] → legal (fetched ours cs) ≡ true
  ours_fetched_legal = fetched_legal ours ours_demand3 cs fit

  pub ours_fetched_cut : (trim : ℕ) → is_trim trim ≡ true → lost (arrivals (done ours cs)) ≡ [] → number_of (walk_lines trim (fetched ours cs)) ≡ numbers.done
  ours_fetched_cut = fetched_cut ours ours_demand3 cs fit

-- ---- a loss
-- The calls, newest first. Told from the oldest: sixteen keys close in one look, with bounce 1 and size 8C, and the press of row 1 column 3 is lost; fifteen codes are fetched; that key opens, and its release is fetched.
abbrev pub lossy : List Call
lossy =
    read 0x10 (0 ∷ [])
    ∷ look (0x0FFF ∷ 0x0007 ∷ replicate 6 0)
    ∷ read 0x10 (replicate 15 0)
    ∷ look (0x0FFF ∷ 0x000F ∷ replicate 6 0)
    ∷ write 0x02 (1 ∷ 0x8C ∷ [])
    ∷ []

pub lossy_fetched : (lost (arrivals (done ours lossy)) ≡ 0x13 ∷ []) × (drop 15 (fetched ours lossy) ≡ 0x93 ∷ []) × (legal (fetched ours lossy) ≡ false)
unfolding opened
lossy_fetched = (refl, refl, refl)
