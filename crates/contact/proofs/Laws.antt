-- The run is enough: the step over the run follows the rule over the history.
--
--    changes_run      the rule, said by the run
--    run_enough       one step from a history's held and run is held and run of the longer history
--    carried_held     so the step, carried over any history with D varying at every look, is the rule
--    hidden_keeps     at a look without a sample nothing changes
--    step_rests       an open contact with no run stays so if it is hidden or reads open
--    look_enough      run-enough for a look at which there may be no sample
--    through l        a contact carried through looks at which there may be no sample
--    through_existing, through_rule    that is the step carried over the samples that exist, and so the rule over these
--    through_changes  it changes at a look exactly when its sample exists there and its last D existing ones are all the opposite
--    through_low      its run is at most 254
--    settling_run     a contact is settling exactly when it has a run
--    settling_existing    after looks it is settling exactly when its newest existing sample differs from how it is held
--    step_changed     a contact that changed is held as the look shows it
--    changed_settled  and it isn't settling then
--    step_settling    a test tells settling exactly if it tells a run
--    told_by_moved    so what a look needs of a test tells the test
--    sight_opposite, sight_turned, sight_kept    a change at such a look is to the opposite, and how the contact is held afterwards
--    sample_low, step_low    a step's run is at most 254, whatever the run was
--    run_low          no run is above 254, if every KBDBOUNCE is a byte
--    changes_to       a contact changes to what its newest sample is
--    other            a sample that isn't as held is the opposite
--    opposite_flips, opposite_stays    the other way is the opposite, and the same is not
--    reached, ahead   the tests of the code, said as the step's
-- Assumes nothing.
use Prim.Native.Nat.{ℕ, zero, suc, ◌+◌, ◌≤◌, ◌<◌}
use native.Mathlib.Numerals.{add-one}
use native.Mathlib.Omega.{arith}
use mathlib.Core.Path.{◌≡◌, refl, sym, ap, ◌∙◌}
use mathlib.Core.Bool.{Bool, true, false, not, ◌&&◌, cond, beq, and-false}
use mathlib.Core.List.{List, [], ◌∷◌}
use lib.ListN.{length, take}
use borrow.Author.Tests.{lt-leb, le-leb, leb-true, leb-false, lt-ltb}
use lib.Dec.{leb, ltb, leb-zero, leb-suc-zero, leb-suc-suc}
use Rattle.words.specs.Words.{all}
use Rattle.words.proofs.Laws.{true_false, all_first, all_rest}
use Rattle.contact.specs.declared.Contact.{Contact}
use Rattle.contact.specs.declared.Moved.{Moved}
use Rattle.contact.specs.declared.Sight.{Sight}
use Rattle.contact.specs.declared.Sight.TheVariants.{Hidden, Open, Closed}
use Rattle.contact.specs.Contact.{looks, opposite, changes, Seen, samples, held_after, run_of, settling, moved, sampled, stepped, sight_of, Look, exists, is_closed, existing}

-- the n newest samples exist and are all the opposite exactly when the run is at least n
by_run : (held : Bool) (n : ℕ) (ss : List Bool) → (leb n (length ss) && all (opposite held) (take n ss)) ≡ leb n (run_of held ss)
unfolding all run_of
by_run held zero ss = rw (leb-zero, leb-zero)
by_run held (suc n) [] = rw leb-suc-zero
by_run held (suc n) (s ∷ ss) = go (opposite held s) (by_run held n ss)
  where
    go : (b : Bool) → (leb n (length ss) && all (opposite held) (take n ss)) ≡ leb n (run_of held ss)
        → (leb (suc n) (suc (length ss)) && (b && all (opposite held) (take n ss))) ≡ leb (suc n) (cond b (run_of held ss + 1) 0)
    go false e = rw leb-suc-zero (and-false (leb (suc n) (suc (length ss))))
    go true e = rw (add-one, leb-suc-suc, leb-suc-suc) e

pub changes_run : (d : ℕ) (held : Bool) (ss : List Bool) → changes d held ss ≡ leb (looks d) (run_of held ss)
unfolding changes
changes_run d held ss = by_run held (looks d) ss

at_least_one : (d : ℕ) → leb (looks d) 0 ≡ false
unfolding looks
at_least_one d = lt-leb (looks d) 0 (omega arith)

-- "settling", said by the run
pub settling_run : (held : Bool) (ss : List Bool) → settling held ss ≡ ltb 0 (run_of held ss)
unfolding settling run_of
settling_run held [] = refl
settling_run held (s ∷ ss) = go (opposite held s)
  where
    go : (b : Bool) → b ≡ ltb 0 (cond b (run_of held ss + 1) 0)
    go true = sym (lt-ltb 0 (run_of held ss + 1) (omega arith))
    go false = refl

-- what the rule over the samples makes of a contact
ruled : ℕ → Bool → List Bool → Contact
ruled d held ss =
    let after = cond (changes d held ss) (not held) held in
    record { held = after; run = run_of after ss; changed = changes d held ss; settling = settling after ss }

step_ruled : (d : ℕ) (held s : Bool) (ss : List Bool) → sampled held (run_of held ss) s d ≡ ruled d held (s ∷ ss)
unfolding sampled run_of ruled opposite settling
step_ruled d held s ss = go held s (leb (looks d) (run_of held ss + 1)) refl
  where
    -- the contact, by whether it changes
    by : (held s b : Bool) → Contact
    by held s b = let after = cond b (not held) held in record { held = after; run = run_of after (s ∷ ss); changed = b; settling = settling after (s ∷ ss) }

    go : (held s b : Bool) → leb (looks d) (run_of held ss + 1) ≡ b → sampled held (run_of held ss) s d ≡ ruled d held (s ∷ ss)
    go true true b e = rw (changes_run d true (true ∷ ss), at_least_one d) refl
    go false false b e = rw (changes_run d false (false ∷ ss), at_least_one d) refl
    go true false true e = rw (changes_run d true (false ∷ ss), e) refl
    go true false false e = rw e (sym (ap (by true false) (changes_run d true (false ∷ ss) ∙ e)))
    go false true true e = rw (changes_run d false (true ∷ ss), e) refl
    go false true false e = rw e (sym (ap (by false true) (changes_run d false (true ∷ ss) ∙ e)))

-- what is held and the run are all that has to be remembered
pub run_enough : (x : Seen) (h : List Seen) → sampled (held_after h) (run_of (held_after h) (samples h)) x.closed x.bounce
    ≡ record { held = held_after (x ∷ h); run = run_of (held_after (x ∷ h)) (samples (x ∷ h)); changed = changes x.bounce (held_after h) (samples (x ∷ h)); settling = settling (held_after (x ∷ h)) (samples (x ∷ h)) }
unfolding held_after samples ruled
run_enough x h = step_ruled x.bounce (held_after h) x.closed (samples h)

-- a contact carried from look to look by the step
unfoldable pub carried : List Seen → Contact
carried [] = record { held = false; run = 0; changed = false; settling = false }
carried (x ∷ h) = sampled (carried h).held (carried h).run x.closed x.bounce

pub carried_held : (h : List Seen) → ((carried h).held ≡ held_after h) × ((carried h).run ≡ run_of (held_after h) (samples h))
unfolding carried held_after samples run_of
carried_held [] = (refl, refl)
carried_held (x ∷ h) = let i = carried_held h in rw (i.0, i.1, run_enough x h) (refl, refl)

-- ---- looks at which there may be no sample
pub hidden_keeps : (held : Bool) (run d : ℕ) → stepped held run Hidden d ≡ record { held = held; run = run; changed = false; settling = ltb 0 run }
unfolding stepped
hidden_keeps held run d = refl

-- a history, with the newest sample if there is one
abbrev pub seen : Bool → Seen → List Seen → List Seen
seen hidden x h = cond hidden h (x ∷ h)

-- does the contact change at that look?
abbrev pub turns : Bool → Seen → List Seen → Bool
turns hidden x h = cond hidden false (changes x.bounce (held_after h) (samples (seen hidden x h)))

pub step_rests : (b : Bool) (d : ℕ) → stepped false 0 (sight_of b false) d ≡ record { held = false; run = 0; changed = false; settling = false }
unfolding stepped sight_of sampled opposite
step_rests true d = refl
step_rests false d = refl

step_sample : (held : Bool) (run : ℕ) (s : Bool) (d : ℕ) → stepped held run (sight_of false s) d ≡ sampled held run s d
unfolding stepped sight_of
step_sample held run true d = refl
step_sample held run false d = refl

pub look_enough : (b : Bool) (x : Seen) (h : List Seen) → stepped (held_after h) (run_of (held_after h) (samples h)) (sight_of b x.closed) x.bounce
    ≡ record { held = held_after (seen b x h); run = run_of (held_after (seen b x h)) (samples (seen b x h)); changed = turns b x h; settling = settling (held_after (seen b x h)) (samples (seen b x h)) }
unfolding sight_of
look_enough true x h = rw (settling_run (held_after h) (samples h)) (hidden_keeps (held_after h) (run_of (held_after h) (samples h)) x.bounce)
look_enough false x h = step_sample (held_after h) (run_of (held_after h) (samples h)) x.closed x.bounce ∙ run_enough x h

unfoldable pub through : List Look → Contact
through [] = record { held = false; run = 0; changed = false; settling = false }
through (x ∷ l) = stepped (through l).held (through l).run x.sight x.bounce

pub through_existing : (l : List Look) → ((through l).held ≡ (carried (existing l)).held) × ((through l).run ≡ (carried (existing l)).run)
unfolding carried existing through stepped exists is_closed
through_existing [] = (refl, refl)
through_existing (x ∷ l) = let i = through_existing l in rw (i.0, i.1) (go x.sight)
  where
    c : Contact
    c = carried (existing l)

    -- of what the look shows
    go : (o : Sight) → ((stepped c.held c.run o x.bounce).held ≡ (carried (cond (exists o) (record { bounce = x.bounce; closed = is_closed o } ∷ existing l) (existing l))).held)
        × ((stepped c.held c.run o x.bounce).run ≡ (carried (cond (exists o) (record { bounce = x.bounce; closed = is_closed o } ∷ existing l) (existing l))).run)
    go Hidden = (refl, refl)
    go Open = (refl, refl)
    go Closed = (refl, refl)

pub through_rule : (l : List Look) → ((through l).held ≡ held_after (existing l)) × ((through l).run ≡ run_of (held_after (existing l)) (samples (existing l)))
through_rule l = let e = through_existing l in let f = carried_held (existing l) in (e.0 ∙ f.0, e.1 ∙ f.1)

pub through_changes : (x : Look) (l : List Look) → (through (x ∷ l)).changed ≡ (exists x.sight && changes x.bounce (held_after (existing l)) (samples (existing (x ∷ l))))
unfolding through existing stepped exists is_closed
through_changes x l = let e = through_rule l in rw (e.0, e.1) (go x.sight)
  where
    h : List Seen
    h = existing l

    go : (o : Sight) → (stepped (held_after h) (run_of (held_after h) (samples h)) o x.bounce).changed
        ≡ (exists o && changes x.bounce (held_after h) (samples (cond (exists o) (record { bounce = x.bounce; closed = is_closed o } ∷ h) h)))
    go Hidden = refl
    go Open = ap (λ (y : Contact). y.changed) (run_enough (record { bounce = x.bounce; closed = false }) h)
    go Closed = ap (λ (y : Contact). y.changed) (run_enough (record { bounce = x.bounce; closed = true }) h)

pub settling_existing : (x : Look) (l : List Look) → (through (x ∷ l)).settling ≡ settling (held_after (existing (x ∷ l))) (samples (existing (x ∷ l)))
unfolding through existing stepped exists is_closed
settling_existing x l = let e = through_rule l in rw (e.0, e.1) (go x.sight)
  where
    h : List Seen
    h = existing l

    go : (o : Sight) → (stepped (held_after h) (run_of (held_after h) (samples h)) o x.bounce).settling
        ≡ settling (held_after (cond (exists o) (record { bounce = x.bounce; closed = is_closed o } ∷ h) h)) (samples (cond (exists o) (record { bounce = x.bounce; closed = is_closed o } ∷ h) h))
    go Hidden = sym (settling_run (held_after h) (samples h))
    go Open = ap (λ (y : Contact). y.settling) (run_enough (record { bounce = x.bounce; closed = false }) h)
    go Closed = ap (λ (y : Contact). y.settling) (run_enough (record { bounce = x.bounce; closed = true }) h)

-- what a sample makes of a contact: it is the opposite of how the contact is held, and the run is then long enough
abbrev told : Bool → ℕ → Bool → Bool → Contact
told held run o b =
    cond o (cond b (record { held = not held; run = 0; changed = true; settling = false }) (record { held = held; run = run + 1; changed = false; settling = true }))
    (record { held = held; run = 0; changed = false; settling = false })

pub sample_low : (held : Bool) (run : ℕ) (s : Bool) (d : ℕ) → d ≤ 255 → (sampled held run s d).run ≤ 254
unfolding sampled looks
sample_low held run s d h = go (opposite held s) (leb (looks d) (run + 1)) refl
  where
    go : (o b : Bool) → leb (looks d) (run + 1) ≡ b → (told held run o b).run ≤ 254
    go false b e = omega arith
    go true true e = omega arith
    go true false e = let l : run + 1 < looks d = leb-false (looks d) (run + 1) e in omega arith

pub step_low : (held : Bool) (run : ℕ) (o : Sight) (d : ℕ) → d ≤ 255 → run ≤ 254 → (stepped held run o d).run ≤ 254
unfolding stepped
step_low held run Hidden d h l = l
step_low held run Open d h l = sample_low held run false d h
step_low held run Closed d h l = sample_low held run true d h

pub run_low : (h : List Seen) → all (λ x. leb x.bounce 255) h ≡ true → run_of (held_after h) (samples h) ≤ 254
unfolding samples run_of
run_low [] e = omega arith
run_low (x ∷ h) e =
    let fits = leb-true x.bounce 255 (all_first (λ y. leb y.bounce 255) x h e) in
    rw (run_enough x h) at (sample_low (held_after h) (run_of (held_after h) (samples h)) x.closed x.bounce fits)

pub through_low : (l : List Look) → all (λ x. leb x.bounce 255) l ≡ true → (through l).run ≤ 254
unfolding through
through_low [] e = omega arith
through_low (x ∷ l) e =
    step_low (through l).held (through l).run x.sight x.bounce (leb-true x.bounce 255 (all_first (λ y. leb y.bounce 255) x l e)) (through_low l (all_rest (λ y. leb y.bounce 255) x l e))

-- a sample that isn't as held is the opposite
pub other : (s held : Bool) → beq s held ≡ false → s ≡ not held
other true true e = cc
other true false e = refl
other false true e = refl
other false false e = cc

pub opposite_flips : (held : Bool) → opposite held (not held) ≡ true
unfolding opposite
opposite_flips true = refl
opposite_flips false = refl

pub opposite_stays : (held : Bool) → opposite held held ≡ false
unfolding opposite
opposite_stays true = refl
opposite_stays false = refl

pub changes_to : (d : ℕ) (held s : Bool) (ss : List Bool) → changes d held (s ∷ ss) ≡ true → s ≡ not held
unfolding run_of opposite
changes_to d held s ss e = go (beq s held) refl
  where
    go : (b : Bool) → beq s held ≡ b → s ≡ not held
    go false f = other s held f
    go true f =
        let r : leb (looks d) (run_of held (s ∷ ss)) ≡ true = sym (changes_run d held (s ∷ ss)) ∙ e in
        let r' : leb (looks d) 0 ≡ true = rw f at r in
        true_false (sym r' ∙ at_least_one d)

sample_changed : (held : Bool) (run : ℕ) (s : Bool) (d : ℕ) → (sampled held run s d).changed ≡ true → (sampled held run s d).held ≡ s
unfolding sampled opposite
sample_changed true run true d e = true_false (sym e)
sample_changed false run false d e = true_false (sym e)
sample_changed true run false d e = go (leb (looks d) (run + 1)) e
  where
    go : (b : Bool) → (told true run true b).changed ≡ true → (told true run true b).held ≡ false
    go true f = refl
    go false f = true_false (sym f)
sample_changed false run true d e = go (leb (looks d) (run + 1)) e
  where
    go : (b : Bool) → (told false run true b).changed ≡ true → (told false run true b).held ≡ true
    go true f = refl
    go false f = true_false (sym f)

pub step_changed : (b held : Bool) (run : ℕ) (s : Bool) (d : ℕ) → (stepped held run (sight_of b s) d).changed ≡ true → (stepped held run (sight_of b s) d).held ≡ s
unfolding stepped sight_of
step_changed true held run s d e = true_false (sym e)
step_changed false held run true d e = sample_changed held run true d e
step_changed false held run false d e = sample_changed held run false d e

sample_settling : (held : Bool) (run : ℕ) (s : Bool) (d : ℕ) → (sampled held run s d).settling ≡ ltb 0 (sampled held run s d).run
unfolding sampled
sample_settling held run s d = go (opposite held s) (leb (looks d) (run + 1))
  where
    go : (o b : Bool) → (told held run o b).settling ≡ ltb 0 (told held run o b).run
    go false b = refl
    go true true = refl
    go true false = sym (lt-ltb 0 (run + 1) (omega arith))

pub step_settling : (held : Bool) (run : ℕ) (o : Sight) (d : ℕ) → (stepped held run o d).settling ≡ ltb 0 (stepped held run o d).run
unfolding stepped
step_settling held run Hidden d = refl
step_settling held run Open d = sample_settling held run false d
step_settling held run Closed d = sample_settling held run true d

pub told_by_moved : (held : Bool) (run : ℕ) (o : Sight) (d : ℕ) (x : Moved) → x ≡ moved (stepped held run o d)
    → ◌≡◌ {A = Contact} (record { held = x.held; run = x.run; changed = x.changed; settling = ltb 0 x.run }) (stepped held run o d)
unfolding moved
told_by_moved held run o d x e = let y = stepped held run o d in
    ap (λ (z : Moved). record { held = z.held; run = z.run; changed = z.changed; settling = ltb 0 z.run }) e
    ∙ ap (λ (b : Bool). record { held = y.held; run = y.run; changed = y.changed; settling = b }) (sym (step_settling held run o d))

sample_settled : (held : Bool) (run : ℕ) (s : Bool) (d : ℕ) → (sampled held run s d).changed ≡ true → (sampled held run s d).settling ≡ false
unfolding sampled
sample_settled held run s d e = go (opposite held s) (leb (looks d) (run + 1)) e
  where
    go : (o b : Bool) → (told held run o b).changed ≡ true → (told held run o b).settling ≡ false
    go false b f = refl
    go true true f = refl
    go true false f = true_false (sym f)

pub changed_settled : (held : Bool) (run : ℕ) (o : Sight) (d : ℕ) → (stepped held run o d).changed ≡ true → (stepped held run o d).settling ≡ false
unfolding stepped
changed_settled held run Hidden d e = true_false (sym e)
changed_settled held run Open d e = sample_settled held run false d e
changed_settled held run Closed d e = sample_settled held run true d e

module _ (b : Bool) (x : Seen) (h : List Seen) where
  pub sight_opposite : turns b x h ≡ true → x.closed ≡ not (held_after h)
  unfolding samples
  sight_opposite = go b
    where
      go : (b : Bool) → turns b x h ≡ true → x.closed ≡ not (held_after h)
      go true e = true_false (sym e)
      go false e = changes_to x.bounce (held_after h) x.closed (samples h) e

  pub sight_turned : turns b x h ≡ true → held_after (seen b x h) ≡ x.closed
  unfolding held_after samples
  sight_turned = go b
    where
      go : (b : Bool) → turns b x h ≡ true → held_after (seen b x h) ≡ x.closed
      go true e = true_false (sym e)
      go false e = rw e (sym (changes_to x.bounce (held_after h) x.closed (samples h) e))

  pub sight_kept : turns b x h ≡ false → held_after (seen b x h) ≡ held_after h
  unfolding held_after
  sight_kept = go b
    where
      go : (b : Bool) → turns b x h ≡ false → held_after (seen b x h) ≡ held_after h
      go true e = refl
      go false e = rw e

pub reached : (d n : ℕ) → d ≤ n + 1 → leb (looks d) (n + 1) ≡ true
unfolding looks
reached d n h = le-leb (looks d) (n + 1) (omega arith)

pub ahead : (d n : ℕ) → n + 1 < d → leb (looks d) (n + 1) ≡ false
unfolding looks
ahead d n h = lt-leb (looks d) (n + 1) (omega arith)
