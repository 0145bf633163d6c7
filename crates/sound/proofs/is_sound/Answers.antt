-- `sound::is_sound` meets its contract: a size that isn't acceptable or a count that is too high decides, and else the tests one after the other.
use mathlib.Core.Path.{◌≡◌, sym, ap, ◌∙◌}
use mathlib.Core.Bool.{not, ◌&&◌}
use Prim.Native.Nat.{ℕ}
use native.Mathlib.Omega.{arith}
use lib.Dec.{leb, eqb}
use borrow.Author.Tests.{le-leb}
use Rattle.std.proofs.lemmas.Grind.{common_steps}
use Rattle.words.specs.Words.{all}
use Rattle.keys.specs.Keys.{key_in, key_of}
use Rattle.state.specs.Module.{queue_of}
use Rattle.state.specs.Queue.{waiting}
use Rattle.picture.specs.Picture.{all_read}
use Rattle.sound.specs.Sound.{keys_sound, codes_sound, rest_unused}
use Rattle.sound.proofs.Laws.{sound_size, sound_count, sound_in_turn}
use Rattle.sound.proofs.is_sound.Goals as goal
use Rattle.sound.proofs.is_sound.Goals.{then-keys_sound, else-keys_sound, then-codes_sound, else-codes_sound, then-rest_unused, else-rest_unused, then-m-le-MASK, else-m-le-MASK}

pub returns-then-not-is_acceptable : goal.returns-then-not-is_acceptable
returns-then-not-is_acceptable c = grind (arith, common_steps, sound_size, sound_count)

pub returns-then-not-all_read : goal.returns-then-not-all_read
unfolding codes_sound rest_unused waiting
returns-then-not-all_read c =
    let m = c.args.m.now in
    let keys : c.if-keys_sound.value ≡ (keys_sound m.size m.held m.run && codes_sound m.size (queue_of m)) =
    rw (sym c.keys_sound.ensures) (elim c.if-keys_sound.branch [
      | then-keys_sound w ↦ rw w.if-keys_sound.true (w.value-is ∙ w.codes_sound.ensures ∙ ap (all (λ (b : ℕ). key_in m.size (key_of b))) c.split_at.ensures.front)
      | else-keys_sound w ↦ rw w.if-keys_sound.false (w.value-is ∙ w.if-keys_sound.false)
    ]) in
    let codes : c.if-codes_sound.value ≡ (c.if-keys_sound.value && rest_unused (queue_of m)) =
    elim c.if-codes_sound.branch [
      | then-codes_sound w ↦ rw w.if-codes_sound.true (w.value-is ∙ w.rest_unused.ensures ∙ ap (all (λ (b : ℕ). eqb b 0x7F)) c.split_at.ensures.back)
      | else-codes_sound w ↦ rw w.if-codes_sound.false (w.value-is ∙ w.if-codes_sound.false)
    ] in
    let rest : c.if-rest_unused.value ≡ (c.if-codes_sound.value && leb m.mask 0x0F) =
    elim c.if-rest_unused.branch [
      | then-rest_unused w ↦ rw w.if-rest_unused.true w.value-is
      | else-rest_unused w ↦ rw w.if-rest_unused.false (w.value-is ∙ w.if-rest_unused.false)
    ] in
    let mask : c.if-m-le-MASK.value ≡ (c.if-rest_unused.value && not (all_read m.seen)) =
    elim c.if-m-le-MASK.branch [
      | then-m-le-MASK w ↦ rw w.if-m-le-MASK.true (w.value-is ∙ ap not w.all_read.ensures)
      | else-m-le-MASK w ↦ rw w.if-m-le-MASK.false (w.value-is ∙ w.if-m-le-MASK.false)
    ] in
    rw (sound_in_turn m (sym c.if-not-is_acceptable.ensures) (omega arith), sym keys, sym codes, sym rest, sym mask, c.if-not-all_read.true, le-leb m.quiet 255 (omega arith))

pub returns-else-not-all_read : goal.returns-else-not-all_read
unfolding codes_sound rest_unused waiting
returns-else-not-all_read c =
    let m = c.args.m.now in
    let keys : c.if-keys_sound.value ≡ (keys_sound m.size m.held m.run && codes_sound m.size (queue_of m)) =
    rw (sym c.keys_sound.ensures) (elim c.if-keys_sound.branch [
      | then-keys_sound w ↦ rw w.if-keys_sound.true (w.value-is ∙ w.codes_sound.ensures ∙ ap (all (λ (b : ℕ). key_in m.size (key_of b))) c.split_at.ensures.front)
      | else-keys_sound w ↦ rw w.if-keys_sound.false (w.value-is ∙ w.if-keys_sound.false)
    ]) in
    let codes : c.if-codes_sound.value ≡ (c.if-keys_sound.value && rest_unused (queue_of m)) =
    elim c.if-codes_sound.branch [
      | then-codes_sound w ↦ rw w.if-codes_sound.true (w.value-is ∙ w.rest_unused.ensures ∙ ap (all (λ (b : ℕ). eqb b 0x7F)) c.split_at.ensures.back)
      | else-codes_sound w ↦ rw w.if-codes_sound.false (w.value-is ∙ w.if-codes_sound.false)
    ] in
    let rest : c.if-rest_unused.value ≡ (c.if-codes_sound.value && leb m.mask 0x0F) =
    elim c.if-rest_unused.branch [
      | then-rest_unused w ↦ rw w.if-rest_unused.true w.value-is
      | else-rest_unused w ↦ rw w.if-rest_unused.false (w.value-is ∙ w.if-rest_unused.false)
    ] in
    let mask : c.if-m-le-MASK.value ≡ (c.if-rest_unused.value && not (all_read m.seen)) =
    elim c.if-m-le-MASK.branch [
      | then-m-le-MASK w ↦ rw w.if-m-le-MASK.true (w.value-is ∙ ap not w.all_read.ensures)
      | else-m-le-MASK w ↦ rw w.if-m-le-MASK.false (w.value-is ∙ w.if-m-le-MASK.false)
    ] in
    rw (sound_in_turn m (sym c.if-not-is_acceptable.ensures) (omega arith), sym keys, sym codes, sym rest, sym mask, c.if-not-all_read.false)
