-- `sound::codes_sound` meets its contract: each code that waits is asked.
use Prim.Native.Nat.{ℕ}
use borrow.Author.Rules.{rules}
use lib.ListN.{get_or}
use Rattle.std.specs.Prelude.{◌↔◌, IsTrue, EachIndex}
use Rattle.keys.specs.Keys.{key_in, key_of}
use Rattle.sound.proofs.Laws.{told_by}
use Rattle.sound.proofs.codes_sound.Goals as goal

pub returns : goal.returns
returns c =
    let h : IsTrue c.all.result ↔ EachIndex c.args.codes.now (λ k. IsTrue (key_in c.args.size (key_of (get_or c.args.codes.now k 0)))) = search rules in
    told_by (λ (b : ℕ). key_in c.args.size (key_of b)) c.args.codes.now c.all.result h
