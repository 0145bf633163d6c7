-- `sound::rest_unused` meets its contract: each place is asked.
use Prim.Native.Nat.{ℕ}
use borrow.Author.Rules.{rules}
use lib.ListN.{get_or}
use Rattle.std.specs.Prelude.{◌↔◌, IsTrue, EachIndex}
use lib.Dec.{eqb}
use Rattle.sound.proofs.Laws.{told_by}
use Rattle.sound.proofs.rest_unused.Goals as goal

pub returns : goal.returns
returns c =
    let h : IsTrue c.all.result ↔ EachIndex c.args.places.now (λ k. IsTrue (eqb (get_or c.args.places.now k 0) 0x7F)) = search rules in
    told_by (λ (b : ℕ). eqb b 0x7F) c.args.places.now c.all.result h
