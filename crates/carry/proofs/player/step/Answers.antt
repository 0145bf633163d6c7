-- `carry::player::step` meets its contract: by the kind, the call with as many numbers as it has.
use native.Mathlib.Omega.{arith}
use mathlib.Core.Path.{◌≡◌, sym}
use lib.ListN.{length}
use borrow.Author.Rules.{rules}
use Rattle.carry.proofs.Playing.{look_count, write_count, read_count, step_look, step_write, step_read, step_reset}
use Rattle.carry.proofs.player.step.Goals as goal

pub returns-in-Look : goal.returns-in-Look
returns-in-Look c =
    let k = sym c.in-Look.ensures in
    let long : length c.args.call.values ≡ 32 = search rules in
    let n = look_count c.args.call c.requires k in
    step_look c.args.m.now c.args.call k (omega arith) c.from-n.ensures c.look.ensures.1

pub returns-in-Write : goal.returns-in-Write
returns-in-Write c =
    let k = sym c.in-Write.ensures in
    let long : length c.args.call.values ≡ 32 = search rules in
    let n = write_count c.args.call c.requires k in
    step_write c.args.m.now c.args.call k (omega arith) c.from-n.ensures c.bytes_of.ensures c.write.ensures.1

pub returns-in-Read : goal.returns-in-Read
returns-in-Read c =
    let k = sym c.in-Read.ensures in
    step_read c.args.m.now c.args.call k (read_count c.args.call c.requires k) c.from-n.ensures c.read.ensures.0.1

pub returns-in-Reset : goal.returns-in-Reset
returns-in-Reset c = step_reset c.args.m.now c.args.call (sym c.in-Reset.ensures) c.reset.ensures

pub slice_bounds-look-end : goal.slice_bounds-look-end
slice_bounds-look-end c =
    let long : length c.args.call.values ≡ 32 = search rules in
    let n = look_count c.args.call c.requires (sym c.in-Look.ensures) in
    let e = c.from-n.ensures in
    omega arith

pub slice_bounds-write-end : goal.slice_bounds-write-end
slice_bounds-write-end c =
    let long : length c.bytes_of.result ≡ 32 = search rules in
    let n = write_count c.args.call c.requires (sym c.in-Write.ensures) in
    let e = c.from-n.ensures in
    omega arith

pub slice_bounds-read-end : goal.slice_bounds-read-end
slice_bounds-read-end c =
    let n = read_count c.args.call c.requires (sym c.in-Read.ensures) in
    let e = c.from-n.ensures in
    omega arith
