-- `receive` meets its contract: the parts are those of an accepted call.
use Rattle.receiver.proofs.Calls.{made}
use Rattle.window.proofs.Fits.{drop-lead}
use native.Mathlib.Omega.{arith}
use Rattle.receiver.proofs.receive.Goals as goal

pub overflow_cast-count : goal.overflow_cast-count
overflow_cast-count c =
    omega (arith, c.copy_out-n.ensures.0, drop-lead c.take_all-k.new.w, c.take_all-k.auto.w, c.requires.0)

pub overflow_add-count : goal.overflow_add-count
overflow_add-count c =
    omega (arith, c.copy_out-n.ensures.0, drop-lead c.take_all-k.new.w, c.take_all-k.auto.w, c.requires.0, c.requires.2)

pub overflow_cast-answer : goal.overflow_cast-answer
overflow_cast-answer c =
    omega (arith, c.copy_out-n.ensures.0, drop-lead c.take_all-k.new.w, c.take_all-k.auto.w, c.requires.0)

pub returns : goal.returns
returns c =
    let a = c.args in
    made a.r a.number a.bytes.now a.sizes.now a.slots.now a.db a.out.now a.w.now c.take_all-k.result c.take_all-k.new.w c.move_on.new.w
    c.copy_out-n.new.out c.ack_bytes-payload.result c.copy_out-n.result c.requires.0 c.take_all-k.auto.w c.take_all-k.ensures c.copy_out-n.ensures.0 c.copy_out-n.ensures.1
    c.move_on.ensures c.ack_bytes-payload.ensures
