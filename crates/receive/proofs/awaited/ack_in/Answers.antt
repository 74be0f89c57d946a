-- `receive::awaited::ack_in` meets its contract.
use Rattle.receive.proofs.awaited.Acked.{acked-settles, acked-clears}
use Rattle.receive.proofs.awaited.ack_in.Goals as goal

pub h_max-top-requires : goal.h_max-top-requires
h_max-top-requires c = c.requires.fact_1.codes.mother.1

pub settle_burst-requires : goal.settle_burst-requires
settle_burst-requires c =
    let n = c.requires.fact_2.1 in
    record { area = n.area; held = n.held; rest = n.rest; out = n.out; waits = n.waits; flies = n.flies; pieces = n.pieces; flying = n.flying; acked = n.acked }

pub returns-then-matched-n : goal.returns-then-matched-n
returns-then-matched-n c =
    acked-settles _ _ _ _ _ _ _ _ _ _ _ _ _ _ _ c.outcome.ensures c.on_ack-h.ensures c.wave_rank-w.ensures c.h_max-top.ensures c.long_frame.ensures
    c.settle_burst.ensures c.if-matched-n.true

pub returns : goal.returns
returns c = acked-clears _ _ _ _ _ _ _ _ _ _ _ c.outcome.ensures c.on_ack-h.ensures c.clear_burst.ensures c.if-matched-n.false
