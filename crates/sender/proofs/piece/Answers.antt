-- `sender::piece` meets its contract.
use mathlib.Core.Bool.{false}
use mathlib.Core.Path.{refl, ◌∙◌}
use Rattle.laws.proofs.Picks.{cond_yes, cond_no}
use Rattle.area.specs.Table.{rows_from}
use Rattle.pieces.proofs.Placed.{found-bytes}
use Rattle.record.specs.View.{view}
use Rattle.sender.specs.Calls.{piece_of}
use Rattle.verdicts.proofs.Passed.{asked-passed, standing-three, sound-rows}
use Rattle.sender.proofs.piece.Goals as goal

pub returns-then-is_err : goal.returns-then-is_err
unfolding piece_of
returns-then-is_err c = cond_no _ _ _ _ (asked-passed _ _ _ _ c.standing-v.ensures c.is_err.ensures.value c.if-is_err.true) refl

pub piece-requires : goal.piece-requires
piece-requires c =
    sound-rows c.args.p c.args.t.sender c.args.a.now
    (standing-three c.args.p c.args.t c.args.a.now false (asked-passed _ _ _ _ c.standing-v.ensures c.is_err.ensures.value c.if-is_err.false)).2

pub returns : goal.returns
unfolding piece_of view
returns c =
    cond_yes _ _ _ _ (asked-passed _ _ _ _ c.standing-v.ensures c.is_err.ensures.value c.if-is_err.false)
    (c.piece.ensures ∙ found-bytes c.args.off 0 c.args.a.now (rows_from c.args.a.now 0 c.args.t.sender.counts.pieces))
