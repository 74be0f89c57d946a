-- `keep_from` meets its contract: what was handed on is left out.
use Rattle.window.proofs.Turns.{from-late, from-gone, from_on}
use Rattle.window.proofs.keep_from.Goals as goal

pub returns-then-gone-bytes : goal.returns-then-gone-bytes
returns-then-gone-bytes c =
    from-late c.args.first c.args.off c.args.bytes.now c.args.w.now _ c.if-off-first.true c.keep.ensures

pub returns-else-gone-bytes : goal.returns-else-gone-bytes
returns-else-gone-bytes c =
    from-gone c.args.first c.args.off c.args.bytes.now c.args.w.now c.if-gone-bytes.false

pub returns-else-off-first : goal.returns-else-off-first
returns-else-off-first c =
    from_on c.args.first c.args.off c.args.bytes.now c.args.w.now _ c.if-off-first.false c.keep-else-off-first.ensures
