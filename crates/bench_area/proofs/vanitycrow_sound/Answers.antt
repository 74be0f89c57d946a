-- `bench_area::vanitycrow_sound` meets its contract.
use mathlib.Core.Bool.{true}
use mathlib.Core.Path.{◌≡◌, sym, ◌∙◌}
use Rattle.laws.proofs.Picks.{and_first}
use Rattle.area.specs.Table.{rows_from}
use Rattle.area_check.specs.Rows.{ascends, table_ok}
use Rattle.bench_area.specs.Checked.{checked}
use Rattle.bench_area.proofs.vanitycrow_sound.Lts as lts
use Rattle.bench_area.proofs.vanitycrow_sound.Tie as tie
use Rattle.bench_area.proofs.vanitycrow_sound.Reads as reads
use Rattle.bench_area.proofs.vanitycrow_sound.Goals as goal

-- once the table has passed its test
passed : (d : lts.Else1 tie.the-claims reads.Pre reads.Post) → let a = d.args in table_ok a.short a.long a.next a.flying (rows_from a.a.now 0 a.n) ≡ true
passed d = sym d.table_ok.ensures ∙ d.if-not-table_ok.false

ascending : (d : lts.Else1 tie.the-claims reads.Pre reads.Post) → let a = d.args in ascends a.long a.next 0 (rows_from a.a.now 0 a.n) ≡ true
unfolding table_ok
ascending d = and_first _ _ (passed d)

pub returns-then-not-table_ok : goal.returns-then-not-table_ok
unfolding checked
returns-then-not-table_ok c = let d = c in simp (sym d.table_ok.ensures ∙ c.if-not-table_ok.true)

pub all_flying-requires : goal.all_flying-requires
all_flying-requires c = let s = c in (s.requires.0, s.requires.1, ascending c.before)

pub returns-then-not-all_flying : goal.returns-then-not-all_flying
unfolding checked
returns-then-not-all_flying c = let d = c in simp (passed c.before.before.before, sym d.all_flying.ensures ∙ c.if-not-all_flying.true)

pub all_flying-requires-2 : goal.all_flying-requires-2
all_flying-requires-2 c = let d = c in let s = d in (s.requires.0, s.requires.1, ascending c.before.before.before)

pub returns-then-not-all_flying-2 : goal.returns-then-not-all_flying-2
unfolding checked
returns-then-not-all_flying-2 c =
    let e = c in
    let d = e in
    simp (passed c.before.before.before.before.before, sym d.all_flying.ensures ∙ e.if-not-all_flying.false, sym e.all_flying-2.ensures ∙ c.if-not-all_flying-2.true)

pub returns : goal.returns
unfolding checked
returns c =
    let t = c in
    let e = t in
    let d = e in
    simp (passed c.before.before.before.before.before.before.before, sym d.all_flying.ensures ∙ e.if-not-all_flying.false, sym e.all_flying-2.ensures ∙ t.if-not-all_flying-2.false, c.held_bits_ok.ensures, c.sent_bits_ok.ensures)
