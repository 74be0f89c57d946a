-- `area::merging::joins` meets its contract.
use mathlib.Core.Bool.{not}
use borrow.Author.Tests.{eq-eqb, ne_eqb, le-leb, lt-leb}
use mathlib.Core.Path.{sym, ap, ◌∙◌}
use Rattle.area.proofs.merging.joins.Goals as goal

pub returns-then-po-p : goal.returns-then-po-p
returns-then-po-p c = simp (ne_eqb _ _ c.if-po-p.true)

pub returns-then-max-p : goal.returns-then-max-p
returns-then-max-p c = simp (eq-eqb _ _ c.if-po-p.false, lt-leb _ _ c.if-max-p.true)

pub returns-then-contains_hashed : goal.returns-then-contains_hashed
returns-then-contains_hashed c = let e = c in simp (eq-eqb _ _ e.if-po-p.false, le-leb _ _ e.if-max-p.false, sym c.contains_hashed.ensures ∙ c.if-contains_hashed.true)

pub returns : goal.returns
returns c = let f = c in let e = f in simp (eq-eqb _ _ e.if-po-p.false, le-leb _ _ e.if-max-p.false, sym f.contains_hashed.ensures ∙ f.if-contains_hashed.false) (ap not c.contains_hashed-2.ensures)
