-- `text::decimal` meets its contract.
use mathlib.Core.Path.{sym}
use Rattle.text.proofs.Digits.{decimal-one, decimal-more}
use Rattle.text.proofs.Laws.{appends, told, ◌⨾◌}
use Rattle.text.proofs.+decimal.Goals as goal

pub returns-then-x-lt10 : goal.returns-then-x-lt10
returns-then-x-lt10 t c = told (appends c.digit.ensures) (sym (decimal-one _ c.if-x-lt10.true))

pub returns : goal.returns
returns t c = told (appends c.decimal-n.ensures ⨾ appends c.digit-2.ensures) (sym (decimal-more _ c.if-x-lt10.false))
