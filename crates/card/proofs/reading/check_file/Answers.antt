-- `reading::check_file`: the version, then the counts. Assumes nothing.
use mathlib.Core.Path.{refl}
use native.Mathlib.Omega.{arith}
use Rattle.laws.proofs.Picks.{told-yes, told-no}
use Rattle.card.specs.Card.{file_refusal}
use Rattle.card.proofs.Refusals.{counts-long}
use Rattle.card.proofs.reading.check_file.Goals as goal

pub returns-then-version_bad : goal.returns-then-version_bad
unfolding file_refusal
returns-then-version_bad c = (rw (told-yes _ _ c.version_bad.ensures c.if-version_bad.true) refl, λ z. absurd (omega arith))

pub returns-then-not-counts_ok : goal.returns-then-not-counts_ok
unfolding file_refusal
returns-then-not-counts_ok c = (
  rw (
    told-no _ _ c.version_bad.ensures c.if-version_bad.false,
    told-no _ _
        c.counts_ok.ensures c.if-not-counts_ok.true,
  ) refl,
  λ z. absurd (omega arith),
)

pub returns : goal.returns
unfolding file_refusal
returns c = (
  rw (
    told-no _ _ c.version_bad.ensures c.if-version_bad.false,
    told-yes _ _
        c.counts_ok.ensures c.if-not-counts_ok.false,
  ) refl,
  λ z. counts-long _
      (told-yes _ _ c.counts_ok.ensures c.if-not-counts_ok.false),
)
