-- `meaning::bits`: each way to be none, and the digits. Assumes nothing.
use Rattle.std.proofs.Common.{arith}
use Rattle.std.proofs.lemmas.Bool.Decides.{nat_tests}
use Rattle.std.proofs.Common.{ap, ◌∙◌, ◌-◌, length, drop, length-drop}
use lib.Seq.{take_all}
use Rattle.words.specs.Words.{bits_of, spelled}
use Rattle.words.proofs.meaning.bits.Goals.{then-w-lt2-via-then-w-lt2, then-w-lt2-via-else-w-lt2+then-w-n, then-w-ne48-via-then-w-ne48, then-w-ne48-via-else-w-ne48+then-w-ne120}
use Rattle.words.proofs.meaning.bits.Goals as goal

pub returns-then-w-lt2 : goal.returns-then-w-lt2
unfolding bits_of
returns-then-w-lt2 c = elim c.then-w-lt2.branch [ then-w-lt2-via-then-w-lt2 w ↦ grind (arith, nat_tests) | then-w-lt2-via-else-w-lt2+then-w-n w ↦ grind (arith, nat_tests) ]

pub returns-then-w-ne48 : goal.returns-then-w-ne48
unfolding bits_of
returns-then-w-ne48 c = elim c.then-w-ne48.branch [ then-w-ne48-via-then-w-ne48 w ↦ grind (arith, nat_tests) | then-w-ne48-via-else-w-ne48+then-w-ne120 w ↦ grind (arith, nat_tests) ]

pub returns : goal.returns
unfolding bits_of
returns c = let e = c.spell.ensures ∙ ap (spelled 16 0) (take_all (length c.args.w.now - 2) (drop 2 c.args.w.now) (simp length-drop (omega arith))) in grind (arith, nat_tests)
