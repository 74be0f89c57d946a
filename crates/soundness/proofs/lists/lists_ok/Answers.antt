use mathlib.Core.Bool.{true, ◌&&◌}
use mathlib.Core.List.{List}
use mathlib.Core.Path.{◌≡◌, sym}
use Prim.Native.Nat.{ℕ}
use lib.Dec.{eqb}
use borrow.Author.Tests.{eqb-true}
use Rattle.laws.specs.Tests.{all}
use Rattle.laws.proofs.Picks.{and_first, and_second}
use Rattle.area_check.specs.Rows.{all_flying, held_bits_ok, none_listed, sent_bits_ok}
use Rattle.record.specs.declared.AtPeer.{AtPeer}
use Rattle.record.specs.declared.LastBurst.{LastBurst}
use Rattle.soundness.specs.Soundness.{lists_ok}
use Rattle.soundness.proofs.lists.lists_ok.Goals as goal

none : (top : ℕ) (h : AtPeer) (b : LastBurst) (os : List ℕ) → (eqb h.n 0 && eqb b.n 0) ≡ true → lists_ok top h b os ≡ true
unfolding lists_ok all all_flying held_bits_ok none_listed sent_bits_ok
none top h b os e = simp (eqb-true h.n 0 (and_first _ _ e), eqb-true b.n 0 (and_second (eqb h.n 0) _ e))

pub returns-then-s : goal.returns-then-s
returns-then-s c = sym (none _ _ _ _ c.if-s.true)
