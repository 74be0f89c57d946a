use mathlib.Core.Path.{◌≡◌}
use lib.ListN.{length}
use Rattle.laws.specs.Bytes.{overwrite}
use lib.ListN.{take}
use Rattle.box_lines.specs.BoxLines.{places_from}
use Rattle.box_lines.proofs.Places.{Reading}
use Rattle.box_lines.proofs.places_from.Given as goal

abbrev pub invariant-loop-n : goal.invariant-loop-n
invariant-loop-n l =
    Reading l.frames l.line (length l.initial.places) (places_from (length l.initial.places) l.frames l.line l.initial.q) l.q l.n
    × (l.places ≡ overwrite l.initial.places 0 (take l.n (places_from (length l.initial.places) l.frames l.line l.initial.q).0)) × (length l.places ≡ length l.initial.places)
