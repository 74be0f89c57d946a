-- `places_words`: the dB byte, then the places. Assumes nothing.
use Rattle.box_lines.specs.BoxLines.{places_line}
use Rattle.box_lines.proofs.places_words.Goals as goal

pub returns : goal.returns
unfolding places_line
returns c =
    let p2 = c in
    let p1 = p2 in record {
      value = rw (p2.places_from-q.ensures.value, p1.whole-db.ensures);
      places_after = rw (← p1.whole-db.ensures) p2.places_from-q.ensures.places_after;
    }
