-- `wish_words`: word by word, as the wishes has them. Assumes nothing.
use Rattle.call_lines.specs.CallLines.{wish_words}
use Rattle.call_lines.proofs.wish_words.Goals as goal

pub returns : goal.returns
unfolding wish_words
returns c =
    let p3 = c in
    let p2 = p3 in
    let p1 = p2 in
    rw (p3.flag-stored.ensures, p2.flag-disc.ensures, p1.flag-turn.ensures)
