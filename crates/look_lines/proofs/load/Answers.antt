-- `load`: the file is what the line has. Assumes nothing.
use Rattle.look_lines.specs.Looks.{file_in, load_of}
use Rattle.look_lines.proofs.Laws.{loaded}
use Rattle.look_lines.proofs.load.Goals as goal

pub returns : goal.returns
unfolding load_of file_in
returns c =
    let l = c.least-len in
    let h = c.hex-file in
    let w = c.word-r in record {
      value = rw (← w.ensures, ← h.ensures.value, ← h.ensures.bytes_after, ← l.ensures.a_value, ← c.done.ensures)
          (loaded _ l.ensures.value c.read-found.ensures);
      bytes_after = rw (← w.ensures) h.ensures.bytes_after;
    }
