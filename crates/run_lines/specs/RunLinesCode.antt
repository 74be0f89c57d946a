-- A run with some of its fields set: what follows the code or serves proofs; nothing here has to be believed.
use Rattle.std.specs.Prelude.{Bool, ℕ}
use Rattle.run_lines.specs.declared.Run.{Run}
use Rattle.run_lines.specs.declared.Todo.{Todo}

abbrev pub run_of : ℕ → ℕ → Bool → Bool → Todo → ℕ → ℕ → ℕ → ℕ → ℕ → ℕ → Run
run_of stage file ok anew todo len area out text number size =
    record {
      stage = stage;
      file = file;
      ok = ok;
      anew = anew;
      todo = todo;
      len = len;
      area = area;
      out = out;
      text = text;
      number = number;
      size = size;
    }

abbrev pub with_stage : ℕ → Run → Run
with_stage x r =
    run_of x r.file r.ok r.anew r.todo r.len r.area r.out r.text r.number r.size

abbrev pub with_file : ℕ → Run → Run
with_file x r =
    run_of r.stage x r.ok r.anew r.todo r.len r.area r.out r.text r.number r.size

abbrev pub with_ok : Bool → Run → Run
with_ok x r =
    run_of r.stage r.file x r.anew r.todo r.len r.area r.out r.text r.number r.size

abbrev pub with_anew : Bool → Run → Run
with_anew x r =
    run_of r.stage r.file r.ok x r.todo r.len r.area r.out r.text r.number r.size

abbrev pub with_todo : Todo → Run → Run
with_todo x r =
    run_of r.stage r.file r.ok r.anew x r.len r.area r.out r.text r.number r.size

abbrev pub with_len : ℕ → Run → Run
with_len x r =
    run_of r.stage r.file r.ok r.anew r.todo x r.area r.out r.text r.number r.size

abbrev pub with_area : ℕ → Run → Run
with_area x r =
    run_of r.stage r.file r.ok r.anew r.todo r.len x r.out r.text r.number r.size

abbrev pub with_out : ℕ → Run → Run
with_out x r =
    run_of r.stage r.file r.ok r.anew r.todo r.len r.area x r.text r.number r.size

abbrev pub with_text : ℕ → Run → Run
with_text x r =
    run_of r.stage r.file r.ok r.anew r.todo r.len r.area r.out x r.number r.size

abbrev pub with_last_number : ℕ → Run → Run
with_last_number x r =
    run_of r.stage r.file r.ok r.anew r.todo r.len r.area r.out r.text x r.size

abbrev pub with_size : ℕ → Run → Run
with_size x r =
    run_of r.stage r.file r.ok r.anew r.todo r.len r.area r.out r.text r.number x
