-- Text put behind what a lent buffer has. Definitions only.
use Rattle.std.specs.Prelude.{◌≡◌, List, ℕ}
use Rattle.text.specs.Buffer.{appended}
use Rattle.text.specs.declared.Text.{Text}

-- b is a with s put behind what is used, in the same buffer
pub record Puts (a : Text) (s : List ℕ) (b : Text) : Type 0 where
  pub same_buffer : b.bytes.ghost_name ≡ a.bytes.ghost_name
  pub text_put : (b.len, b.bytes.now) ≡ appended (a.len, a.bytes.now) s
