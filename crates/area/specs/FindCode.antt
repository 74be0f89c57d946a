-- Where the bytes of the piece at an offset lie in the work area (`inflight.get` of sender.rs): what follows the code or serves proofs; nothing here has to be believed.
use Rattle.std.specs.Prelude.{List, ℕ}
use Rattle.laws.specs.Bytes.{part}
use Rattle.area.specs.declared.lookup.Found.{Found}

-- the bytes that were found; none where there is no piece
abbrev pub bytes_at : List ℕ → Found → List ℕ
bytes_at a f = part a f.start f.len
