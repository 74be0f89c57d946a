-- Frames of one payload, one after the other. Follows the code or serves proofs: nothing here has to be believed.
use Rattle.std.specs.Prelude.{List, ℕ, ◌*◌, length}
use Rattle.laws.specs.Bytes.{overwrite}
use Rattle.laws.specs.Steps.{steps}
use Rattle.frame.specs.Frame.{frame_of}

-- frame i at place i * size, its offset i payloads on
abbrev pub frame_at : ℕ → List ℕ → ℕ → List ℕ → List ℕ
frame_at size payload i out = overwrite out (i * size) (frame_of size (i * length payload) payload)

unfoldable pub bench_frames : List ℕ → ℕ → ℕ → List ℕ → List ℕ
bench_frames out count size payload = steps (frame_at size payload) count out
