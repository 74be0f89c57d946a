-- The first words of calls (docs/CALLS.md, Calls). Definitions only.
use Rattle.std.specs.Prelude.{false, cond, List, [], ◌∷◌, ℕ, Option, Some, None, is_some}
use Rattle.laws.specs.Text.{text}
use Rattle.words.specs.Lines.{begun}
use Rattle.call_lines.specs.declared.names.Call.{Call}
use Rattle.call_lines.specs.declared.names.Call.TheVariants.{Connect, Queue, Short, Long, Turn, Burst, Piece, Log, State, Area, Out, Levels, Messages, Card, Frames}
use Rattle.call_lines.specs.declared.names.Named.{Named}

abbrev pub no_name : Named
no_name = record { call = None; read = record { at = 0; ok = false; value = 0 } }

-- call k, where the first word is `name` and was no name before
unfoldable pub or_call : Named → List ℕ → List ℕ → Call → Named
or_call n chars name k =
    cond (is_some n.call) n (cond (begun chars name).ok (record { call = Some k; read = begun chars name }) n)

-- the first of such names
abbrev pub or_calls : Named → List ℕ → List (List ℕ × Call) → Named
or_calls n chars [] = n
or_calls n chars (w ∷ ws) = or_calls (or_call n chars w.0 w.1) chars ws

-- a queuing or a reply
unfoldable pub asking : List ℕ → Named
asking chars =
    or_calls no_name chars
    ((text "short", Short) ∷ (text "queue", Queue) ∷ (text "long", Long) ∷ (text "turn", Turn) ∷ (text "frames", Frames)
    ∷ (text "connect", Connect) ∷ [])

-- any call
unfoldable pub call_of : List ℕ → Named
call_of chars =
    or_calls (asking chars) chars
    ((text "burst", Burst) ∷ (text "piece", Piece) ∷ (text "log", Log) ∷ (text "state", State) ∷ (text "area", Area) ∷ (text "out", Out)
    ∷ (text "levels", Levels) ∷ (text "messages", Messages) ∷ (text "card", Card) ∷ [])
