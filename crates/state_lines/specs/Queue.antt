-- The line `messages` (docs/CALLS.md; document 02, Changes 1 and 6). Definitions only.
use Rattle.std.specs.Prelude.{List, ◌++◌, ℕ, min}
use Rattle.limits.specs.Limits.{max_messages}
use Rattle.laws.specs.Text.{text}
use Rattle.text.specs.Buffer.{each}
use Rattle.text.specs.Words.{number_word, flag_word, after_colon}
use Rattle.messages.specs.Messages.{Entry, begun_in, entries_from}
use Rattle.messages.specs.declared.Messages.{Messages}
use Rattle.state_lines.specs.State.{entry}

-- CLASS:LABEL:LEFT
abbrev pub message_word : Entry → List ℕ
message_word e = entry e.class e.label ++ after_colon e.left

-- `messages COUNT BEGUN WITHDRAWN CLASS:LABEL:LEFT ..`: "in the order of going; BEGUN is 1 where the first has begun"
unfoldable pub messages_line : Messages → List ℕ
messages_line m =
    text "messages" ++ number_word m.n ++ flag_word (begun_in m) ++ number_word m.withdrawn
    ++ each message_word (entries_from m 0 (min m.n max_messages)) ++ text "\n"
