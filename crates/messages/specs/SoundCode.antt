-- The sound record's clauses about messages, as facts: what follows the code or serves proofs; nothing here has to be believed.
use Rattle.std.specs.Prelude.{ℕ, ◌≤◌, ◌≡◌, List, [], ◌∷◌, length}
use Rattle.limits.specs.Limits.{max_class, max_messages}
use Rattle.messages.specs.declared.Messages.{Messages}
use Rattle.messages.specs.Messages.{Entry, entries_in, total_left}

-- "of classes 0 to 3, each has 1 byte or more left"
abbrev pub Each : List Entry → Type 0
Each [] = Unit {0}
Each (e ∷ es) = (1 ≤ e.left) × (e.class ≤ max_class) × Each es

pub record SoundMessages (m : Messages) (waiting : ℕ) : Type 0 where
  -- "at most 256 messages"
  pub few : m.n ≤ max_messages
  pub each : Each (entries_in m)
  -- "the lengths left sum to the waiting bytes"
  pub sum : total_left (entries_in m) ≡ waiting

-- what the arrays' types say
pub record Sized (m : Messages) : Type 0 where
  pub left : length m.left ≡ max_messages
  pub class : length m.class ≡ max_messages
  pub label : length m.label ≡ max_messages
