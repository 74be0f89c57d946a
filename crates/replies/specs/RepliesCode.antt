-- The ConnAck, Ack and Turn arms of `sender_rx` and its frame loop (sender.rs; document 01, module 5), for replies that are not refused: what follows the code or serves proofs; nothing here has to be believed.
use Rattle.std.specs.Prelude.{List, false, ℕ, ◌<◌}
use Rattle.config.specs.declared.Profile.{Profile}
use Rattle.gear.specs.OtherReplies.{on_turn}
use Rattle.ledger.specs.Sound.{Sound}
use Rattle.record.specs.Profiles.{sizes_of}
use Rattle.record.specs.View.{view}
use Rattle.record.specs.declared.Sender.{Sender}
use Rattle.settle.specs.Settle.{Settling}
use Rattle.replies.specs.declared.Heard.{Heard}
use Rattle.replies.specs.declared.Turn.{Turn}
use Rattle.record.specs.Setters.{with_gear, with_link, with_time}
use Rattle.replies.specs.Replies.{turn_db}
use Rattle.settle.specs.AckInCode.{without_burst}
use Rattle.settle.specs.OutcomesCode.{outcome_in}

-- as the code goes
unfoldable pub turned_to : Profile → Heard → Turn → Sender → Sender
turned_to p h r s = without_burst (with_link (with_gear s (on_turn p s.gear (outcome_in 0 false s.last_burst) (turn_db h r) h.wave h.time)) (with_time s.link h.time))

-- what an accepted reply finds: a sound record, as far as it matters here
pub record ReplyReady (p : Profile) (s : Sender) (a : List ℕ) : Type 0 where
  pub level : s.gear.level < 17
  pub settling : Settling s a
  pub sound : Sound (sizes_of p) (view s a)
