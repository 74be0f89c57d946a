-- A reply in two steps: what follows the code or serves proofs; nothing here has to be believed.
use Rattle.std.specs.Prelude.{Result, Ok, Err, List, ℕ, length}
use Rattle.config.specs.declared.Profile.{Profile}
use Rattle.record.specs.declared.Sender.{Sender}
use Rattle.replies.specs.declared.Heard.{Heard}
use Rattle.receive.specs.Accepted.{accepted_reply}
use Rattle.refusals.specs.declared.Refusal.{Refusal}
use Rattle.refusals.specs.declared.Reply.{Reply}
use Rattle.refusals.specs.Verdict.{Verdict}
use Rattle.verdicts.specs.Verdicts.{first_of, reply_verdict}

-- the verdict of a reply to the sender s with a payload of n bytes, where 1 to 4 gave v
abbrev pub verdict_after : Verdict → Sender → Heard → Reply → ℕ → Verdict
verdict_after v s h r n = first_of v (reply_verdict s.link.last_time h r n)

-- and what it leaves of the sender and of the work area a, where hearing it gives `after`
abbrev pub settled : Verdict → Sender × List ℕ → List ℕ → Result Sender Refusal × List ℕ
settled (Ok x) after a = (Ok after.0, after.1)
settled (Err r) after a = (Err r, a)

unfoldable pub judged_reply : Verdict → Profile → Sender → List ℕ → Heard → Reply → List ℕ → Result Sender Refusal × List ℕ
judged_reply v p s a h r payload = settled (verdict_after v s h r (length payload)) (accepted_reply p h r payload s a) a
