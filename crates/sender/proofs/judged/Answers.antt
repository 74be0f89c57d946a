-- `sender::judged` meets its contract.
use mathlib.Core.Path.{sym, ap, ◌∙◌}
use mathlib.Core.List.{List}
use Prim.Native.Nat.{ℕ}
use Rattle.std.specs.Prelude.{Result, Ok}
use Rattle.config.specs.declared.Profile.{Profile}
use Rattle.record.specs.declared.Sender.{Sender}
use Rattle.replies.specs.declared.Heard.{Heard}
use Rattle.receive.specs.Accepted.{accepted_reply}
use Rattle.refusals.specs.declared.Refusal.{Refusal}
use Rattle.refusals.specs.declared.Reply.{Reply}
use Rattle.refusals.specs.Verdict.{Verdict}
use Rattle.verdicts.proofs.Passed.{is-passed, from-err}
use Rattle.sender.specs.CallsCode.{settled, judged_reply}
use Rattle.sender.proofs.judged.Goals as goal

-- by the verdict
abbrev left : Profile → Sender → List ℕ → Heard → Reply → List ℕ → Verdict → Result Sender Refusal × List ℕ
left p s a h r payload w = settled w (accepted_reply p h r payload s a) a

pub returns-in_err-receive_verdict : goal.returns-in_err-receive_verdict
unfolding judged_reply
returns-in_err-receive_verdict c =
    let a = c.args in
    ap (λ (x : Result Sender Refusal). (x, a.a.now)) (from-err _ _ c.from_residual.ensures.1)
    ∙ ap (left a.p a.s a.a.now a.h a.r a.payload.now) (sym c.in_err-receive_verdict.was ∙ c.receive_verdict.ensures)

pub answer-sender-requires : goal.answer-sender-requires
answer-sender-requires c =
    let x = c.requires (is-passed _ _ _ c.receive_verdict.ensures c.in_ok-receive_verdict.was) in record {
      fact_1 = x.0;
      fact_2 = (x.1, x.2);
    }

pub returns : goal.returns
unfolding judged_reply
returns c =
    let a = c.args in
    ap {B = Result Sender Refusal × List ℕ} (λ (x : Sender × List ℕ). (Ok x.0, x.1)) c.answer-sender.ensures
    ∙ ap (left a.p a.s a.a.now a.h a.r a.payload.now) (sym c.in_ok-receive_verdict.was ∙ c.receive_verdict.ensures)
