-- "WITH A SINGLE CLASS AND NO LABELS THE RUST IS STILL EQUALLED" (document 02, Changes 1 and 6): over every list of calls that queues with one class
-- and no label, record, work area and answers are those of the base, the queuings refused by 12 left out. Definitions only.
-- To believe beside it: Lists.antt; of crates/sender Base.antt (the base's calls).
use Rattle.std.specs.Prelude.{◌≡◌, List, [], ◌∷◌, Bool, cond, ℕ, ◌≤◌, eqb, length, replicate}
use Rattle.limits.specs.Limits.{max_class}
use Rattle.config.specs.declared.Profile.{Profile}
use Rattle.ledger.specs.Calls.{Along, run}
use Rattle.record.specs.Fresh.{fresh}
use Rattle.record.specs.declared.Sender.{Sender}
use Rattle.outgoing.specs.declared.Outgoing.{Outgoing}
use Rattle.replies.specs.declared.Heard.{Heard}
use Rattle.refusals.specs.Verdict.{Verdict}
use Rattle.refusals.specs.declared.Reply.{Reply}
use Rattle.refusals.specs.Refusals.{number_of}
use Rattle.reception.specs.declared.Reception.{Reception}
use Rattle.sender.specs.Base.{queue_base, receive_base, frames_base, burst_base}
use Rattle.sender.specs.Calls.{queue_of, receive_of, frames_of, no_burst, burst_call}
use Rattle.demand.specs.Lists.{Call, queues, hears, receives, bursts, State, Given, fresh_start, next}

-- a call of the base
pub data BaseCall : Type 0 where
  queues_bytes : List ℕ → BaseCall
  hears_reply : Heard → Reply → List ℕ → BaseCall
  hears_frames : Heard → Reception → List ℕ → BaseCall
  bursts_into : List ℕ → BaseCall

-- class and label left off
abbrev pub plain : Call → BaseCall
plain (queues k l bs) = queues_bytes bs
plain (hears h r b) = hears_reply h r b
plain (receives h r b) = hears_frames h r b
plain (bursts out) = bursts_into out

-- what a call answers: its verdict, a burst and the output
pub record CallAnswer : Type 0 where
  pub verdict : Verdict
  pub outgoing : Outgoing
  pub out : List ℕ

abbrev pub just_verdict : Verdict → CallAnswer
just_verdict v = record { verdict = v; outgoing = no_burst; out = [] }

-- ---- the base: its record and work area, what a call leaves and answers

abbrev pub BaseState : Type 0
BaseState = Sender × List ℕ

module _ (p : Profile) where
  abbrev pub next_base : BaseCall → BaseState → BaseState
  next_base (queues_bytes bs) c = (queue_base p c.0 c.1 bs).1
  next_base (hears_reply h r b) c = (receive_base p c.0 c.1 h r b).1
  next_base (hears_frames h r b) c = (frames_base p c.0 c.1 h r b).1
  next_base (bursts_into out) c = let x = (burst_base p c.0 c.1 out).1 in (x.0.1, x.1.0)

  abbrev pub base_answer : BaseCall → BaseState → CallAnswer
  base_answer (queues_bytes bs) c = just_verdict (queue_base p c.0 c.1 bs).0
  base_answer (hears_reply h r b) c = just_verdict (receive_base p c.0 c.1 h r b).0
  base_answer (hears_frames h r b) c = just_verdict (frames_base p c.0 c.1 h r b).0
  base_answer (bursts_into out) c =
      let x = burst_base p c.0 c.1 out in record { verdict = x.0; outgoing = x.1.0.0; out = x.1.1.1 }

  abbrev pub base_answers : List BaseCall → BaseState → List CallAnswer
  base_answers [] c = []
  base_answers (i ∷ is) c = base_answer i c ∷ base_answers is (next_base i c)

  -- ---- the station

  abbrev pub call_answer : Call → State → CallAnswer
  call_answer (queues k l bs) c = just_verdict (queue_of p c.0 c.1 k l bs).0.verdict
  call_answer (hears h r b) c = just_verdict (receive_of p c.0 c.1 h r b).0.verdict
  call_answer (receives h r b) c = just_verdict (frames_of p c.0 c.1 h r b).0.verdict
  call_answer (bursts out) c = let x = burst_call p c.0 c.1 out in record { verdict = x.0.verdict; outgoing = x.0.outgoing; out = x.1.1 }

  -- refused by 12
  abbrev pub too_many : Call → State → Bool
  too_many i c = eqb (number_of (call_answer i c).verdict) 12

  -- the calls that are not refused by 12, their classes and labels left off, and what they answer
  abbrev pub erased : List Call → State → List BaseCall
  erased [] c = []
  erased (i ∷ is) c = cond (too_many i c) (erased is (next p i c)) (plain i ∷ erased is (next p i c))

  abbrev pub call_answers : List Call → State → List CallAnswer
  call_answers [] c = []
  call_answers (i ∷ is) c = cond (too_many i c) (call_answers is (next p i c)) (call_answer i c ∷ call_answers is (next p i c))

-- all that is queued has class k and no label
abbrev pub OneClass : ℕ → Call → State → Type 0
OneClass k (queues j l bs) c = (j ≡ k) × (l ≡ 0)
OneClass k (hears h r b) c = Unit {0}
OneClass k (receives h r b) c = Unit {0}
OneClass k (bursts out) c = Unit {0}

abbrev pub SingleClass : Type 0
SingleClass = (p : Profile) → length p.codes.ends ≤ 6 → (k : ℕ) → k ≤ max_class → (n : ℕ) (is : List Call)
    → Along (next p) Given is (fresh_start n) → Along (next p) (OneClass k) is (fresh_start n)
    → let c = run (next p) is (fresh_start n) in let calls = erased p is (fresh_start n) in
    ((c.0.sender, c.1) ≡ run (next_base p) calls (fresh, replicate n 0)) × (call_answers p is (fresh_start n) ≡ base_answers p calls (fresh, replicate n 0))
