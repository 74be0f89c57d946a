-- The papers' refusals as tables: for each call the numbers that it may come back with, in the order in which they are checked, and the reason of
-- each. Definitions only.
use Rattle.std.specs.Prelude.{◌≡◌, ◌⊎◌, List, [], ◌∷◌, ◌++◌, Bool, true, false, cond, not, ◌&&◌, ℕ, ◌+◌, ◌-◌, ◌*◌, length, ltb, eqb}
use Rattle.config.specs.Ranges.{in_range, in_order}
use Rattle.config.specs.declared.Profile.{Profile}
use Rattle.queuing.specs.declared.Station.{Station}
use Rattle.replies.specs.declared.Heard.{Heard}
use Rattle.refusals.specs.declared.Reply.{Reply}
use Rattle.refusals.specs.Refusals.{kind_of, max_received, time_ok, heard_ok, reply_ok}
use Rattle.messages.specs.Messages.{total_left, withdrawn_in}
use Rattle.verdicts.specs.Verdicts.{station_ok, taken_by}
use Rattle.limits.specs.Limits.{max_slots, max_waiting, max_taken, max_class, max_messages}

-- a number, and whether its reason holds
abbrev pub Reason : Type 0
Reason = ℕ × Bool

-- n is the number of the first reason that holds, 0 where none does
abbrev pub First : List Reason → ℕ → Type 0
First [] n = n ≡ 0
First (r ∷ rs) n = ((r.1 ≡ true) × (n ≡ r.0)) ⊎ ((r.1 ≡ false) × First rs n)

-- 1 to 4, of every call: `connect` says whether the call is a connect. 4: "A call other than connect comes before connect, or connect comes again"
abbrev pub standing_reasons : Profile → Station → List ℕ → Bool → List Reason
standing_reasons p t a connect =
    (1, not (in_range p)) ∷ (2, not (in_order p)) ∷ (3, not (station_ok p t a))
    ∷ (4, cond connect t.sender.link.connected (not t.sender.link.connected)) ∷ []

-- a lookup
abbrev pub lookup_reasons : Profile → Station → List ℕ → List Reason
lookup_reasons p t a = standing_reasons p t a false

-- a queuing of n bytes of a class with a label. 11: "a class above 3"; 8: "Waiting bytes would pass 16,384"; 9: "Bytes taken would pass 2^32 - 1";
-- 12: "a 257th message". 8 and 12 are "judged after the withdrawal"
abbrev pub queue_reasons : Profile → Station → List ℕ → ℕ → ℕ → ℕ → List Reason
queue_reasons p t a class label n =
    let gone = withdrawn_in label n t.messages in
    standing_reasons p t a false
    ++ ((11, ltb max_class class) ∷ (8, ltb max_waiting (t.sender.counts.waiting - total_left gone + n))
    ∷ (9, ltb max_taken (taken_by t.sender.counts t.messages + n))
    ∷ (12, ltb 0 n && ltb max_messages (t.messages.n - length gone + 1)) ∷ [])

-- a reply with a payload of n bytes. 7: "A long ack's payload is under 13 bytes"
abbrev pub reply_reasons : Profile → Station → List ℕ → Heard → Reply → ℕ → List Reason
reply_reasons p t a h r n =
    standing_reasons p t a (eqb (kind_of r) 0)
    ++ ((5, not (time_ok t.sender.link.last_time h.time))
    ∷ (6, not (heard_ok h && reply_ok r)) ∷ (7, eqb (kind_of r) 2 && ltb n 13) ∷ [])

-- a reception of n decoded frames. 15: "more than 16 frames .. straight after 3"
abbrev pub frames_reasons : Profile → Station → List ℕ → Heard → ℕ → List Reason
frames_reasons p t a h n =
    (1, not (in_range p)) ∷ (2, not (in_order p)) ∷ (3, not (station_ok p t a)) ∷ (15, ltb max_received n)
    ∷ (4, not t.sender.link.connected) ∷ (5, not (time_ok t.sender.link.last_time h.time)) ∷ (6, not (heard_ok h)) ∷ []

-- a burst into n bytes of output. 10: "The output is shorter than 64 times the long frame"
abbrev pub burst_reasons : Profile → Station → List ℕ → ℕ → List Reason
burst_reasons p t a n = standing_reasons p t a false ++ ((10, ltb n (max_slots * p.long_bytes)) ∷ [])
