-- What a call answers, with document 01's number in place of its verdict. Definitions only.
use Rattle.std.specs.Prelude.{Result, Ok, Err, List, ℕ}
use Rattle.queuing.specs.Station.{with_sender, with_messages}
use Rattle.queuing.specs.declared.Station.{Station}
use Rattle.queuing.specs.declared.Waiting.{Waiting}
use Rattle.record.specs.declared.Sender.{Sender}
use Rattle.refusals.specs.declared.Refusal.{Refusal}
use Rattle.refusals.specs.Refusals.{refusal_number, number_of}
use Rattle.sender.specs.Calls.{Answer, Bursted, Finding}
use Rattle.sender.specs.declared.Left.{Left}
use Rattle.sender.specs.declared.LeftBurst.{LeftBurst}
use Rattle.sender.specs.declared.Place.{Place}

-- with the work area after the call
abbrev pub answer_number : Answer × List ℕ → Left × List ℕ
answer_number q = (record { refusal = number_of q.0.verdict; next = q.0.next }, q.1)

-- what a reply to the record t leaves: the messages stay
abbrev pub after_reply : Station → Result Sender Refusal → Left
after_reply t (Ok s) = record { refusal = 0; next = with_sender t s }
after_reply t (Err r) = record { refusal = refusal_number r; next = t }

-- what a queuing leaves of the record t
abbrev pub after_queue : Station → Result Waiting Refusal → Left
after_queue t (Ok q) = record { refusal = 0; next = with_messages t q.messages q.waiting }
after_queue t (Err r) = record { refusal = refusal_number r; next = t }

-- with the work area and the output after the call
abbrev pub burst_number : Bursted × (List ℕ × List ℕ) → LeftBurst × (List ℕ × List ℕ)
burst_number q = (record { burst = record { refusal = number_of q.0.verdict; outgoing = q.0.outgoing }; next = q.0.next }, q.1)

abbrev pub find_number : Finding → Place
find_number q = record { refusal = number_of q.verdict; here = q.found.here; start = q.found.start; len = q.found.len }
