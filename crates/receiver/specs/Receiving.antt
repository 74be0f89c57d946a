-- The receiver's call: the refusals, and what it answers and leaves. Definitions only.
use Rattle.std.specs.Prelude.{ℕ, ◌+◌, ◌-◌, Bool, not, cond, List, [], ◌∷◌, ◌++◌, leb, ltb, eqb, length, take, get_or, replicate}
use Rattle.laws.specs.Tests.{all}
use Rattle.laws.specs.Span.{every, upto}
use Rattle.laws.specs.Bytes.{overwrite}
use Rattle.laws.specs.Little.{le}
use Rattle.limits.specs.Limits.{max_number}
use Rattle.window.specs.Window.{is_kept, lead, handed, moved}
use Rattle.receiver.specs.Frames.{box_bytes, offsets}
use Rattle.receiver.specs.declared.Taking.{Taking}
use Rattle.receiver.specs.Taking.{none_taken, all_taken, slotted}
use Rattle.receiver.specs.declared.Receiver.{Receiver}
use Rattle.receiver.specs.declared.Received.{Received}
use Rattle.receiver.specs.declared.Listened.{Listened}

-- nothing is kept from place `from` on
unfoldable pub empty_from : List ℕ → ℕ → Bool
empty_from a from = every (λ i. not (is_kept (get_or a i 0))) (upto from box_bytes)

-- "sound where the first missing byte is at most 16,777,216 and isn't kept, and all kept bytes lie within the 32,768 and below offset 16,777,216": what is lent past
-- the 32,768 places is no part of it
unfoldable pub receiver_sound : Receiver → List ℕ → Bool
receiver_sound r a =
    all (leb box_bytes (length a) ∷ leb r.first_missing offsets ∷ not (is_kept (get_or a 0 0)) ∷ empty_from a (offsets - r.first_missing) ∷ [])

-- 3, 6 and 10, in this order; 0 where the call is accepted
unfoldable pub receive_refusal : Receiver → List ℕ → ℕ → ℕ → ℕ
receive_refusal r a number out =
    cond (not (receiver_sound r a)) 3 (cond (ltb max_number number) 6 (cond (ltb out box_bytes) 10 0))

-- "as `AckInfo::from_bytes` reads them: number, bitmap, the dB byte it is given, and the low 24 bits of the count handed on by the call's end"
abbrev pub ack_bytes : ℕ → ℕ → ℕ → ℕ → List ℕ
ack_bytes number bitmap db count = number ∷ (le 8 bitmap ++ (db ∷ le 3 count))

abbrev pub no_answer : ℕ → Received
no_answer n = record { refusal = n; payload = replicate 13 0; handed = 0; wrong = 0; beyond = 0 }

module _ (r : Receiver) (a : List ℕ) (number : ℕ) (bytes sizes slots : List ℕ) (db : ℕ) (out : List ℕ) where
  abbrev pub frames_taken : Taking × List ℕ
  frames_taken = all_taken r.first_missing (slotted bytes sizes slots) (none_taken, take box_bytes a)

  abbrev pub handed_count : ℕ
  handed_count = r.first_missing + lead frames_taken.1

  abbrev pub accepted : Listened × (List ℕ × List ℕ)
  accepted = (
    record {
      answer = record { refusal = 0; payload = ack_bytes number frames_taken.0.bitmap db handed_count; handed = lead frames_taken.1; wrong = frames_taken.0.wrong; beyond = frames_taken.0.beyond };
      next = record { first_missing = handed_count };
    },
    (overwrite a 0 (moved frames_taken.1), overwrite out 0 (handed frames_taken.1)),
  )

  -- the answer with the next record, the window, the output
  unfoldable pub reception_of : Listened × (List ℕ × List ℕ)
  reception_of =
      let n = receive_refusal r a number (length out) in
      cond (eqb n 0) accepted (record { answer = no_answer n; next = r }, (a, out))

-- a new receiver, with n places lent
abbrev pub fresh_receiver : Receiver
fresh_receiver = record { first_missing = 0 }
