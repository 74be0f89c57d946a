-- The sender and the tally agree: what the proof carries from call to call beside `Sound`.
-- Assumes nothing.
use mathlib.Core.Path.{◌≡◌, refl}
use mathlib.Core.Bool.{cond}
use mathlib.Core.List.{map}
use Rattle.ledger.specs.Ledger.{Sender}
use Rattle.ledger.specs.Tally.{Outstanding, outstanding, nothing, Tally, waits, start}
use Rattle.ledger.specs.CoverCode.{flying_byte, flying_by_offset}
use Rattle.ledger.specs.LedgerCode.{frames, fresh_ledger}

-- the outstanding burst as the tally has it
abbrev pub out_of : Sender → Outstanding
out_of s = cond s.awaited (outstanding s.number (frames s.pieces s.sent)) nothing

pub record Agree (s : Sender) (t : Tally) : Type 0 where
  pub waiting : waits t ≡ s.waiting
  pub flown : map flying_byte t.flown ≡ flying_by_offset 0 s.next s.pieces
  pub out : t.out ≡ out_of s

pub start-agree : Agree fresh_ledger start
start-agree = record { waiting = refl; flown = refl; out = refl }
