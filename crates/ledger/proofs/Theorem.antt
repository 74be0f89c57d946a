-- Demand 3 of the ledger: after every list of allowed calls from a fresh sender, with any plans that fit.
-- Assumes nothing.
use mathlib.Core.Path.{refl}
use mathlib.Core.List.{List}
use Rattle.ledger.specs.Station.{Station}
use Rattle.ledger.specs.Tally.{start}
use Rattle.ledger.specs.Calls.{Along, run, history, tally}
use Rattle.ledger.specs.ClaimCode.{LedgerClaim}
use Rattle.ledger.proofs.Refine.{Refines, refined, sound-after}
use Rattle.ledger.specs.Sizes.{Sizes}
use Rattle.ledger.specs.CallsCode.{Move, Allowed, step, move_told, fresh_ledger_station, SoundStation}
use Rattle.ledger.specs.LedgerCode.{fresh_ledger}
use Rattle.ledger.specs.SizesCode.{SizeRange}

module _ (z : Sizes) (zr : SizeRange z) where
  abbrev Ok : Move → Station → Type 0
  Ok c s = Allowed z c s

  itself : Refines z zr Station Move Ok (λ s. Unit {0}) (step z) (λ s. s) (λ c s. c) (move_told z)
  itself = record { allowed = λ c s al so ok. al; steps = λ c s al so ok. refl; tells = λ c s al so ok. refl; keeps = λ c s al so ok. tt }

  pub demand3 : (cs : List Move) → Along (step z) Ok cs fresh_ledger_station → (c : Move) → Ok c (run (step z) cs fresh_ledger_station) →
      LedgerClaim z (history (step z) (move_told z) cs fresh_ledger_station) (run (step z) cs fresh_ledger_station)
      (tally (step z) (move_told z) cs fresh_ledger_station start)
      (move_told z c (run (step z) cs fresh_ledger_station)) (step z c (run (step z) cs fresh_ledger_station)).sender
  demand3 cs al c ok =
      refined z zr Station Move Ok (λ s. Unit {0}) (step z) (λ s. s) (λ c s. c) (move_told z) itself fresh_ledger_station refl tt cs al c ok

  pub always-sound : (cs : List Move) → Along (step z) Ok cs fresh_ledger_station → SoundStation z (run (step z) cs fresh_ledger_station)
  always-sound cs al = sound-after z zr Station Move Ok (λ s. Unit {0}) (step z) (λ s. s) (λ c s. c) (move_told z) itself fresh_ledger_station refl tt cs al
