-- What an exported call answers beside the record that it leaves: together they are what the call by value answers. Definitions only.
use Rattle.std.specs.Prelude.{ℕ}
use Rattle.queuing.specs.declared.Station.{Station}
use Rattle.sender.specs.declared.Left.{Left}
use Rattle.sender.specs.declared.LeftBurst.{LeftBurst}
use Rattle.sender.specs.declared.Burst.{Burst}

abbrev pub left : ℕ → Station → Left
left n t = record { refusal = n; next = t }

abbrev pub left_burst : Burst → Station → LeftBurst
left_burst b t = record { burst = b; next = t }
