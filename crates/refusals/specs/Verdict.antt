-- What becomes of a call: it is accepted, or refused for one of the papers' reasons. Definitions only.
use Rattle.std.specs.Prelude.{Result, Ok, Err, ⊤}
use Rattle.refusals.specs.declared.Refusal.{Refusal}
use Rattle.refusals.specs.declared.Refusal.TheVariants as E

abbrev pub Verdict : Type 0
Verdict = Result ⊤ Refusal

abbrev pub Accepted : Verdict
Accepted = Ok tt

abbrev pub ProfileOutOfRange : Verdict
ProfileOutOfRange = Err E.ProfileOutOfRange

abbrev pub ShortOverLong : Verdict
ShortOverLong = Err E.ShortOverLong

abbrev pub Unsound : Verdict
Unsound = Err E.Unsound

abbrev pub OutOfTurn : Verdict
OutOfTurn = Err E.OutOfTurn

abbrev pub BadTime : Verdict
BadTime = Err E.BadTime

abbrev pub BadValue : Verdict
BadValue = Err E.BadValue

abbrev pub ShortPayload : Verdict
ShortPayload = Err E.ShortPayload

abbrev pub QueueFull : Verdict
QueueFull = Err E.QueueFull

abbrev pub AllTaken : Verdict
AllTaken = Err E.AllTaken

abbrev pub ShortOutput : Verdict
ShortOutput = Err E.ShortOutput

abbrev pub BadClass : Verdict
BadClass = Err E.BadClass

abbrev pub TooManyMessages : Verdict
TooManyMessages = Err E.TooManyMessages

abbrev pub TooManyFrames : Verdict
TooManyFrames = Err E.TooManyFrames
