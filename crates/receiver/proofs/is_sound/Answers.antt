-- `is_sound` meets its contract: the tests of the definition.
use Rattle.receiver.proofs.Calls.{unsound-short, unsound-far, unsound-kept, sound-rest}
use Rattle.receiver.proofs.is_sound.Goals as goal

pub returns-then-w-lt-PLACES : goal.returns-then-w-lt-PLACES
returns-then-w-lt-PLACES c = unsound-short c.args.r c.args.w.now c.if-w-lt-PLACES.true

pub returns-then-first-gt-OFFSETS : goal.returns-then-first-gt-OFFSETS
returns-then-first-gt-OFFSETS c = unsound-far c.args.r c.args.w.now c.if-w-lt-PLACES.false c.if-first-gt-OFFSETS.true

pub returns-then-w-ge256 : goal.returns-then-w-ge256
returns-then-w-ge256 c =
    unsound-kept c.args.r c.args.w.now c.if-w-lt-PLACES.false c.if-first-gt-OFFSETS.false c.if-w-ge256.true

pub returns : goal.returns
returns c =
    sound-rest c.args.r c.args.w.now c.if-w-lt-PLACES.false c.if-first-gt-OFFSETS.false c.empty_from.result c.if-w-ge256.false c.empty_from.ensures
