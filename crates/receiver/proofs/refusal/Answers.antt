-- `refusal` meets its contract: each way out is a case of the definition.
use Rattle.receiver.proofs.Calls.{refuses-three, refuses-six, refuses-ten, refuses-none}
use mathlib.Core.Path.{sym, ◌∙◌}
use Rattle.receiver.proofs.refusal.Goals as goal

pub returns-then-number-gt3 : goal.returns-then-number-gt3
returns-then-number-gt3 c =
    refuses-six c.args.r c.args.w.now c.args.number c.args.out (sym c.is_sound.ensures ∙ c.if-is_sound.true) c.if-number-gt3.true

pub returns-then-out-lt-PLACES : goal.returns-then-out-lt-PLACES
returns-then-out-lt-PLACES c =
    refuses-ten c.args.r c.args.w.now c.args.number c.args.out (sym c.is_sound.ensures ∙ c.if-is_sound.true) c.if-number-gt3.false c.if-out-lt-PLACES.true

pub returns-else-out-lt-PLACES : goal.returns-else-out-lt-PLACES
returns-else-out-lt-PLACES c =
    refuses-none c.args.r c.args.w.now c.args.number c.args.out (sym c.is_sound.ensures ∙ c.if-is_sound.true) c.if-number-gt3.false c.if-out-lt-PLACES.false

pub returns-else-is_sound : goal.returns-else-is_sound
returns-else-is_sound c =
    refuses-three c.args.r c.args.w.now c.args.number c.args.out (sym c.is_sound.ensures ∙ c.if-is_sound.false)
