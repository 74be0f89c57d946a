use Rattle.std.proofs.Common.{◌≡◌, ℕ, ◌+◌, Option, None}
use lib.Ieee.{Float}
use Rattle.laws.specs.Span.{upto, fold}
use Rattle.config.specs.declared.Marks.{Marks}
use Rattle.config.specs.declared.Profile.{Profile}
use Rattle.levels.specs.declared.memory.Tries.{Tries}
use Rattle.levels.specs.Rates.{pace_at}
use Rattle.gear.specs.declared.goodput.Best.{Best}
use Rattle.gear.specs.declared.goodput.View.{View}
use Rattle.gear.specs.Levels.{seen_at, sight_at, view_weighed}
use Rattle.gear.proofs.goodput.View.best.Given as goal

-- a turn of the loop, on what is taken out before it
abbrev pub turn : Profile → View → Marks → Tries → Float → Option Best → ℕ → Option Best
turn p v m t aim b l = view_weighed v b l (sight_at m p.power l aim) (seen_at t l) (pace_at p l)

abbrev pub invariant-loop-l : goal.invariant-loop-l
invariant-loop-l l =
    (fold (turn l.cfg l.self l.marks l.tries l.aim) None (upto 0 (l.cfg.max_level + 1)) ≡ fold (turn l.cfg l.self l.marks l.tries l.aim) l.best (upto l.l (l.cfg.max_level + 1))) × (l.l-end ≡ l.cfg.max_level + 1)
