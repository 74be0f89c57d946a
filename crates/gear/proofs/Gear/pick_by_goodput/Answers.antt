-- `best` works on parts of the gear: `picked` says that its answer is `best_of`, whose level is one of the ladder. Then by cases.
use Rattle.gear.specs.Goodput.{best_of, pick_by_goodput}
use Rattle.gear.proofs.goodput.GoodputLaws.{best-lt, view-best}
use Rattle.std.proofs.Common.{◌≡◌, Option, ap, sym, ◌∙◌, refl, arith}
use lib.Ieee.{Float, of_bits}
use Rattle.config.specs.declared.Profile.{Profile}
use Rattle.gear.specs.declared.Gear.{Gear}
use Rattle.gear.specs.declared.goodput.Best.{Best}
use Rattle.gear.specs.declared.goodput.View.{View}
use Rattle.gear.specs.Levels.{view_of, view_best}
use Rattle.gear.proofs.Gear.pick_by_goodput.Goals as goal

picked : (p : Profile) (g : Gear) (aim now : Float) (v : View) (b : Option Best) → v ≡ view_of p g now → b ≡ view_best p v g.tries aim → best_of p g aim now ≡ b
picked p g aim now v b e f = sym (f ∙ ap (λ (x : View). view_best p x g.tries aim) e ∙ view-best p g aim now)

pub best-requires : goal.best-requires
best-requires c = let s = c in record {
  fact_1 = rw c.view.ensures s.requires.fact_1;
  fact_2 = s.requires.fact_2;
}

pub usable_below-requires : goal.usable_below-requires
usable_below-requires c =
    let a = c.args in
    let e = picked a.cfg a.self a.aim a.now _ _ c.view.ensures c.best.ensures ∙ c.in-Some.is in
    rw e at (best-lt 17 a.cfg a.self a.aim a.now (omega (arith, c.requires.fact_2.top)))

pub returns-in-Some : goal.returns-in-Some
unfolding pick_by_goodput of_bits
returns-in-Some c =
    let a = c.args in
    let e = picked a.cfg a.self a.aim a.now _ _ c.view.ensures c.best.ensures ∙ c.in-Some.is in
    rw (e, c.usable_below.ensures, c.heeded.ensures) refl

pub returns-in-None : goal.returns-in-None
unfolding pick_by_goodput
returns-in-None c =
    let a = c.args in
    let e = picked a.cfg a.self a.aim a.now _ _ c.view.ensures c.best.ensures ∙ c.in-None.is in
    rw e refl
