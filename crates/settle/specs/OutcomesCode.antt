-- What a reply says of the outstanding burst's frames (`on_ack` of gear.rs: `any_fresh`, `counts`, `sent`, `got`): what follows the code or serves proofs; nothing here has to be believed.
use Rattle.std.specs.Prelude.{List, [], ◌∷◌, Bool, true, false, cond, ◌&&◌, ℕ, ◌+◌, ◌/◌, ◌%◌, eqb, take}
use Rattle.laws.specs.Lists.{one}
use Rattle.gear.specs.declared.Outcome.{Outcome}
use Rattle.record.specs.declared.LastBurst.{LastBurst}
use Rattle.settle.specs.declared.outcome.Came.{Came}

abbrev pub one_more_came : Came → Bool → Bool → Came
one_more_came t fresh got = record { fresh = t.fresh + one fresh; fresh_got = t.fresh_got + one (fresh && got); got = t.got + one got }

unfoldable pub tallied_from : Came → ℕ → List ℕ → List ℕ → Came
tallied_from t m [] hs = t
tallied_from t m (b ∷ bs) [] = t
tallied_from t m (b ∷ bs) (h ∷ hs) = tallied_from (one_more_came t (eqb b h) (eqb (m % 2) 1)) (m / 2) bs hs

abbrev pub tallied : ℕ → List ℕ → List ℕ → Came
tallied m bs hs = tallied_from (record { fresh = 0; fresh_got = 0; got = 0 }) m bs hs

unfoldable pub outcome_in : ℕ → Bool → LastBurst → Outcome
outcome_in m matched s =
    let t = tallied m (take s.n s.bits) (take s.n s.held) in
    cond (eqb t.fresh 0)
    (record { empty = eqb s.n 0; fresh = false; matched = matched; sent = s.n; got = t.got })
    (record { empty = false; fresh = true; matched = matched; sent = t.fresh; got = t.fresh_got })
