-- `try_read`: the file, then the profile in it. Assumes nothing.
use mathlib.Core.Path.{refl, ap, ◌∙◌}
use Rattle.std.proofs.lemmas.Result.{err_from_is_err_and}
use Rattle.card.specs.Card.{content_refusal}
use Rattle.card.proofs.Refusals.{number-some, read-file, read-refused, read-good}
use Rattle.card.proofs.try_read.Goals as goal

pub returns-in_err-check_file : goal.returns-in_err-check_file
returns-in_err-check_file c = λ before.
    let p = err_from_is_err_and c.from_residual.result c.from_residual.ensures.1 in
    rw (p.1, p.2) (read-file c.args.b.now before _ c.in_err-check_file.ensures.0 (number-some _))

pub returns-in_err-check_profile : goal.returns-in_err-check_profile
returns-in_err-check_profile c = λ before.
    let p = err_from_is_err_and c.from_residual-in_err-check_profile.result c.from_residual-in_err-check_profile.ensures.1 in
    let e = c.in_err-check_profile.ensures ∙ ap (content_refusal _ _) c.profile-profile.ensures in
    rw (p.1, p.2) (read-refused c.args.b.now before 0 _ c.in_ok-check_file.ensures.0 refl e (number-some _))

pub returns : goal.returns
returns c = λ before.
    let e = c.in_ok-check_profile.ensures ∙ ap (content_refusal _ _) c.profile-profile.ensures in
    (λ j. (0, c.profile-profile.ensures j, c.stretch_on-stretched.ensures j))
    ∙ read-good c.args.b.now before 0 0 c.in_ok-check_file.ensures.0 refl e refl
