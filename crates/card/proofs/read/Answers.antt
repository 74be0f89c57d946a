-- `read`: the file, then the profile in it. Assumes nothing.
use mathlib.Core.Path.{refl, ap, ◌∙◌}
use Rattle.card.specs.Card.{content_refusal}
use Rattle.card.proofs.Refusals.{number-some, read-file, read-refused, read-good}
use Rattle.card.proofs.read.Goals as goal

pub returns-in-Err : goal.returns-in-Err
returns-in-Err c =
    (λ j. (c.refused.ensures.0 j, c.refused.ensures.1 j, c.refused.ensures.2 j))
    ∙ read-file c.args.b.now c.args.before _ c.in-Err.ensures.0 (number-some _)

pub returns-in-Err-check_profile : goal.returns-in-Err-check_profile
returns-in-Err-check_profile c =
    let e = c.in-Err-check_profile.ensures ∙ ap (content_refusal _ _) c.profile-p.ensures in
    (λ j. (c.refused-in-Err-check_profile.ensures.0 j, c.refused-in-Err-check_profile.ensures.1 j, c.refused-in-Err-check_profile.ensures.2 j))
    ∙ read-refused c.args.b.now c.args.before 0 _ c.in_default.ensures.0 refl e (number-some _)

pub returns : goal.returns
returns c =
    let e = c.in_default-check_profile.ensures ∙ ap (content_refusal _ _) c.profile-p.ensures in
    (λ j. (0, c.profile-p.ensures j, c.stretch_on.ensures j)) ∙ read-good c.args.b.now c.args.before 0 0 c.in_default.ensures.0 refl e refl
