-- A local that holds a value of a type R is lent, and comes back: denote.Lend's `lends_ref` and `ref_back` at a cell and what is owned there.
--     lends-here       the cell ∗ own d  ⊢ ⇛ ∃ γ. own (the `&κ mut R` ((b, o), γ, d)) ∗ the lender's part
--     comes-here       [†κ] ∗ the lender's part ∗ res γ d  ⊢ ⇛ (the cell at d's machine values ∗ own d)
--     lends-shr-here   the cell ∗ own d  ⊢ ⇛ own (the `&κ R` ((b, o), d)) ∗ the lender's part, where the type is lent with no token
--     shr-comes-here   [†κ] ∗ the lender's part  ⊢ ⇛ (the cell at d's machine values ∗ own d)
-- The second and the last take that R's relation tells its machine values.
use Prim.Native.Nat.{ℕ}
use mathlib.Core.List.{List, [], ◌∷◌}
use seplogic.Ra.Ura.{Ura}
use base.Fraction.{full_share}
use mir.Syntax.{Lifetime}
use mir.Val.{Val}
use base.Logic.{ent, sep, ex}
use base.Fml.{Lft, GName, fsep, fdead, flent, fres}
use types.Logic.{Logic, sem}
use types.Kit.{‵, later, ◌$◌, ◌∵◌, !, qed, by, use3, await, updating, now as at_once, fsplit, fjoin, fpick, fpack, frame, done}
use types.Tokens.{lent_back}
use types.SemTy.{Body}
use denote.RattleType.{RattleType}
use denote.Laws.{Is, Tells, shows}
use denote.Memory.{cell_at, part_at, mem, part_of, shared_of}
use denote.Lends.{Lent as LentFree}
use denote.Lend.{LentRef, LentShr, lends_ref, lends_free, ref_back}
use denote.Struct.Steps.{spelt}

module _ {M : Type 1} {𝓤 : Ura M} (𝓛 : Logic 𝓤) (R : RattleType) (κ : Lft) (b o : ℕ) where
  open 𝓛 use {H, A}

  pub lends-here : (ℓ : Lifetime) (d : R.Denot) (vs : List Val) → ent 𝓤 (sep 𝓤 (sem 𝓛 (cell_at full_share R.mir vs b o)) (sem 𝓛 (R.own_val d vs))) (H.⇛ (ex 𝓤 (LentRef 𝓛 R ℓ κ d b o)))
  unfolding part_of
  lends-here ℓ d vs = qed 𝓛 (‵ (cell_at full_share R.mir vs b o) ∷ ‵ (R.own_val d vs) ∷ []) ∵ fjoin ! $ fpack ! (List Val) (λ us. fsep (cell_at full_share R.mir us b o) (R.own_val d us)) vs $ by ! (lends_ref 𝓛 R ℓ κ d b o)

  pub comes-here : (vals : R.Denot → List Val) → Tells R (Is R) vals → (γ : GName) (d : R.Denot) → ent 𝓤 (sep 𝓤 (A.dead κ) (sep 𝓤 (A.lent κ (Body (mem R) b o γ)) (A.res γ (R.coded.code d)))) (H.⇛ (sep 𝓤 (sem 𝓛 (cell_at full_share R.mir (vals d) b o)) (sem 𝓛 (R.own_val d (vals d)))))
  unfolding part_of
  comes-here vals tl γ d =
      qed 𝓛 (‵ (fdead κ) ∷ ‵ (flent κ (Body (mem R) b o γ)) ∷ ‵ (fres γ (R.coded.code d)) ∷ []) ∵ updating ! $ use3 𝓛 (later (‵ ((mem R).own_at d b o))) (ref_back 𝓛 R κ γ d b o) $ await ! tt $
      fpick ! (λ vs. fsplit ! $ spelt ! R (Is R) (shows 𝓛 R) vals tl full_share d vs b o $ at_once ! $ frame ! $ done !)

  pub lends-shr-here : (ℓ : Lifetime) (d : R.Denot) (vs : List Val) → LentFree 𝓛 (part_at R full_share d b o) (shared_of R d b o) → ent 𝓤 (sep 𝓤 (sem 𝓛 (cell_at full_share R.mir vs b o)) (sem 𝓛 (R.own_val d vs))) (H.⇛ (LentShr 𝓛 R ℓ κ full_share d b o))
  unfolding part_of
  lends-shr-here ℓ d vs free = qed 𝓛 (‵ (cell_at full_share R.mir vs b o) ∷ ‵ (R.own_val d vs) ∷ []) ∵ fjoin ! $ fpack ! (List Val) (λ us. fsep (cell_at full_share R.mir us b o) (R.own_val d us)) vs $ by ! (lends_free 𝓛 R ℓ κ full_share d b o free)

  pub shr-comes-here : (vals : R.Denot → List Val) → Tells R (Is R) vals → (d : R.Denot) → ent 𝓤 (sep 𝓤 (A.dead κ) (A.lent κ (part_at R full_share d b o))) (H.⇛ (sep 𝓤 (sem 𝓛 (cell_at full_share R.mir (vals d) b o)) (sem 𝓛 (R.own_val d (vals d)))))
  unfolding part_of
  shr-comes-here vals tl d =
      qed 𝓛 (‵ (fdead κ) ∷ ‵ (flent κ (part_at R full_share d b o)) ∷ []) ∵ updating ! $ lent_back ! tt $
      fpick ! (λ vs. fsplit ! $ spelt ! R (Is R) (shows 𝓛 R) vals tl full_share d vs b o $ at_once ! $ frame ! $ done !)
