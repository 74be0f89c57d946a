-- Steps of a walk, each of which stands for several of the logic's: what a step costs grows with the context that it goes through, and here the
-- several have a short one.
--     alloc-in                  a local's room, and that it dies, put to what else dies
--     opens_at, closes_at       a `&mut` to a struct is opened at the values that the type's relation tells, and closed again
--     looks-at, shuts-at        the same of a `&`
--     adds                      what a plain value owns, before what other arguments own
--     answered                  what a call gives back: its result, the last values, and what it ensures
--     of_two, rest_of, first_of     a pair of entries swapped; the second, or the first, of two formulas;   head_of   the first of two entries
use Prim.Native.Nat.{ℕ, zero}
use mathlib.Core.Path.{refl}
use mathlib.Core.List.{List, [], ◌∷◌}
use seplogic.Ra.Ura.{Ura}
use base.Fraction.{full_share}
use mir.Syntax.{Ty, Home, Local, local}
use mir.Val.{Val, vptr}
use base.Stored.{Gv}
use base.Fml.{Fml, Lft, GName, Share, fsep, feq, flft, fobs, fauth, fbor, fobor, froom, fdies}
use prog.Wp.{Env}
use types.Logic.{Logic}
use types.Kit.{Item, Goal, Soaks, Seq, Step, step, allocs, ‵, raw, some, later, ◌⊛◌, ◌$◌, split, join, move, drop, pick, await, fsplit, fsplit3, fjoin, fjoin3, feq_i}
use types.Run.{alloc1}
use types.SemTy.{Body}
use contract.Monad.{fact}
use denote.RattleType.{RattleType}
use denote.Laws.{Is, Tells, Makes, shows}
use denote.Memory.{cell_at, part_at, mem, hidden_shr}
use denote.Opens.{Opens, Shut}
use denote.Steps.{opens, closes, looks, shuts, facts, owned, heard}
use denote.Struct.Steps.{spelt}

module _ {M : Type 1} {𝓤 : Ura M} {𝓛 : Logic 𝓤} {K : Type 0} {Γ : List (Item 𝓤)} where
  open 𝓛 use {H}

  pub alloc-in : K → {D : Item 𝓤} {τ : Ty} {h : Home} {ls : List Local} {Kt : Env 𝓤 H → Goal 𝓤 H}
      → ((b : ℕ) → Seq K 𝓛 ((‵ (fdies τ b) ⊛ D) ∷ ‵ (froom τ b zero) ∷ Γ) (allocs ls (λ E. Kt ((τ, b) ∷ E)))) → Seq K 𝓛 (D ∷ Γ) (allocs (local τ h ∷ ls) Kt)
  alloc-in t k = alloc1 t (λ b. move t (1 ∷ 2 ∷ []) $ join t $ k b)

  module _ {G : Goal 𝓤 H} where
    pub opens_at : K → Soaks G → (R : RattleType) (vals : R.Denot → List Val) → Tells R (Is R) vals → {E : Fml} {κ : Lft} {q : Share} {γ : GName} (h : R.Denot) (b o : ℕ)
        → (Is R h (vals h) → Seq K 𝓛 (‵ (cell_at full_share R.mir (vals h) b o) ∷ ‵ (fobor κ q (Body (mem R) b o γ)) ∷ ‵ (fobs γ (R.coded.code h)) ∷ ‵ (fauth γ (R.coded.code h)) ∷ Γ) G)
        → Seq K 𝓛 (‵ (fsep E (fsep (fobs γ (R.coded.code h)) (fbor κ (Body (mem R) b o γ)))) ∷ ‵ (flft κ q) ∷ Γ) G
    opens_at t z R vals tl h b o k =
        fsplit3 t $ drop t $ opens t z R {h = h} b o (λ vs. spelt t R (Is R) (shows 𝓛 R) vals tl full_share h vs b o $ move t (1 ∷ []) $
        facts t R (Is R) (shows 𝓛 R) h (vals h) (λ is. k is))

    pub closes_at : K → Soaks G → (R : RattleType) → Makes 𝓛 R (Is R) → {κ : Lft} {q : Share} {u v : Gv} {γ : GName} (h : R.Denot) (vs : List Val) → Is R h vs → (b o : ℕ)
        → Step K 𝓛 (‵ (fsep (feq (List Val) (vptr b o ∷ []) (vptr b o ∷ [])) (fsep (fobs γ (R.coded.code h)) (fbor κ (Body (mem R) b o γ)))) ∷ ‵ (flft κ q) ∷ Γ) G
        (‵ (cell_at full_share R.mir vs b o) ∷ ‵ (fobor κ q (Body (mem R) b o γ)) ∷ ‵ (fobs γ u) ∷ ‵ (fauth γ v) ∷ Γ) G
    closes_at t z R mk h vs is b o = step (λ s. owned t R (Is R) mk h vs is $ move t (1 ∷ 0 ∷ []) $ closes t z R h vs b o $
        feq_i t (List Val) (vptr b o ∷ []) (vptr b o ∷ []) refl $ fjoin3 t $ s)

    pub looks-at : K → Soaks G → (R : RattleType) (vals : R.Denot → List Val) → Tells R (Is R) vals → Opens 𝓛 R → {E : Fml} {κ : Lft} {q : Share} (h : R.Denot) (b o : ℕ)
        → ((s : Share) → Is R h (vals h) → Seq K 𝓛 (‵ (cell_at s R.mir (vals h) b o) ∷ Shut 𝓛 κ q (part_at R s h b o) ∷ ‵ (hidden_shr R κ h b o) ∷ Γ) G)
        → Seq K 𝓛 (‵ (fsep E (hidden_shr R κ h b o)) ∷ ‵ (flft κ q) ∷ Γ) G
    looks-at t z R vals tl op h b o k =
        fsplit t $ drop t $ looks t z R op h b o (λ s vs. spelt t R (Is R) (shows 𝓛 R) vals tl s h vs b o $ move t (1 ∷ []) $
        facts t R (Is R) (shows 𝓛 R) h (vals h) (λ is. k s is))

    pub shuts-at : K → Soaks G → (R : RattleType) → Makes 𝓛 R (Is R) → {κ : Lft} {q : Share} (s : Share) (h : R.Denot) (vs : List Val) → Is R h vs → (b o : ℕ)
        → Step K 𝓛 (‵ (fsep (feq (List Val) (vptr b o ∷ []) (vptr b o ∷ [])) (hidden_shr R κ h b o)) ∷ ‵ (flft κ q) ∷ Γ) G
        (‵ (cell_at s R.mir vs b o) ∷ Shut 𝓛 κ q (part_at R s h b o) ∷ ‵ (hidden_shr R κ h b o) ∷ Γ) G
    shuts-at t z R mk s h vs is b o = step (λ k. owned t R (Is R) mk h vs is $ move t (1 ∷ 0 ∷ []) $ shuts t z R s h vs b o $ move t (1 ∷ []) $
        feq_i t (List Val) (vptr b o ∷ []) (vptr b o ∷ []) refl $ fjoin t $ k)

    pub adds : K → (R : RattleType) → Makes 𝓛 R (Is R) → (x : R.Denot) (vs : List Val) → Is R x vs → {Q : Fml} → Step K 𝓛 (‵ (fsep (R.own_val x vs) Q) ∷ Γ) G (‵ Q ∷ Γ) G
    adds t R mk x vs is = step (λ s. owned t R (Is R) mk x vs is $ fjoin t $ s)

    pub answered : K → Soaks G → {X Ws : Type 0} {L : Item 𝓤} {own : X → Fml} {lasts : Ws → Fml} {φ : X → Ws → Type 0}
        → ((r : X) (ws : Ws) → φ r ws → Seq K 𝓛 (L ∷ ‵ (own r) ∷ ‵ (lasts ws) ∷ Γ) G)
        → Seq K 𝓛 (later (some (λ r. (L ⊛ ‵ (own r)) ⊛ some (λ ws. ‵ (lasts ws) ⊛ raw (fact 𝓤 (φ r ws))))) ∷ Γ) G
    answered t z {φ = φ} k = await t z $ pick t (λ r. split t $ move t (1 ∷ []) $ pick t (λ ws. split t $ move t (1 ∷ []) $ heard t (φ r ws) (λ e. move t (1 ∷ []) $ split t $ k r ws e)))

    pub of_two : K → {i j : Item 𝓤} → Step K 𝓛 (j ∷ i ∷ Γ) G ((i ⊛ j) ∷ Γ) G
    of_two t = step (λ s. split t $ move t (1 ∷ []) $ s)

    pub head_of : K → {i j : Item 𝓤} → Step K 𝓛 (i ∷ Γ) G ((i ⊛ j) ∷ Γ) G
    head_of t = step (λ s. split t $ move t (1 ∷ []) $ drop t $ s)

    pub rest_of : K → {P Q : Fml} → Step K 𝓛 (‵ Q ∷ Γ) G (‵ (fsep P Q) ∷ Γ) G
    rest_of t = step (λ s. fsplit t $ drop t $ s)

    pub first_of : K → {P Q : Fml} → Step K 𝓛 (‵ P ∷ Γ) G (‵ (fsep P Q) ∷ Γ) G
    first_of t = step (λ s. fsplit t $ move t (1 ∷ []) $ drop t $ s)
