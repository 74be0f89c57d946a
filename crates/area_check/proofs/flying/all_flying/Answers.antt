-- `area_check::flying::all_flying` meets its contract.
use mathlib.Core.Bool.{true, false}
use lib.ListN.{drop, take, length-drop, length, get_or}
use lib.Seq.{take_all}
use Rattle.area.specs.Table.{rows_from}
use Rattle.laws.specs.Lists.{listed}
use Rattle.area.specs.Removal.{Hashed, hash_all}
use Rattle.area.proofs.removal.Laws.{hashed-end, hashed-more}
use Rattle.area_check.specs.Rows.{row_offs}
use Rattle.area_check.proofs.flying.Laws.{drop-back, take_back, flying-back, flying-part, flying-end}
use Prim.Native.Nat.{ℕ, ◌+◌, ◌-◌, ◌<◌}
use mathlib.Core.Path.{◌≡◌, refl, sym, ap, ◌∙◌, subst}
use mathlib.Core.List.{List}
use native.Mathlib.Nat.{le_refl}
use native.Mathlib.Omega.{arith}
use Rattle.area_check.proofs.flying.all_flying.Goals as goal

-- the offsets behind the one before place i
behind : (l : List ℕ) (i : ℕ) → 0 < i → take (length l - (i - 1 + 1)) (drop (i - 1 + 1) l) ≡ drop i l
behind l i h =
    let e : i - 1 + 1 ≡ i = omega arith in
    ap (λ (k : ℕ). take (length l - k) (drop k l)) e ∙ take_all (length l - i) (drop i l) (omega (arith, length-drop i l))

pub returns-then-xs-eq0 : goal.returns-then-xs-eq0
returns-then-xs-eq0 c = sym (flying-end _ _ 0 (omega (arith, c.if-xs-eq0.true)))

pub loop-i-init : goal.loop-i-init
loop-i-init c = let xs = c.args.xs.now in (le_refl _, hashed-end _ xs (length xs) (le_refl _) refl, flying-end xs _ (length xs) (le_refl _))

pub returns-then-not-flies_near : goal.returns-then-not-flies_near
returns-then-not-flies_near c =
    let a = c.args in
    let h : 0 < c.loop-i.i = omega arith in
    let t = flying-back a.xs.now c.loop-i.i h c.loop-i.invariant.0 (row_offs (rows_from a.a.now 0 a.n)) in
    sym (flying-part _ _ (c.loop-i.i - 1) (t ∙ simp (sym c.flies_near.ensures ∙ c.if-not-flies_near.true)))

pub contains_hashed-requires : goal.contains_hashed-requires
contains_hashed-requires c =
    let h : 0 < c.loop-i.i = omega arith in
    subst (Hashed c.loop-i.hashes) (sym (behind c.args.xs.now c.loop-i.i h)) c.loop-i.invariant.1

pub returns-then-contains_hashed : goal.returns-then-contains_hashed
returns-then-contains_hashed c =
    let a = c.args in
    let h : 0 < c.loop-i.i = omega arith in
    let t = flying-back a.xs.now c.loop-i.i h c.loop-i.invariant.0 (row_offs (rows_from a.a.now 0 a.n)) in
    let x = get_or a.xs.now (c.loop-i.i - 1) 0 in
    let f : listed x (row_offs (rows_from a.a.now 0 a.n)) ≡ true = sym c.flies_near.ensures ∙ c.if-not-flies_near.false in
    let l : listed x (drop c.loop-i.i a.xs.now) ≡ true = ap (listed x) (sym (behind a.xs.now c.loop-i.i h)) ∙ sym c.contains_hashed.ensures ∙ c.if-contains_hashed.true in
    sym (flying-part _ _ (c.loop-i.i - 1) (t ∙ simp (f, l)))

pub loop-i-preserved : goal.loop-i-preserved
loop-i-preserved c =
    let a = c.args in
    let i = c.loop-i.i in
    let h : 0 < i = omega arith in
    let b = c.loop-i.invariant.0 in
    let t = flying-back a.xs.now i h b (row_offs (rows_from a.a.now 0 a.n)) in
    let x = get_or a.xs.now (i - 1) 0 in
    let e : i - 1 + 1 ≡ i = omega arith in
    let one : take (i - 1 + 1 - (i - 1)) (drop (i - 1) a.xs.now) ≡ take (i - (i - 1)) (drop (i - 1) a.xs.now) = ap (λ (k : ℕ). take (k - (i - 1)) (drop (i - 1) a.xs.now)) e in
    let f : listed x (row_offs (rows_from a.a.now 0 a.n)) ≡ true = sym c.flies_near.ensures ∙ c.if-not-flies_near.false in
    let l : listed x (drop i a.xs.now) ≡ false = ap (listed x) (sym (behind a.xs.now i h)) ∙ sym c.contains_hashed.ensures ∙ c.if-contains_hashed.false in (
      omega (arith, b),
      subst (Hashed _) (sym (drop-back a.xs.now i h b))
          (hashed-more _ c.loop-i.hashes (drop i a.xs.now) x (c.hash.ensures ∙ ap (hash_all c.loop-i.hashes) (one ∙ take_back a.xs.now i h b)) c.loop-i.invariant.1),
      t ∙ simp (f, l, c.loop-i.invariant.2),
    )
