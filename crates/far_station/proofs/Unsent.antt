-- No acknowledged byte is in any later frame: a frame's bytes are in a piece, pieces cover bytes in flight alone, and what is acknowledged
-- stays so.
-- Assumes nothing.
use mathlib.Core.Path.{◌≡◌, refl, sym, ap, ◌∙◌}
use mathlib.Core.List.{List, [], ◌∷◌, ◌++◌}
use mathlib.Core.Bool.{Bool, true, false, cond}
use Prim.Native.Nat.{ℕ, zero, suc, ◌+◌, ◌≤◌}
use native.Mathlib.Omega.{arith}
use lib.Dec.{eqb}
use lib.ListN.{length}
use borrow.Author.Tests.{eqb-true}
use Rattle.laws.proofs.Picks.{test}
use Rattle.config.specs.declared.Profile.{Profile}
use Rattle.ledger.specs.Calls.{Along, run, tally}
use Rattle.ledger.specs.Claim.{covering, flying_at, acked_at}
use Rattle.ledger.specs.ClaimCode.{Carry}
use Rattle.ledger.specs.Ledger.{Frame, Piece, len, find}
use Rattle.ledger.specs.Tally.{Tally, Event, silent, went, Flown, start, within, feed, frames_told}
use Rattle.ledger.proofs.PerOffset.{acked-exactly}
use Rattle.sender.specs.Calls.{Bursted, burst_call}
use Rattle.verdicts.specs.Verdicts.{passed}
use Rattle.demand.specs.Lists.{Call, bursts, State, Given, fresh_start, shown, frames_answered, next, call_told}
use Rattle.demand.specs.Page.{c as reached, t as tallied}
use Rattle.demand.proofs.Answers.{burst-is, verdict-of-burst}
use Rattle.demand.proofs.Reached as D
use Rattle.demand.proofs.Theorem.{demand3}
use Rattle.far_station.specs.CannotForce.{in_frames, NotSentAgain}

-- ---- lists one after the other

module _ (p : Profile) where
  run-append : (is js : List Call) (c : State) → run (next p) (is ++ js) c ≡ run (next p) js (run (next p) is c)
  run-append [] js c = refl
  run-append (i ∷ is) js c = run-append is js (next p i c)

  abbrev tells : List Call → State → Tally → Tally
  tells = tally (next p) (call_told p)

  tally-append : (is js : List Call) (c : State) (t : Tally) → tells (is ++ js) c t ≡ tells js (run (next p) is c) (tells is c t)
  tally-append [] js c t = refl
  tally-append (i ∷ is) js c t = tally-append is js (next p i c) (feed (call_told p i c) t)

  along_one : (is : List Call) (i : Call) (c : State) → Along (next p) Given is c → Given i (run (next p) is c)
      → Along (next p) Given (is ++ i ∷ []) c
  along_one [] i c gs g = (g, tt)
  along_one (j ∷ is) i c gs g = (gs.0, along_one is i (next p j c) gs.1 g)

  -- what is acknowledged stays so
  acked-later : (js : List Call) (o : ℕ) (c : State) (t : Tally) → acked_at o t.flown ≡ true → acked_at o (tells js c t).flown ≡ true
  acked-later [] o c t e = e
  acked-later (j ∷ js) o c t e = acked-later js o (next p j c) (feed (call_told p j c) t) (acked-exactly (call_told p j c) t o ∙ rw e)

-- ---- a frame's bytes are in flight

found-covers : (q l o : ℕ) (ps : List Piece) → 1 ≤ l → length (find q ps) ≡ l → within q l o ≡ true → 1 ≤ covering o ps
found-covers q l o [] h e w = absurd (omega (arith, e))
found-covers q l o (x ∷ ps) h e w =
    test (eqb q x.off)
    (λ t.
    let n : length (find q (x ∷ ps)) ≡ len x = rw t in
    let m : len x ≡ l = sym n ∙ e in
    let v : within x.off (len x) o ≡ true = rw (m, ← eqb-true q x.off t) w in
    let c : covering o (x ∷ ps) ≡ 1 + covering o ps = rw v in
    omega (arith, c))
    (λ t. let n : find q (x ∷ ps) ≡ find q ps = rw t in omega (arith, found-covers q l o ps h (ap length (sym n) ∙ e) w))

flying-unacked : (o : ℕ) (fl : List Flown) → 1 ≤ flying_at o fl → acked_at o fl ≡ true → ⊥
flying-unacked o [] h e = omega arith
flying-unacked zero (f ∷ fl) h e = let c : flying_at zero (f ∷ fl) ≡ 0 = rw e in omega (arith, c)
flying-unacked (suc o) (f ∷ fl) h e = flying-unacked o fl h e

none_in : (o : ℕ) (bs : List ℕ) (ps : List Piece) (fs : List Frame) → Carry bs ps fs → (1 ≤ covering o ps → ⊥) → in_frames o fs ≡ false
none_in o bs ps [] c n = refl
none_in o bs ps (f ∷ fs) c n =
    test (within f.off f.len o)
    (λ w. absurd (n (found-covers f.off f.len o ps c.0 c.1 w)))
    (λ w. rw w (none_in o bs ps fs c.3 n))

-- ---- the frames that a burst answers are those that the tally is told; one that is refused has none

module _ (p : Profile) (c : State) (out : List ℕ) where
  abbrev x : Bursted
  x = (burst_call p c.0 c.1 out).0

  told-if : (b : Bool) → passed x.verdict ≡ b
      → call_told p (bursts out) c ≡ cond b (went x.outgoing.number (frames_answered x.outgoing.frames)) silent
  told-if b e = ap (λ (y : Bool). cond y (went x.outgoing.number (frames_answered x.outgoing.frames)) silent) e

  frames-told : frames_told (call_told p (bursts out) c) ≡ frames_answered x.outgoing.frames
  frames-told =
      test (passed x.verdict) (λ e. ap frames_told (told-if true e))
      (λ e.
      let none = burst-is p c out false (ap passed (sym (verdict-of-burst p c out)) ∙ e) in
      ap frames_told (told-if false e) ∙ sym (ap (λ (y : Bursted × (List ℕ × List ℕ)). frames_answered y.0.outgoing.frames) none))

module _ (p : Profile) (six : length p.codes.ends ≤ 6) (n : ℕ) (is js : List Call) (gs : Along (next p) Given (is ++ js) (fresh_start n))
    (out : List ℕ) where
  abbrev c : State
  c = reached p n (is ++ js)

  abbrev t : Tally
  t = tallied p n (is ++ js)

  abbrev e : Event
  e = call_told p (bursts out) c

  -- after the burst the pieces cover what is in flight
  covers : (o : ℕ) → covering o (shown (next p (bursts out) c)).sender.pieces ≡ flying_at o (feed e t).flown
  covers o =
      let gs' = along_one p (is ++ js) (bursts out) (fresh_start n) gs tt in
      let d = (demand3 p six n ((is ++ js) ++ bursts out ∷ []) gs').0.covers o in
      ap (λ (x : State). covering o (shown x).sender.pieces) (sym (run-append p (is ++ js) (bursts out ∷ []) (fresh_start n)))
      ∙ d ∙ ap (λ (u : Tally). flying_at o u.flown) (tally-append p (is ++ js) (bursts out ∷ []) (fresh_start n) start)

  still-acked : (o : ℕ) → acked_at o (tallied p n is).flown ≡ true → acked_at o (feed e t).flown ≡ true
  still-acked o a =
      let b : acked_at o t.flown ≡ true =
      ap (λ (u : Tally). acked_at o u.flown) (tally-append p is js (fresh_start n) start)
      ∙ acked-later p js o (reached p n is) (tallied p n is) a in
      acked-exactly e t o ∙ rw b

  pub unsent : NotSentAgain p n is js out
  unsent o a =
      ap (in_frames o) (sym (frames-told p c out))
      ∙ none_in o _ _ (frames_told e) (D.reached p six n (is ++ js) gs (bursts out) tt).ledger.carries
      (λ h. flying-unacked o (feed e t).flown (omega (arith, covers o)) (still-acked o a))
