-- Offset by offset: how many pieces cover it, and when it becomes acknowledged.
-- Assumes nothing.
use Prim.Native.Nat.{ℕ, zero, suc, ◌+◌, ◌-◌, ◌≤◌, ◌<◌}
use mathlib.Core.Path.{◌≡◌, refl, sym, ap, ◌∙◌}
use mathlib.Core.Bool.{Bool, true, false, cond, ◌&&◌, ◌||◌}
use mathlib.Core.List.{List, [], ◌∷◌, ◌++◌, map}
use mathlib.Core.Option.{Option, none, some}
use native.Mathlib.Nat.{zero-add, sub-zero, add-zero}
use native.Mathlib.Omega.{arith}
use lib.Dec.{eqb, ltb}
use lib.ListN.{length, take, replicate, length-replicate, length-map, get_or, get_or-append}
use lib.Seq.{get_or-append-add}
use borrow.Author.Tests.{ltb-true, ltb-false, lt-ltb, le-ltb}
use Rattle.laws.proofs.Picks.{test, either}
use Rattle.ledger.specs.Reply.{Reply}
use Rattle.ledger.specs.Ledger.{Piece, end, len, Frame}
use Rattle.ledger.specs.Tally.{within, Flown, acknowledge, acknowledge_all, unacked, acknowledged_by, Outstanding, nothing, outstanding, Event, Tally, waits, feed, queued, sent_out, heard, turn, none_outstanding, silent, took, reply, replies, went, heard_all, furthest}
use Rattle.ledger.specs.Claim.{covering, flying_at, acked_at, bit_over, named, any_named, settled_by}
use Rattle.ledger.proofs.Acknowledge.{within-before, within_in, within-after}
use Rattle.ledger.proofs.InFlight.{filled, filled-flying}
use Rattle.ledger.specs.CoverCode.{Ascend, flying_by_offset, flying_byte}

-- ---- the pieces cover each offset in flight once and no other

covering-low : (m k n o : ℕ) (ps : List Piece) → Ascend m k n ps → o < k → covering o ps ≡ 0
covering-low m k n o [] a h = refl
covering-low m k n o (p ∷ ps) a h =
    let i = covering-low m (end p) n o ps a.3 (omega arith) in
    rw (within-before p.off (len p) o (omega arith)) (omega arith)

get_d-none : (n i : ℕ) → ◌≡◌ {A = Option ℕ} (get_or (replicate n none) i none) none
get_d-none zero i = refl
get_d-none (suc n) zero = refl
get_d-none (suc n) (suc i) = get_d-none n i

filled-some : (bs : List ℕ) (i : ℕ) → i < length bs → filled (get_or (map some bs) i none) ≡ 1
filled-some [] i h = absurd (omega arith)
filled-some (b ∷ bs) zero h = refl
filled-some (b ∷ bs) (suc i) h = filled-some bs i (omega arith)

module _ (xs ys : List (Option ℕ)) (i j : ℕ) where
  get_d-before : i < length xs → get_or (xs ++ ys) i none ≡ get_or xs i none
  get_d-before h = get_or-append xs ys none i h

  get_d_past : i ≡ length xs + j → get_or (xs ++ ys) i none ≡ get_or ys j none
  get_d_past e = rw e (get_or-append-add xs ys j none)

covering-filled : (m k n o : ℕ) (ps : List Piece) → Ascend m k n ps → k ≤ o → covering o ps ≡ filled (get_or (flying_by_offset k n ps) (o - k) none)
covering-filled m k n o [] a h = rw (get_d-none (n - k) (o - k))
covering-filled m k n o (p ∷ ps) a h =
    let xs = replicate (p.off - k) none in
    let bs = map some p.bytes in
    let x = length-replicate {A = Option ℕ} (p.off - k) none in
    let b = length-map p.bytes some in
    test (ltb o p.off)
    (λ e.
    let q = ltb-true o p.off e in
    rw (within-before p.off (len p) o q, covering-low m (end p) n o ps a.3 (omega arith), get_d-before xs (bs ++ flying_by_offset (end p) n ps) (o - k) 0 (omega arith), get_d-none (p.off - k) (o - k)))
    (λ e.
    let q = ltb-false o p.off e in
    rw (get_d_past xs (bs ++ flying_by_offset (end p) n ps) (o - k) (o - p.off) (omega arith))
    (test (ltb o (end p))
    (λ d.
    let c = ltb-true o (end p) d in
    rw (within_in p.off (len p) o q c, covering-low m (end p) n o ps a.3 c, get_d-before bs (flying_by_offset (end p) n ps) (o - p.off) 0 (omega arith), filled-some p.bytes (o - p.off) (omega arith)))
    (λ d.
    let c = ltb-false o (end p) d in
    let i = covering-filled m (end p) n o ps a.3 c in
    rw (within-after p.off (len p) o c, get_d_past bs (flying_by_offset (end p) n ps) (o - p.off) (o - end p) (omega arith)) (omega (arith, i)))))

flying_at-filled : (o : ℕ) (fl : List Flown) → filled (get_or (map flying_byte fl) o none) ≡ flying_at o fl
flying_at-filled o [] = refl
flying_at-filled zero (f ∷ fl) = filled-flying f.acked f.byte
flying_at-filled (suc o) (f ∷ fl) = flying_at-filled o fl

pub covers-once : (m n o : ℕ) (ps : List Piece) (fl : List Flown) → Ascend m 0 n ps → map flying_byte fl ≡ flying_by_offset 0 n ps → covering o ps ≡ flying_at o fl
covers-once m n o ps fl a e =
    covering-filled m 0 n o ps a (omega arith) ∙ rw (sub-zero o, ← e) (flying_at-filled o fl)

-- ---- a byte becomes acknowledged exactly when a frame that has it is named

or-none : (x c : Bool) → x ≡ x || (c && false)
or-none true c = refl
or-none false true = refl
or-none false false = refl

or-both : (x c y w : Bool) → (x || (c && y)) || (c && w) ≡ x || (c && (y || w))
or-both true c y w = refl
or-both false true y w = refl
or-both false false y w = refl

or-cond : (w x : Bool) → cond w true x ≡ x || (true && w)
or-cond true true = refl
or-cond true false = refl
or-cond false true = refl
or-cond false false = refl

ltb-suc : (i n : ℕ) → ltb (suc i) (suc n) ≡ ltb i n
ltb-suc i n =
    test (ltb i n)
    (λ e. let h = ltb-true i n e in lt-ltb (suc i) (suc n) (omega arith) ∙ sym e)
    (λ e. let h = ltb-false i n e in le-ltb (suc i) (suc n) (omega arith) ∙ sym e)

module _ (o l : ℕ) where
  acked_at-acknowledge : (k i : ℕ) (fl : List Flown) → acked_at i (acknowledge o l k fl) ≡ acked_at i fl || (ltb i (length fl) && within o l (k + i))
  acked_at-acknowledge k i [] = rw (le-ltb i 0 (omega arith))
  acked_at-acknowledge k zero (f ∷ fl) = rw (add-zero k, lt-ltb 0 (suc (length fl)) (omega arith)) (or-cond (within o l k) f.acked)
  acked_at-acknowledge k (suc i) (f ∷ fl) =
      let e : k + suc i ≡ suc k + i = omega arith in
      rw (e, ltb-suc i (length fl)) (acked_at-acknowledge (suc k) i fl)

  length-acknowledge : (k : ℕ) (fl : List Flown) → length (acknowledge o l k fl) ≡ length fl
  length-acknowledge k [] = refl
  length-acknowledge k (f ∷ fl) = rw (length-acknowledge (suc k) fl)

module _ (b : ℕ → Bool) (o : ℕ) where
  acked_at-frame : (i : ℕ) (f : Frame) (fl : List Flown) →
      acked_at o (cond (b i) (acknowledge f.off f.len 0 fl) fl) ≡ acked_at o fl || (ltb o (length fl) && (b i && within f.off f.len o))
  acked_at-frame i f fl =
      test (b i)
      (λ e. rw e (rw (zero-add o) at (acked_at-acknowledge f.off f.len 0 o fl)))
      (λ e. rw e (or-none (acked_at o fl) (ltb o (length fl))))

  length-frame : (i : ℕ) (f : Frame) (fl : List Flown) → length (cond (b i) (acknowledge f.off f.len 0 fl) fl) ≡ length fl
  length-frame i f fl = either (λ (x : List Flown). length x ≡ length fl) (b i) _ _ (length-acknowledge f.off f.len 0 fl) refl

  acked_at-all : (i : ℕ) (fs : List Frame) (fl : List Flown) → acked_at o (acknowledge_all b i fs fl) ≡ acked_at o fl || (ltb o (length fl) && bit_over b i fs o)
  acked_at-all i [] fl = or-none (acked_at o fl) (ltb o (length fl))
  acked_at-all i (f ∷ fs) fl =
      acked_at-all (suc i) fs (cond (b i) (acknowledge f.off f.len 0 fl) fl)
      ∙ rw (acked_at-frame i f fl, length-frame i f fl)
      (or-both (acked_at o fl) (ltb o (length fl)) (b i && within f.off f.len o) (bit_over b (suc i) fs o))

acked_at-unacked : (o : ℕ) (fl : List Flown) (bs : List ℕ) → acked_at o (fl ++ unacked bs) ≡ acked_at o fl
acked_at-unacked o [] [] = refl
acked_at-unacked zero [] (b ∷ bs) = refl
acked_at-unacked (suc o) [] (b ∷ bs) = acked_at-unacked o [] bs
acked_at-unacked zero (f ∷ fl) bs = refl
acked_at-unacked (suc o) (f ∷ fl) bs = acked_at-unacked o fl bs

acked_at-answered : (r : Reply) (out : Outstanding) (o : ℕ) (fl : List Flown) → acked_at o (acknowledged_by r out fl) ≡ acked_at o fl || (ltb o (length fl) && named r out o)
acked_at-answered r nothing o fl = or-none (acked_at o fl) (ltb o (length fl))
acked_at-answered r (outstanding n fs) o fl =
    test (eqb r.number n)
    (λ e. rw e (acked_at-all (r.bit (length fs)) o 0 fs fl))
    (λ e. rw e (or-none (acked_at o fl) (ltb o (length fl))))

-- where none is outstanding acks change nothing
quiet-flown : (rs : List Reply) (t : Tally) → t.out ≡ nothing → (heard_all rs t).flown ≡ t.flown
unfolding heard
quiet-flown [] t e = refl
quiet-flown (r ∷ rs) t e = quiet-flown rs (heard r t) refl ∙ ap (λ (x : Outstanding). acknowledged_by r x t.flown) e

any_none : (rs : List Reply) (o : ℕ) → any_named rs nothing o ≡ false
any_none [] o = refl
any_none (r ∷ rs) o = any_none rs o

or-false : (x : Bool) → x || false ≡ x
or-false true = refl
or-false false = refl

acked_at-replies : (rs : List Reply) (t : Tally) (o : ℕ) →
    acked_at o (heard_all rs t).flown ≡ acked_at o t.flown || (ltb o (length t.flown) && any_named rs t.out o)
unfolding heard
acked_at-replies [] t o = or-none (acked_at o t.flown) (ltb o (length t.flown))
acked_at-replies (r ∷ rs) t o =
    ap (acked_at o) (quiet-flown rs (heard r t) refl) ∙ acked_at-answered r t.out o t.flown
    ∙ ap (λ (b : Bool). acked_at o t.flown || (ltb o (length t.flown) && b))
    (sym (ap (λ (b : Bool). named r t.out o || b) (any_none rs o) ∙ or-false (named r t.out o)))

pub acked-exactly : (e : Event) (t : Tally) (o : ℕ) → acked_at o (feed e t).flown ≡ acked_at o t.flown || (ltb o (length t.flown) && settled_by e t.out o)
unfolding queued sent_out heard none_outstanding
acked-exactly silent t o = or-none (acked_at o t.flown) (ltb o (length t.flown))
acked-exactly (took c l bs) t o = or-none (acked_at o t.flown) (ltb o (length t.flown))
acked-exactly (reply r) t o = acked_at-answered r t.out o t.flown
acked-exactly (replies rs) t o = acked_at-replies rs t o
acked-exactly turn t o = or-none (acked_at o t.flown) (ltb o (length t.flown))
acked-exactly (went n fs) t o =
    acked_at-unacked o t.flown (take (furthest fs - length t.flown) (waits t)) ∙ or-none (acked_at o t.flown) (ltb o (length t.flown))
