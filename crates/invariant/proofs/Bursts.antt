-- A BURST KEEPS THE RECORD WELL, and its air allowance; a well record can be answered.
-- Assumes nothing.
use mathlib.Core.Path.{◌≡◌, sym, subst}
use mathlib.Core.List.{List, [], ◌∷◌, ◌++◌}
use mathlib.Core.Bool.{true}
use Prim.Native.Nat.{ℕ, zero, suc, ◌≤◌}
use lib.Dec.{lit<}
use lib.ListN.{length}
use Rattle.laws.specs.Bytes.{Bytes}
use Rattle.config.specs.declared.Profile.{Profile}
use Rattle.config.specs.Ranged.{Ranged}
use Rattle.config.specs.Ranges.{in_order}
use Rattle.ledger.specs.Ledger as L
use Rattle.ledger.specs.Ledger.{Piece, Plan, bytes_of, data_burst}
use Rattle.ledger.specs.Sound.{Fits}
use Rattle.ledger.specs.Plan.{plan_of, KeepsAir}
use Rattle.ledger.proofs.Burst.{burst-sound}
use Rattle.ledger.proofs.Planned.{planned-fits, keeps-air}
use Rattle.ledger.proofs.Stream.{stream-burst}
use Rattle.record.specs.Profiles.{sizes_of}
use Rattle.record.specs.View.{view, store, store_area}
use Rattle.record.specs.declared.Sender.{Sender}
use Rattle.outgoing.specs.Choosing.{choice}
use Rattle.outgoing.specs.Outgoing.{after, counted_air}
use Rattle.outgoing.proofs.Choices.{choice-ranged, choice-long}
use Rattle.soundness.proofs.fields.Sound.{profile-sizes, sound-level}
use Rattle.invariant.proofs.Ledgers.{Kept, PieceBytes, bytes-joined, bytes-of}
use Rattle.invariant.proofs.Well.{Well, well-gear, well-kept, stored-well, airtime-well}
use Rattle.ledger.specs.Sizes.{Sizes}
use Rattle.ledger.specs.SizesCode.{SizeRange}

-- ---- bytes: a burst moves none

bytes-first : (xs ys : List ℕ) → Bytes (xs ++ ys) → Bytes xs
bytes-first [] ys h i = lit< tt
bytes-first (x ∷ xs) ys h zero = h zero
bytes-first (x ∷ xs) ys h (suc i) = bytes-first xs ys (λ j. h (suc j)) i

bytes-second : (xs ys : List ℕ) → Bytes (xs ++ ys) → Bytes ys
bytes-second [] ys h i = h i
bytes-second (x ∷ xs) ys h i = bytes-second xs ys (λ j. h (suc j)) i

each-bytes : (ps : List Piece) → Bytes (bytes_of ps) → PieceBytes ps
each-bytes [] h = tt
each-bytes (p ∷ ps) h = (bytes-first p.bytes (bytes_of ps) h, each-bytes ps (bytes-second p.bytes (bytes_of ps) h))

pub burst-kept : (z : Sizes) → SizeRange z → (l : L.Sender) (g : Plan) → Fits z l g → Kept z l → Kept z (data_burst g l)
burst-kept z zr l g fit k =
    let ps = (data_burst g l).pieces in
    let w = (data_burst g l).waiting in
    let all : Bytes (bytes_of ps ++ w) = subst Bytes (sym (stream-burst g l)) (bytes-joined (bytes_of l.pieces) l.waiting (bytes-of l.pieces k.pieces) k.waiting) in
    record { sound = burst-sound z zr l g k.sound fit; pieces = each-bytes ps (bytes-first (bytes_of ps) w all); waiting = bytes-second (bytes_of ps) w all }

-- ---- the record

module _ (p : Profile) where
  -- the plan that the record's gear makes
  pub choice-fits : Ranged p → (s : Sender) (a : List ℕ) → Well p s a → length p.codes.ends ≤ 6 → Fits (sizes_of p) (view s a) (plan_of (sizes_of p) (choice p s) (view s a))
  choice-fits rg s a w six = planned-fits (sizes_of p) (choice p s) (view s a) w.sound.ledger (choice-ranged p rg s (sound-level p s a w.sound) six)

  -- what `burst_of` leaves
  pub bursted-well : Ranged p → in_order p ≡ true → (s : Sender) (a : List ℕ) → Well p s a → length p.codes.ends ≤ 6 → Well p (counted_air p s a (store (after p s a) s)) (store_area (after p s a) a)
  bursted-well rg io s a w six =
      let zr = profile-sizes p rg io in
      let k = burst-kept (sizes_of p) zr (view s a) (plan_of (sizes_of p) (choice p s) (view s a)) (choice-fits rg s a w six) (well-kept p s a w) in
      airtime-well p _ _ _ (stored-well p zr (after p s a) s a s.gear s.link w k (well-gear p s a w) w.sound.link)

  -- two frames or more, or parity, keep the allowance of the record's choice
  pub choice-keeps-air : Ranged p → (s : Sender) (a : List ℕ) → Well p s a → length p.codes.ends ≤ 6 → KeepsAir (sizes_of p) (choice p s) (view s a)
  choice-keeps-air rg s a w six =
      let l = sound-level p s a w.sound in
      keeps-air (sizes_of p) (choice p s) (view s a) w.sound.ledger (choice-ranged p rg s l six) (choice-long p rg s l)
