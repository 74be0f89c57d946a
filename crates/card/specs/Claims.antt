-- Change 3's two claims, and Change 11's two. Definitions only.
use Rattle.std.specs.Prelude.{ℕ, ◌≤◌, ◌<◌, ◌≡◌, true, false, List, [], ◌∷◌, ◌++◌, T, eqb, length, take, get_or, Float}
use Rattle.std.specs.Float.{Format, nan, binary32, binary64}
use Rattle.std.specs.Float.Ieee.{fits}
use Rattle.laws.specs.Bytes.{part, overwrite}
use Rattle.laws.specs.Little.{le}
use Rattle.config.specs.declared.Profile.{Profile}
use Rattle.config.specs.declared.Air.{Air}
use Rattle.config.specs.declared.Marks.{Marks}
use Rattle.card.specs.Card.{card_bytes, options_bytes, counts_agree, stretch_place, options_in, read_of, write_of}
use Rattle.card.specs.Card.{doubles, whole_numbers, singles}

-- "the same file made version 1, the further bytes cut off and the count lowered"
abbrev pub made_one : List ℕ → List ℕ
made_one b = 1 ∷ (part b 1 606 ++ (le 2 options_bytes ++ part b 609 options_bytes))

-- "A version 1 reader given a version from 2 to 15 .. gives exactly what it would of the same file made version 1". Claimed of a file
-- whose
-- counts agree: another is refused by 14, its file made version 1 need not be (docs/DIFFERENCES.md). One whose place for harq_stretch
-- isn't 0 is refused by 18: "Change 3's equality leaves these out"
abbrev pub LaterVersions : Type 0
LaterVersions = (b : List ℕ) (before : Profile) → 2 ≤ get_or b 0 0 → get_or b 0 0 ≤ 15 → counts_agree b ≡ true
    → stretch_place (options_in b) ≡ 0 → read_of b before ≡ read_of (made_one b) before

-- ---- Change 11

-- the same file with harq_stretch off
abbrev pub turned_off : List ℕ → List ℕ
turned_off b = overwrite b 750 (0 ∷ [])

-- "A settings file of version 1 that has it on is read with it off, and .. says so": number and profile are those of the same file with it
-- off, and where it is not refused the answer says that it was on
abbrev pub ReadOff : Type 0
ReadOff = (b : List ℕ) (before : Profile) → get_or b 0 0 ≡ 1 → stretch_place (options_in b) ≡ 1
    → read_of b before ≡ ((read_of (turned_off b) before).0, (read_of (turned_off b) before).1, eqb (read_of (turned_off b) before).0 0)

-- "that reading alone": an answer that says so is of a file of version 1 that has it on and is not refused
abbrev pub ToldAlone : Type 0
ToldAlone = (b : List ℕ) (before : Profile) → (read_of b before).2 ≡ true
    → ((read_of b before).0 ≡ 0) × (get_or b 0 0 ≡ 1) × (stretch_place (options_in b) ≡ 1)

-- ---- what the profile's types say of it: lengths of arrays, numbers by their width, floats by their format

abbrev pub Numbers : ℕ → List ℕ → Type 0
Numbers n xs = (length xs ≡ n) × ((i : ℕ) → get_or xs i 0 < 4294967296)

abbrev pub Floats : Format → ℕ → List Float → Type 0
Floats f n xs = (length xs ≡ n) × ((i : ℕ) → T (fits f (get_or xs i nan)))

pub record TypedAir (a : Air) : Type 0 where
  pub slots : Numbers 17 a.slot_bits
  pub pre : Floats binary64 17 a.pre_s
  pub rate : Floats binary64 17 a.rate
  pub most : Numbers 17 a.max_bits
  pub acks : Floats binary64 6 a.ack_s

pub record TypedMarks (m : Marks) : Type 0 where
  pub thresholds : Floats binary32 17 m.thresholds_db
  pub margin : T (fits binary32 m.margin_db)

pub record TypedProfile (p : Profile) : Type 0 where
  pub air : TypedAir p.air
  pub plain : TypedMarks p.plain
  pub eff : TypedMarks p.eff
  pub doubles : Floats binary64 8 (doubles p)
  pub wholes : Numbers 9 (whole_numbers p)
  pub singles : Floats binary32 4 (singles p)
  pub pin : p.pin_level.level < 18446744073709551616

-- "Write, then read, gives the profile back": every profile of its types that is not refused, values beside an option that is off among
-- them
abbrev pub RoundTrip : Type 0
RoundTrip = (p : Profile) (before : Profile) (out : List ℕ) → TypedProfile p → (write_of p out).0 ≡ 0
    → read_of (take card_bytes (write_of p out).1) before ≡ (0, p, false)
