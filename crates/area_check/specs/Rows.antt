-- The sound record's tests (document 01), on the table's rows and on lists of numbers. Definitions only.
use Rattle.std.specs.Prelude.{List, [], ◌∷◌, Bool, true, not, ◌&&◌, ℕ, ◌+◌, leb, ltb, eqb}
use Rattle.laws.specs.Lists.{listed}
use Rattle.ledger.specs.Cover.{ceil}
use Rattle.area.specs.Table.{total}
use Rattle.area.specs.declared.table.Row.{Row}
use Rattle.limits.specs.Limits.{max_pieces, max_bits, max_held}

-- "pieces ascend, don't overlap, end by the next offset, have 1 to the long payload's bytes": from offset `from` on
unfoldable pub ascends : ℕ → ℕ → ℕ → List Row → Bool
ascends max next from [] = leb from next
ascends max next from (r ∷ rs) = leb from r.off && (ltb 0 r.len && (leb r.len max && ascends max next (r.off + r.len) rs))

-- the sum of ceil(length / short payload)
unfoldable pub short_frames_of : ℕ → List Row → ℕ
short_frames_of s [] = 0
short_frames_of s (r ∷ rs) = ceil r.len s + short_frames_of s rs

abbrev pub row_offs : List Row → List ℕ
row_offs [] = []
row_offs (r ∷ rs) = r.off ∷ row_offs rs

-- the rows ascend, have `flying` bytes together, and make 2,048 pieces at most when cut to the short payload
unfoldable pub table_ok : ℕ → ℕ → ℕ → ℕ → List Row → Bool
table_ok short long next flying rs = ascends long next 0 rs && (eqb (total rs) flying && leb (short_frames_of short rs) max_pieces)

-- distinct, and each the offset of a row
unfoldable pub all_flying : List ℕ → List ℕ → Bool
all_flying [] os = true
all_flying (x ∷ xs) os = (listed x os && not (listed x xs)) && all_flying xs os

-- held bits are 1 to below `top`
unfoldable pub held_bits_ok : ℕ → List ℕ → Bool
held_bits_ok top [] = true
held_bits_ok top (b ∷ bs) = ltb 0 b && (ltb b top && held_bits_ok top bs)

-- "each outstanding frame has bits 1 to 16,384 and held bits from its bits to 49,151"
unfoldable pub sent_bits_ok : List ℕ → List ℕ → Bool
sent_bits_ok [] hs = true
sent_bits_ok (b ∷ bs) [] = true
sent_bits_ok (b ∷ bs) (h ∷ hs) = (ltb 0 b && leb b max_bits) && ((leb b h && leb h max_held) && sent_bits_ok bs hs)

-- none of the first is among the second
unfoldable pub none_listed : List ℕ → List ℕ → Bool
none_listed [] ys = true
none_listed (x ∷ xs) ys = not (listed x ys) && none_listed xs ys
