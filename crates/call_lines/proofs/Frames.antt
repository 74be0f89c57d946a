-- The frames of a reception's line: what one leaves of the bytes, and all of them one after the other. Assumes nothing but what each law names.
use mathlib.Core.Path.{◌≡◌, sym, ap, ◌∙◌}
use mathlib.Core.Bool.{Bool, cond, ◌&&◌}
use mathlib.Core.List.{List, [], ◌++◌, append-nil}
use Prim.Native.Nat.{ℕ, suc, ◌+◌, ◌-◌, ◌%◌, ◌≤◌, ◌<◌, min}
use native.Mathlib.Omega.{arith}
use lib.Dec.{leb}
use lib.ListN.{length, take, drop, take-append-drop, length-drop, drop_of_length-le}
use Rattle.words.specs.declared.Read.{Read}
use Rattle.words.specs.Words.{decimal_of, hex_count, hex_into}
use Rattle.words.specs.Lines.{chars_of, next_word, read_as, is_done}
use Rattle.reception.specs.declared.Reception.{Reception}
use Rattle.call_lines.specs.declared.Hearing.{Hearing}
use Rattle.call_lines.specs.declared.FrameWords.{FrameWords}
use Rattle.call_lines.specs.CallLines.{field_byte, heard_first, no_frames, placed, frame_words, frame_words_from, frames_line}

-- all that lies behind a place
module _ (a : ℕ) (xs : List ℕ) where
  pub none_after : drop (length xs - a) (drop a xs) ≡ []
  none_after = drop_of_length-le (drop a xs) {i = length xs - a} (omega (arith, length-drop a xs))

  pub all_after : take (length xs - a) (drop a xs) ≡ drop a xs
  all_after = let l = drop a xs in let k = length xs - a in
      sym (append-nil (take k l)) ∙ ap (λ (t : List ℕ). take k l ++ t) (sym none_after) ∙ take-append-drop k l

-- one frame, of the words that were read
pub frame-said : (chars : List ℕ) (i : ℕ) (g : FrameWords) (xs ys : List ℕ) (kind flags payload : Read) (b n : ℕ) (q : Reception)
    → kind ≡ read_as decimal_of chars g.read → flags ≡ read_as decimal_of chars kind
    → payload ≡ read_as (hex_count (length (take (length xs - g.used) (drop g.used xs)))) chars flags
    → ys ≡ hex_into (take (length xs - g.used) (drop g.used xs)) (chars_of chars (next_word chars flags))
    → b ≡ field_byte kind.value → n ≡ min payload.value (length xs - g.used)
    → q ≡ placed g.reception i b (flags.value % 256) (n % 4294967296)
    → (record { read = payload; reception = q; used = g.used + n }, take g.used xs ++ (ys ++ drop (length xs - g.used) (drop g.used xs)))
    ≡ frame_words chars i (g, xs)
unfolding frame_words
frame-said chars i g xs ys kind flags payload b n q e₁ e₂ e₃ e₄ e₅ e₆ e₇ =
    let f = all_after g.used xs in
    let e₃' : payload ≡ read_as (hex_count (length (drop g.used xs))) chars flags = e₃ ∙ ap (λ (l : List ℕ). read_as (hex_count (length l)) chars flags) f in
    let e₄' : ys ≡ hex_into (drop g.used xs) (chars_of chars (next_word chars flags)) = e₄ ∙ ap (λ (l : List ℕ). hex_into l (chars_of chars (next_word chars flags))) f in
    let e₆' : n ≡ min payload.value (length (drop g.used xs)) = e₆ ∙ ap (λ (k : ℕ). min payload.value k) (sym (length-drop g.used xs)) in
    rw (← e₁, ← e₂, ← e₃', ← e₄', ← e₆', ← e₅, ← e₇, none_after g.used xs, append-nil ys)

-- the frames that are left, one fewer after each
pub frames-left : (chars : List ℕ) (n i : ℕ) (g : FrameWords × List ℕ) → i < n
    → frame_words_from chars (n - (i + 1)) (i + 1) (frame_words chars i g) ≡ frame_words_from chars (n - i) i g
frames-left chars n i g h = ap (λ (k : ℕ). frame_words_from chars k i g) (sym (one_more n i h))
  where
    one_more : (n i : ℕ) → i < n → n - i ≡ suc (n - (i + 1))
    one_more n i h = omega (arith, h)

pub frames-over : (chars : List ℕ) (n i : ℕ) (g : FrameWords × List ℕ) → n ≤ i → frame_words_from chars (n - i) i g ≡ g
frames-over chars n i g h = ap (λ (k : ℕ). frame_words_from chars k i g) (none_left n i h)
  where
    none_left : (n i : ℕ) → n ≤ i → n - i ≡ 0
    none_left n i h = omega (arith, h)

pub frames-start : (chars : List ℕ) (n : ℕ) (g : FrameWords × List ℕ) → frame_words_from chars (n - 0) 0 g ≡ frame_words_from chars n 0 g
frames-start chars n g = ap (λ (k : ℕ). frame_words_from chars k 0 g) (all_left n)
  where
    all_left : (n : ℕ) → n - 0 ≡ n
    all_left n = omega arith

-- all of the line, of the words that were read
pub frames-said : (chars : List ℕ) (r : Read) (bytes₀ : List ℕ) (h : Hearing) (count : Read) (n : ℕ) (q : Reception) (g : FrameWords) (bytes : List ℕ)
    (ended : Bool) → h ≡ heard_first chars r → count ≡ read_as decimal_of chars h.read → n ≡ cond (leb count.value 64) count.value 0
    → q ≡ no_frames n → (g, bytes) ≡ frame_words_from chars n 0 (record { read = count; reception = q; used = 0 }, bytes₀)
    → ended ≡ is_done chars g.read
    → (record { heard = h.heard; reception = g.reception; used = g.used; ok = ended && leb count.value 64 }, bytes) ≡ frames_line bytes₀ chars r
unfolding frames_line
frames-said chars r bytes₀ h count n q g bytes ended e₁ e₂ e₃ e₄ e₅ e₆ = rw (← e₁, ← e₂, ← e₃, ← e₄, ← e₅, ← e₆)
