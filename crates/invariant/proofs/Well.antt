-- The invariant of a list of calls, and what keeps it.
-- Assumes nothing.
use mathlib.Core.Path.{◌≡◌, refl, sym, ap, subst, ◌∙◌}
use mathlib.Core.List.{List}
use Prim.Native.Nat.{ℕ, ◌≤◌}
use native.Mathlib.Omega.{arith}
use denote.Floats.{passes}
use lib.ListN.{length, get_or, replicate, length-append, length-take}
use lib.Ieee.{nan, binary32, fits, of_int}
use Rattle.ieee.specs.Range.{w32}
use Rattle.laws.specs.Span.{from, upto, every}
use Rattle.laws.proofs.Span.{every-all}
use Rattle.laws.proofs.Bytes.{length_over}
use Rattle.laws.specs.Bytes.{Bytes}
use Rattle.config.specs.declared.Profile.{Profile}
use Rattle.gear.specs.declared.Gear.{Gear}
use Rattle.ledger.specs.Ledger as L
use Rattle.ledger.specs.Ledger.{size}
use Rattle.ledger.specs.Sound.{Sound}
use Rattle.ledger.proofs.Stream.{length-bytes_of}
use Rattle.area.specs.Layout.{area_bytes}
use Rattle.area.specs.Table.{rows_from, total}
use Rattle.pieces.specs.Pieces.{pieces_of}
use Rattle.record.specs.Airtime.{with_air}
use Rattle.record.specs.Fresh.{fresh}
use Rattle.record.specs.Profiles.{sizes_of}
use Rattle.record.specs.View.{view, store_area, store_counts, store_held, store_sent, store_link, store}
use Rattle.record.specs.declared.Link.{Link}
use Rattle.record.specs.declared.Sender.{Sender}
use Rattle.record.proofs.View.{ViewFits, Arrays, bytes-pieces, pieces-stored, view-store}
use Rattle.soundness.proofs.fields.Sound.{fresh-is-sound, fresh-arrays}
use Rattle.invariant.specs.Invariant.{TypedGear}
use Rattle.invariant.proofs.Gears.{WellGear}
use Rattle.invariant.proofs.Ledgers.{Kept, sound-fits, sound-holds, store-arrays, store_bytes, view-kept}
use Rattle.record.specs.Setters.{with_gear, with_link}
use Rattle.ledger.specs.SizesCode.{SizeRange}
use Rattle.soundness.specs.SoundnessCode.{SoundLink, SoundRecord}

-- a sound record and work area, whose types hold
pub record Well (p : Profile) (s : Sender) (a : List ℕ) : Type 0 where
  pub sound : SoundRecord p s a
  pub arrays : Arrays s
  pub bytes : Bytes a
  pub typed : TypedGear s.gear

module _ (p : Profile) where
  pub well-gear : (s : Sender) (a : List ℕ) → Well p s a → WellGear s.gear
  well-gear s a w = (w.sound.gear, w.typed)

  pub well-kept : (s : Sender) (a : List ℕ) → Well p s a → Kept (sizes_of p) (view s a)
  well-kept s a w = view-kept (sizes_of p) s a w.bytes w.sound.ledger

  given-arrays : (s : Sender) (g : Gear) (k : Link) → Arrays s → Arrays (with_link (with_gear s g) k)
  given-arrays s g k ar = record { held_off = ar.held_off; held_bits = ar.held_bits; sent_off = ar.sent_off; sent_bits = ar.sent_bits; sent_held = ar.sent_held }

  -- another gear and another link
  pub given-well : (s : Sender) (a : List ℕ) (g : Gear) (k : Link) → Well p s a → WellGear g → SoundLink k → Well p (with_link (with_gear s g) k) a
  unfolding view
  given-well s a g k w gw kw =
      let so = w.sound in
      let l = so.ledger in
      record {
        sound =
            record {
              area = so.area;
              held = so.held;
              rest = so.rest;
              sent = so.sent;
              pieces = so.pieces;
              flying = so.flying;
              ledger = record { ascend = l.ascend; bytes = l.bytes; shorts = l.shorts; held_few = l.held_few; held_flying = l.held_flying; held_bits = l.held_bits; tail = l.tail; out_few = l.out_few; out_flying = l.out_flying; sent_bits = l.sent_bits; few_waiting = l.few_waiting; taken_few = l.taken_few; sum = l.sum; number = kw.number };
              gear = gw.0;
              link = kw;
            };
        arrays = given-arrays s g k w.arrays;
        bytes = w.bytes;
        typed = gw.1;
      }

  module _ (zr : SizeRange (sizes_of p)) (l : L.Sender) (kept : Kept (sizes_of p) l) (s : Sender) (a : List ℕ) (ar : Arrays s) (by : Bytes a) (big : area_bytes ≤ length a) where
    ft : ViewFits l a
    ft = sound-fits (sizes_of p) zr l kept.sound a big

    area_same : length (store_area l a) ≡ length a
    unfolding store_area
    area_same = length_over _ _ _ ∙ length_over a 0 _

    flying-same : total (rows_from (store_area l a) 0 (length l.pieces)) ≡ size l.pieces
    flying-same =
        let rs = rows_from (store_area l a) 0 (length l.pieces) in
        omega (
          arith,
          length-bytes_of (pieces_of rs (store_area l a)),
          ap length (bytes-pieces rs (store_area l a)),
          length-take (total rs) (store_area l a),
          ap size (pieces-stored l a ft),
          area_same,
          kept.sound.bytes,
        )

    rest-few : length l.rest ≤ length l.held
    rest-few = let t = kept.sound.tail in omega (arith, ap length t.1, length-append t.0 l.rest)

    link-sound : SoundLink s.link → SoundLink (store_link l s.link)
    unfolding store_link
    link-sound k = record { time = k.time; number = kept.sound.number; heard = k.heard; not_below = k.not_below; not_above = k.not_above }

    whole : WellGear s.gear → SoundLink s.link → Sound (sizes_of p) (view (store l s) (store_area l a)) → SoundRecord p (store l s) (store_area l a)
    unfolding store store_counts store_held store_sent
    whole gw kw v =
        record {
          area = omega (arith, area_same);
          held = kept.sound.held_few;
          rest = rest-few;
          sent = omega (arith, kept.sound.out_few);
          pieces = ft.rows;
          flying = flying-same;
          ledger = v;
          gear = gw.0;
          link = link-sound kw;
        }

    typed-same : TypedGear s.gear → TypedGear (store l s).gear
    unfolding store
    typed-same t = t

    stored : WellGear s.gear → SoundLink s.link → Well p (store l s) (store_area l a)
    stored gw kw =
        record {
          sound = whole gw kw (subst (Sound (sizes_of p)) (sym (view-store l s a ft (sound-holds (sizes_of p) l kept.sound) ar)) kept.sound);
          arrays = store-arrays l s ar;
          bytes = store_bytes (sizes_of p) l a by kept;
          typed = typed-same gw.1;
        }

  -- WHATEVER A CALL STORES: a ledger's sender that is kept, a gear and a link
  pub stored-well : SizeRange (sizes_of p) → (l : L.Sender) (s : Sender) (a : List ℕ) (g : Gear) (k : Link) → Well p s a → Kept (sizes_of p) l → WellGear g → SoundLink k
      → Well p (store l (with_link (with_gear s g) k)) (store_area l a)
  stored-well zr l s a g k w kept gw kw = stored zr l kept (with_link (with_gear s g) k) a (given-arrays s g k w.arrays) w.bytes w.sound.area gw kw

  -- another airtime: no test reads it
  pub airtime-well : (s : Sender) (a : List ℕ) (ms : ℕ) → Well p s a → Well p (with_air s ms) a
  unfolding view
  airtime-well s a ms w =
      let so = w.sound in
      let ar = w.arrays in
      record {
        sound =
            record {
              area = so.area;
              held = so.held;
              rest = so.rest;
              sent = so.sent;
              pieces = so.pieces;
              flying = so.flying;
              ledger = so.ledger;
              gear = so.gear;
              link = so.link;
            };
        arrays =
            record {
              held_off = ar.held_off;
              held_bits = ar.held_bits;
              sent_off = ar.sent_off;
              sent_bits = ar.sent_bits;
              sent_held = ar.sent_held;
            };
        bytes = w.bytes;
        typed = w.typed;
      }

  -- a fresh record
  pub fresh-well : (a : List ℕ) → Bytes a → area_bytes ≤ length a → Well p fresh a
  unfolding every upto from fits of_int
  fresh-well a by h =
      record {
        sound = fresh-is-sound p a h;
        arrays = fresh-arrays;
        bytes = by;
        typed = record { width = refl; shares = λ k i z. passes _ (every-all (λ (x : ℕ). fits binary32 (get_or (replicate 17 (w32 0)) x nan)) 17 refl k i) };
      }
