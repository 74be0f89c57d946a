-- The default profile is accepted. Assumes nothing.
use mathlib.Core.Path.{◌≡◌, refl}
use mathlib.Core.Bool.{true}
use lib.Ieee.{le, lt, eq, neg, of_int, of_bits}
use Rattle.laws.specs.Tests.{all}
use Rattle.laws.specs.Span.{from, upto, every}
use Rattle.config.specs.Durations.{slot_at, max_bits_at, ack_at}
use Rattle.config.specs.Ranges.{between, db_ok, maybe_db_ok, level_ok, ack_ok, air_ok, end_ok, harq_ok, lengths_ok, holds_ok, threshold_ok, marks_ok, pin_ok, levels_ok, sizes_ok, in_range, in_order}
use Rattle.defaults.specs.Default.{new_profile}
use Rattle.ieee.specs.Range.{inside}

pub default-in-range : in_range new_profile ≡ true
unfolding all from upto every slot_at max_bits_at ack_at inside between db_ok maybe_db_ok level_ok ack_ok air_ok end_ok harq_ok lengths_ok holds_ok threshold_ok marks_ok pin_ok levels_ok sizes_ok in_range le lt eq neg of_int of_bits
default-in-range = refl

pub default-in-order : in_order new_profile ≡ true
unfolding in_order
default-in-order = refl
