-- `reading::profile` meets its contract, by what the calls ensure. Assumes nothing.
use native.Mathlib.Omega.{arith}
use Rattle.card.specs.Card.{profile_in}
use Rattle.card.proofs.reading.profile.Goals as goal

pub air-requires : goal.air-requires
air-requires c = omega (arith, c.requires)

pub read-requires : goal.read-requires
read-requires c = omega (arith, c.requires)

pub read-requires-2 : goal.read-requires-2
read-requires-2 c = omega (arith, c.requires)

pub codes-requires : goal.codes-requires
codes-requires c = omega (arith, c.requires)

pub lengths-requires : goal.lengths-requires
lengths-requires c = omega (arith, c.requires)

pub hold_times-requires : goal.hold_times-requires
hold_times-requires c = omega (arith, c.requires)

pub marks-requires : goal.marks-requires
marks-requires c = omega (arith, c.requires)

pub marks-requires-2 : goal.marks-requires-2
marks-requires-2 c = omega (arith, c.requires)

pub flag-requires : goal.flag-requires
flag-requires c = omega (arith, c.requires)

pub read-requires-3 : goal.read-requires-3
read-requires-3 c = omega (arith, c.requires)

pub maybe_db-requires : goal.maybe_db-requires
maybe_db-requires c = omega (arith, c.requires)

pub bounds-os-116 : goal.bounds-os-116
bounds-os-116 c = omega (arith, c.requires)

pub bounds-os-117 : goal.bounds-os-117
bounds-os-117 c = omega (arith, c.requires)

pub pin-requires : goal.pin-requires
pin-requires c = omega (arith, c.requires)

pub flag-requires-2 : goal.flag-requires-2
flag-requires-2 c = omega (arith, c.requires)

pub bounds-os-118 : goal.bounds-os-118
bounds-os-118 c = omega (arith, c.requires)

pub flag-requires-3 : goal.flag-requires-3
flag-requires-3 c = omega (arith, c.requires)

pub flag-requires-4 : goal.flag-requires-4
flag-requires-4 c = omega (arith, c.requires)

pub flag-requires-5 : goal.flag-requires-5
flag-requires-5 c = omega (arith, c.requires)

pub flag-requires-6 : goal.flag-requires-6
flag-requires-6 c = omega (arith, c.requires)

pub flag-requires-7 : goal.flag-requires-7
flag-requires-7 c = omega (arith, c.requires)

pub flag-requires-8 : goal.flag-requires-8
flag-requires-8 c = omega (arith, c.requires)

pub flag-requires-9 : goal.flag-requires-9
flag-requires-9 c = omega (arith, c.requires)

pub flag-requires-10 : goal.flag-requires-10
flag-requires-10 c = omega (arith, c.requires)

pub returns : goal.returns
unfolding profile_in
returns c =
    simp (
      c.flag-10.ensures,
      c.flag-9.ensures,
      c.flag-8.ensures,
      c.flag-7.ensures,
      c.flag-6.ensures,
      c.flag-5.ensures,
      c.flag-4.ensures,
      c.flag-3.ensures,
      c.flag-2.ensures,
      c.pin.ensures,
      c.maybe_db.ensures,
      c.read-3.ensures,
      c.flag.ensures,
      c.marks-2.ensures,
      c.marks.ensures,
      c.hold_times.ensures,
      c.lengths.ensures,
      c.codes.ensures,
      c.read-2.ensures,
      c.read.ensures,
      c.air.ensures,
    )
