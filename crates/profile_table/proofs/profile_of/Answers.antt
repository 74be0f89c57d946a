-- `profile_of`: each by its place. Assumes nothing.
use Rattle.profile_table.specs.Table.{profile_of}
use Rattle.profile_table.proofs.profile_of.Goals as goal

pub returns : goal.returns
unfolding profile_of
returns c =
    let d = c in
    let e = d in
    λ i. record {
      air = e.air.ensures i;
      short_bytes = e.u32_at.ensures i;
      long_bytes = e.u32_at-2.ensures i;
      codes = e.codes.ensures i;
      lengths = e.lengths.ensures i;
      hold_times = e.hold_times.ensures i;
      plain = e.marks.ensures i;
      eff = d.marks-2.ensures i;
      eff_snr = d.flag_at.ensures i;
      cue_below_db = d.f32_at.ensures i;
      start_margin_db = d.db_at.ensures i;
      max_level = d.at.ensures i;
      skip_slices_from = d.at-2.ensures i;
      pin_level = d.level_at.ensures i;
      goodput = d.flag_at-2.ensures i;
      power = d.u8_at.ensures i;
      harq = c.flag_at-3.ensures i;
      pick_family = c.flag_at-4.ensures i;
      smooth_target = c.flag_at-5.ensures i;
      hold_by_goodput = c.flag_at-6.ensures i;
      slice_slots = c.flag_at-7.ensures i;
      merge_pieces = c.flag_at-8.ensures i;
      cue = c.flag_at-9.ensures i;
      harq_partial = c.flag_at-10.ensures i;
    }
