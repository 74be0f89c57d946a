-- An ack that is awaited (`ack_in` of sender.rs, `on_ack` of gear.rs; document 01, module 5): what follows the code or serves proofs; nothing here has to be believed.
use Rattle.std.specs.Prelude.{List, Bool, cond, ◌&&◌, ℕ, ◌-◌, ◌^◌, eqb, ltb, Float}
use Rattle.level.specs.Ladder.{wave_rank}
use Rattle.harq.specs.Held.{h_max}
use Rattle.config.specs.declared.Profile.{Profile}
use Rattle.gear.specs.Judging.{on_ack}
use Rattle.record.specs.Setters.{with_gear, with_link, with_last_burst, with_wave, without_frames}
use Rattle.record.specs.declared.Sender.{Sender}
use Rattle.settle.specs.Settle.{unawaited, settled}
use Rattle.limits.specs.Limits.{tiny_ack_frames, tiny_all}
use Rattle.settle.specs.AckIn.{keeps}
use Rattle.settle.specs.OutcomesCode.{outcome_in}

abbrev pub without_burst : Sender → Sender
without_burst s = with_last_burst (with_link s (unawaited s.link)) (without_frames s.last_burst)

unfoldable pub acked_by : Profile → ℕ → ℕ → Bool → Float → Float → Sender → List ℕ → Sender × List ℕ
acked_by p burst m stored snr now s a =
    let matched = eqb burst s.link.burst_id in
    let q = with_gear s (on_ack p s.gear (outcome_in m matched s.last_burst) snr now) in
    cond (matched && ltb 0 s.last_burst.n)
    (settled m (h_max p.codes) (keeps p s.gear stored) (with_link q (with_wave s.link (wave_rank s.gear.level))) a)
    (without_burst q, a)

-- the bits of a short ack for a burst of n frames: 63 says all of more than six
unfoldable pub bits_for : ℕ → ℕ → ℕ
bits_for n bitmap = cond (ltb tiny_ack_frames n && eqb bitmap tiny_all) (2 ^ 64 - 1) bitmap
