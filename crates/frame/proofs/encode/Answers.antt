-- `encode` meets its contract: head, payload, fill and check sum are one run of bytes.
use mathlib.Core.Path.{ap, ◌∙◌}
use Rattle.laws.specs.Bytes.{overwrite}
use Rattle.frame.proofs.Laws.{frame-room, body-made, frame_made}
use Rattle.frame.proofs.encode.Goals as goal

pub returns : goal.returns
returns c =
    let st = c in
    let cr = st in
    let fl = cr in
    let cp = fl in
    let hd = cp in
    let h = hd in
    let s = h in
    let k = frame-room _ _ s.requires.2 s.requires.3 in
    let e = hd.copy_in.ensures ∙ ap (overwrite _ s.args.at) h.head-h.ensures in
    frame_made _ _ _ _ _ s.requires.1 k _ _ _ (body-made _ _ _ _ _ s.requires.1 k _ _ _ e cp.copy_in-2.ensures fl.fill.ensures) cr.crc32_by-c.ensures st.store.ensures
