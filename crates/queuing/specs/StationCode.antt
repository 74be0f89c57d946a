-- What a queuing needs of record and work area, and its two steps: what follows the code or serves proofs; nothing here has to be believed.
use Rattle.std.specs.Prelude.{◌≡◌, List, [], ◌∷◌, ◌++◌, cond, ℕ, ◌+◌, ◌-◌, ◌≤◌, ◌<◌, eqb, length, drop}
use Rattle.laws.specs.Bytes.{overwrite, part}
use Rattle.limits.specs.Limits.{max_messages, max_waiting, max_taken, max_slots, max_pieces}
use Rattle.area.specs.Layout.{area_bytes, stream_bytes}
use Rattle.area.specs.Table.{rows_from, total}
use Rattle.ledger.specs.Queue.{goes}
use Rattle.record.specs.Setters.{with_counts, with_waiting}
use Rattle.record.specs.declared.Sender.{Sender}
use Rattle.messages.specs.Messages as M
use Rattle.messages.specs.Messages.{entry_of, entries_in, store_entries, begun_in, withdrawn_in, queue_in}
use Rattle.messages.specs.MessagesCode.{place_in, insert_row, stay_in, withdrawn, stay_queue}
use Rattle.messages.specs.SoundCode.{SoundMessages}
use Rattle.messages.specs.declared.Messages.{Messages}
use Rattle.messages.specs.declared.Position.{Position}
use Rattle.queuing.specs.Station.{with_messages}
use Rattle.queuing.specs.declared.Station.{Station}
use Rattle.queuing.specs.declared.Waiting.{Waiting}

-- the clauses about messages, and room for n bytes more as one message with label l, after what it withdraws, where the messages m and
-- w bytes wait, and f bytes stand before them
pub record Space (m : Messages) (f w : ℕ) (a : List ℕ) (l n : ℕ) : Type 0 where
  pub area : f + max_waiting ≤ length a
  pub messages : SoundMessages m w
  pub waits : w ≤ max_waiting
  pub bytes : w - M.total_left (withdrawn_in l n m) + n ≤ max_waiting
  pub row : 1 ≤ n → m.n - length (withdrawn_in l n m) < max_messages
  pub taken : m.withdrawn + w ≤ max_taken

-- the same of a record, and the counts that place the bytes
pub record Fit (t : Station) (a : List ℕ) (l n : ℕ) : Type 0 where
  pub area : area_bytes ≤ length a
  pub held : t.sender.at_peer.n ≤ max_slots
  pub rest : t.sender.at_peer.rest ≤ t.sender.at_peer.n
  pub sent : t.sender.last_burst.n ≤ max_slots
  pub pieces : t.sender.counts.pieces ≤ max_pieces
  pub flying : total (rows_from a 0 t.sender.counts.pieces) ≡ t.sender.counts.flying
  pub stream : t.sender.counts.flying + max_waiting ≤ stream_bytes
  pub space : Space t.messages t.sender.counts.flying t.sender.counts.waiting a l n

-- n bytes wait
abbrev pub queued_to : Sender → ℕ → Sender
queued_to s n = with_counts s (with_waiting s.counts n)

-- ---- a withdrawal

-- the bytes of the messages that label l does not withdraw, where w are the waiting ones and what lies behind them
abbrev pub stay_bytes : ℕ → Messages → List ℕ → List ℕ
stay_bytes l m w = goes (stay_queue l (queue_in m w))

abbrev pub stay_waiting : ℕ → Messages → Waiting
stay_waiting l m = record { messages = withdrawn l m; waiting = M.total_left (stay_in l (begun_in m) (entries_in m)) }

-- where w bytes wait and f stand before them; without a label none is withdrawn
abbrev pub stayed_in : ℕ → Messages → ℕ → ℕ → List ℕ → Waiting × List ℕ
stayed_in l m f w a =
    cond (eqb l 0) (record { messages = m; waiting = w }, a) (stay_waiting l m, overwrite a f (stay_bytes l m (drop f a)))

-- ---- a message put in, where the messages m and w bytes wait, and f bytes stand before them

-- its place
abbrev pub place_of : ℕ → Messages → Position
place_of c m = place_in c 0 0 m.begun (entries_in m)

abbrev pub put_waiting : ℕ → ℕ → ℕ → Messages → ℕ → Waiting
put_waiting c l n m w =
    record { messages = store_entries (begun_in m) (insert_row (place_of c m).row (entry_of n c l) (entries_in m)) m; waiting = w + n }

abbrev pub put_area : ℕ → List ℕ → Messages → ℕ → ℕ → List ℕ → List ℕ
put_area c bs m f w a =
    let at = (place_of c m).bytes in
    overwrite a (f + at) (bs ++ part a (f + at) (w - at))

-- what it needs
pub record Room (m : Messages) (f w : ℕ) (a : List ℕ) (n : ℕ) : Type 0 where
  pub messages : SoundMessages m w
  pub row : m.n < max_messages
  pub bytes : w + n ≤ max_waiting
  pub area : f + w + n ≤ length a

-- ---- a queuing, by these two steps

abbrev pub put_in : ℕ → ℕ → List ℕ → Messages → ℕ → ℕ → List ℕ → Waiting × List ℕ
put_in c l bs m f w a = (put_waiting c l (length bs) m w, put_area c bs m f w a)

unfoldable pub queued_waiting : ℕ → ℕ → List ℕ → Messages → ℕ → ℕ → List ℕ → Waiting × List ℕ
queued_waiting c l [] m f w a = (record { messages = m; waiting = w }, a)
queued_waiting c l (b ∷ bs) m f w a = let x = stayed_in l m f w a in put_in c l (b ∷ bs) x.0.messages f x.0.waiting x.1

-- the record and the work area, where these messages wait
abbrev pub store_waiting : Station → Waiting × List ℕ → Station × List ℕ
store_waiting t q = (with_messages t q.0.messages q.0.waiting, q.1)
