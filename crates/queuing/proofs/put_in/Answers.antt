-- `queuing::put_in` meets its contract: what `place` finds lies within the messages and the waiting bytes, and `insert_in` and `insert` put the message there.
use mathlib.Core.Path.{◌≡◌, sym, ap, subst, ◌∙◌}
use mathlib.Core.List.{◌++◌}
use Prim.Native.Nat.{ℕ, ◌+◌, ◌-◌, ◌≤◌}
use native.Mathlib.Omega.{arith}
use lib.ListN.{length}
use Rattle.laws.specs.Bytes.{overwrite, part}
use Rattle.messages.specs.declared.Messages.{Messages}
use Rattle.messages.specs.SoundCode.{SoundMessages}
use Rattle.messages.specs.MessagesCode.{place_in}
use Rattle.messages.specs.Messages.{entry_of, entries_in, store_entries, begun_in}
use Rattle.messages.specs.MessagesCode.{insert_row}
use Rattle.messages.specs.declared.Position.{Position}
use Rattle.messages.proofs.Placed.{place-within}
use Rattle.queuing.proofs.put_in.Goals as goal

-- the place that is found
within : (m : Messages) (w k : ℕ) (p : Position) → SoundMessages m w → p ≡ place_in k 0 0 m.begun (entries_in m) → (p.row ≤ m.n) × (p.bytes ≤ w)
within m w k p s e = subst (λ (x : Position). (x.row ≤ m.n) × (x.bytes ≤ w)) (sym e) (place-within m w k s)

pub overflow_add-from : goal.overflow_add-from
overflow_add-from c = omega (arith, (within _ _ _ _ c.requires.messages c.place-at.ensures).1, c.requires.area)

pub insert_in-requires : goal.insert_in-requires
insert_in-requires c =
    (omega (arith, (within _ _ _ _ c.requires.messages c.place-at.ensures).1), omega (arith, (within _ _ _ _ c.requires.messages c.place-at.ensures).1, c.requires.bytes), omega (arith, c.requires.area))

pub insert-messages-requires : goal.insert-messages-requires
insert-messages-requires c = ((within _ _ _ _ c.requires.messages c.place-at.ensures).0, c.requires.row)

pub returns : goal.returns
returns c =
    let a = c.args in
    let m = a.m in
    let bs = a.bytes.now in
    let from : Position → ℕ = λ x. a.flying + x.bytes in
    let e : a.flying + a.waiting - from c.place-at.result ≡ a.waiting - c.place-at.result.bytes = omega arith in record {
      value = (λ j.
          record {
            messages = (c.insert-messages.ensures
                ∙ ap (λ (x : Position). store_entries (begun_in m) (insert_row x.row (entry_of (length bs) a.class a.label) (entries_in m)) m) c.place-at.ensures) j;
            waiting = a.waiting + length bs;
          });
      a_after = c.insert_in.ensures ∙ ap (λ (k : ℕ). overwrite a.a.now (from c.place-at.result) (bs ++ part a.a.now (from c.place-at.result) k)) e
          ∙ ap (λ (x : Position). overwrite a.a.now (from x) (bs ++ part a.a.now (from x) (a.waiting - x.bytes))) c.place-at.ensures;
    }
