-- The call's tests, and its parts put together. Assumes nothing.
use Prim.Native.Nat.{ℕ, ◌+◌, ◌-◌, ◌≤◌, ◌<◌}
use mathlib.Core.Path.{◌≡◌, refl, sym, ap, ◌∙◌}
use mathlib.Core.Bool.{Bool, true, false, not, ◌&&◌}
use mathlib.Core.List.{List, [], ◌∷◌, ◌++◌}
use native.Mathlib.Omega.{arith}
use lib.Dec.{leb, ltb, eqb}
use lib.ListN.{length, take, drop, get_or}
use lib.Seq.{take_all, take-take, length-take-le}
use borrow.Author.Tests.{leb-true, ltb-true, ltb-false, le-leb, lt-leb, lt-ltb, le-ltb, eq-eqb, ne_eqb, not-true}
use Rattle.laws.specs.Bytes.{overwrite}
use Rattle.laws.specs.Tests.{all}
use Rattle.laws.proofs.Bytes.{over-eq}
use Rattle.laws.proofs.Picks.{by, test, cond_yes, cond_no, is-and, is-not-and}
use Rattle.laws.proofs.Tests.{all-at}
use Rattle.laws.proofs.Span.{every-pass, every-fail, every-end}
use Rattle.window.specs.Window.{is_kept, lead, handed, moved}
use Rattle.window.proofs.Fits.{length-keep, length_moved}
use Rattle.window.proofs.Turns.{over-whole}
use Rattle.receiver.specs.declared.Receiver.{Receiver}
use Rattle.receiver.specs.declared.Listened.{Listened}
use Rattle.receiver.specs.declared.Taking.{Taking}
use Rattle.receiver.specs.Frames.{Slotted, frame_ok, slot_ok, reach_ok}
use Rattle.receiver.specs.Taking.{none_taken, take_one, all_taken, slotted}
use Rattle.receiver.specs.Receiving.{empty_from, receiver_sound, receive_refusal, ack_bytes, accepted, reception_of, no_answer, frames_taken}

-- ---- the record

module _ (w : List ℕ) (i : ℕ) where
  pub empty-pass : i < 32768 → get_or w i 0 < 256 → empty_from w i ≡ empty_from w (i + 1)
  unfolding empty_from
  empty-pass h k = every-pass i 32768 (λ j. not (is_kept (get_or w j 0))) h (ap not (lt-leb 256 (get_or w i 0) k))

  pub empty-fail : i < 32768 → 256 ≤ get_or w i 0 → empty_from w i ≡ false
  unfolding empty_from
  empty-fail h k = every-fail i 32768 (λ j. not (is_kept (get_or w j 0))) h (ap not (le-leb 256 (get_or w i 0) k))

  pub empty-end : 32768 ≤ i → empty_from w i ≡ true
  unfolding empty_from
  empty-end h = every-end i 32768 (λ j. not (is_kept (get_or w j 0))) h

module _ (r : Receiver) (w : List ℕ) where
  pub unsound-short : length w < 32768 → false ≡ receiver_sound r w
  unfolding receiver_sound all
  unsound-short h = is-not-and (leb 32768 (length w)) _ _ (lt-leb 32768 (length w) h) refl

  pub unsound-far : 32768 ≤ length w → 16777216 < r.first_missing → false ≡ receiver_sound r w
  unfolding receiver_sound all
  unsound-far l h = is-and (leb 32768 (length w)) _ _ (le-leb 32768 (length w) l) (is-not-and (leb r.first_missing 16777216) _ _ (lt-leb r.first_missing 16777216 h) refl)

  module _ (l : 32768 ≤ length w) (f : r.first_missing ≤ 16777216) where
    pub unsound-kept : 256 ≤ get_or w 0 0 → false ≡ receiver_sound r w
    unfolding receiver_sound all
    unsound-kept h =
        is-and (leb 32768 (length w)) _ _ (le-leb 32768 (length w) l) (is-and (leb r.first_missing 16777216) _ _ (le-leb r.first_missing 16777216 f)
        (is-not-and (not (is_kept (get_or w 0 0))) _ _ (ap not (le-leb 256 (get_or w 0 0) h)) refl))

    pub sound-rest : (b : Bool) → get_or w 0 0 < 256 → b ≡ empty_from w (16777216 - r.first_missing) → b ≡ receiver_sound r w
    unfolding receiver_sound all
    sound-rest b h e =
        is-and (leb 32768 (length w)) _ _ (le-leb 32768 (length w) l) (is-and (leb r.first_missing 16777216) _ _ (le-leb r.first_missing 16777216 f)
        (is-and (not (is_kept (get_or w 0 0))) _ _ (ap not (lt-leb 256 (get_or w 0 0) h)) e))

  module _ (s : receiver_sound r w ≡ true) where
    at : (k : ℕ) → get_or (leb 32768 (length w) ∷ leb r.first_missing 16777216 ∷ not (is_kept (get_or w 0 0)) ∷ empty_from w (16777216 - r.first_missing) ∷ []) k true ≡ true
    unfolding receiver_sound
    at k = all-at _ k s

    pub sound-places : 32768 ≤ length w
    sound-places = leb-true 32768 (length w) (at 0)

    pub sound-first : r.first_missing ≤ 16777216
    sound-first = leb-true r.first_missing 16777216 (at 1)

    pub sound-missing : is_kept (get_or w 0 0) ≡ false
    sound-missing = not-true (is_kept (get_or w 0 0)) (at 2)

    pub sound_empty : empty_from w (16777216 - r.first_missing) ≡ true
    sound_empty = at 3

  -- ---- the refusals

  module _ (number out : ℕ) where
    pub refuses-three : receiver_sound r w ≡ false → 3 ≡ receive_refusal r w number out
    unfolding receive_refusal
    refuses-three e = cond_yes (not (receiver_sound r w)) _ _ _ (ap not e) refl

    module _ (s : receiver_sound r w ≡ true) where
      pub refuses-six : 3 < number → 6 ≡ receive_refusal r w number out
      unfolding receive_refusal
      refuses-six h = cond_no (not (receiver_sound r w)) _ _ _ (ap not s) (cond_yes (ltb 3 number) _ _ _ (lt-ltb 3 number h) refl)

      pub refuses-ten : number ≤ 3 → out < 32768 → 10 ≡ receive_refusal r w number out
      unfolding receive_refusal
      refuses-ten h k =
          cond_no (not (receiver_sound r w)) _ _ _ (ap not s) (cond_no (ltb 3 number) _ _ _ (le-ltb 3 number h) (cond_yes (ltb out 32768) _ _ _ (lt-ltb out 32768 k) refl))

      pub refuses-none : number ≤ 3 → 32768 ≤ out → 0 ≡ receive_refusal r w number out
      unfolding receive_refusal
      refuses-none h k =
          cond_no (not (receiver_sound r w)) _ _ _ (ap not s) (cond_no (ltb 3 number) _ _ _ (le-ltb 3 number h) (cond_no (ltb out 32768) _ _ _ (le-ltb out 32768 k) refl))

    -- what an accepted call has
    pub accepts : receive_refusal r w number out ≡ 0 → (receiver_sound r w ≡ true) × (number ≤ 3) × (32768 ≤ out)
    unfolding receive_refusal
    accepts e =
        test (receiver_sound r w)
        (λ s. test (ltb 3 number)
        (λ n. absurd (no 6 (omega arith) (refuses-six s (ltb-true 3 number n) ∙ e)))
        (λ n. test (ltb out 32768)
        (λ k. absurd (no 10 (omega arith) (refuses-ten s (ltb-false 3 number n) (ltb-true out 32768 k) ∙ e)))
        (λ k. (s, ltb-false 3 number n, ltb-false out 32768 k))))
        (λ s. absurd (no 3 (omega arith) (refuses-three s ∙ e)))
      where
        no : (k : ℕ) → 0 < k → k ≡ 0 → ⊥
        no k h z = omega (arith, h, z)

-- ---- the window stays as long as it is

length-one : (first : ℕ) (x : Slotted) (y : Taking × List ℕ) → length (take_one first x y).1 ≡ length y.1
unfolding take_one
length-one first x y =
    by (λ (z : Taking × List ℕ). length z.1 ≡ length y.1) (slot_ok y.0.least x.slot && frame_ok x.frame)
    (λ ok. by (λ (z : Taking × List ℕ). length z.1 ≡ length y.1) (reach_ok first x.frame) (λ e. length-keep _ _ y.1) (λ e. refl))
    (λ no. refl)

pub length_taken : (first : ℕ) (xs : List Slotted) (y : Taking × List ℕ) → length (all_taken first xs y).1 ≡ length y.1
unfolding all_taken
length_taken first [] y = refl
length_taken first (x ∷ xs) y = length_taken first xs (take_one first x y) ∙ length-one first x y

-- ---- an accepted call

module _ (r : Receiver) (number : ℕ) (bytes sizes slots : List ℕ) (db : ℕ) (out : List ℕ) where
  -- the answer, the window by u, and the output
  abbrev build : (List ℕ → List ℕ) → Taking × List ℕ → Listened × (List ℕ × List ℕ)
  build u y = (
    record {
      answer = record { refusal = 0; payload = ack_bytes number y.0.bitmap db (r.first_missing + lead y.1); handed = lead y.1; wrong = y.0.wrong; beyond = y.0.beyond };
      next = record { first_missing = r.first_missing + lead y.1 };
    },
    (u (moved y.1), overwrite out 0 (handed y.1)),
  )

  -- the parts of the code
  pub made : (a : List ℕ) (k : Taking) (w1 w2 o1 p : List ℕ) (n : ℕ) → length a ≡ 32768 → length w1 ≡ length a
      → (k, w1) ≡ all_taken r.first_missing (slotted bytes sizes slots) (none_taken, a) → n ≡ lead w1 → o1 ≡ overwrite out 0 (handed w1) → w2 ≡ moved w1
      → p ≡ ack_bytes number k.bitmap db (r.first_missing + n)
      → (
        record {
          answer = record { refusal = 0; payload = p; handed = n; wrong = k.wrong; beyond = k.beyond };
          next = record { first_missing = r.first_missing + n };
        },
        (w2, o1),
      ) ≡ accepted r a number bytes sizes slots db out
  made a k w1 w2 o1 p n la lw et en eo ew ep =
      let ep' : p ≡ ack_bytes number k.bitmap db (r.first_missing + lead w1) = ep ∙ ap (λ (m : ℕ). ack_bytes number k.bitmap db (r.first_missing + m)) en in
      let ew' : w2 ≡ overwrite a 0 (moved w1) = ew ∙ sym (over-whole a (moved w1) (length_moved w1 ∙ lw)) in
      let et' : (k, w1) ≡ frames_taken r a number bytes sizes slots db out = et ∙ ap (λ (x : List ℕ). all_taken r.first_missing (slotted bytes sizes slots) (none_taken, x)) (sym (take_all 32768 a (omega (arith, la)))) in
      (λ i. (
        record {
          answer = record { refusal = 0; payload = ep' i; handed = en i; wrong = k.wrong; beyond = k.beyond };
          next = record { first_missing = r.first_missing + en i };
        },
        (ew' i, eo i),
      )) ∙ ap (build (overwrite a 0)) et'

  -- of more places, what lies past the 32,768 stays
  pub joined : (a : List ℕ) (q : Listened) (p o : List ℕ) → 32768 ≤ length a → (q, (p, o)) ≡ accepted r (take 32768 a) number bytes sizes slots db out
      → (q, (p ++ drop 32768 a, o)) ≡ accepted r a number bytes sizes slots db out
  joined a q p o h e =
      let u : List ℕ → List ℕ = λ m. overwrite (take 32768 a) 0 m ++ drop 32768 a in
      let y = frames_taken r a number bytes sizes slots db out in
      let l : length (take 32768 a) ≡ 32768 = length-take-le 32768 a h in
      let t : frames_taken r (take 32768 a) number bytes sizes slots db out ≡ y =
      ap (λ (x : List ℕ). all_taken r.first_missing (slotted bytes sizes slots) (none_taken, x)) (take-take 32768 32768 a (omega arith)) in
      let m : length (moved y.1) ≡ 32768 = length_moved y.1 ∙ length_taken r.first_missing (slotted bytes sizes slots) (none_taken, take 32768 a) ∙ l in
      let z : overwrite (take 32768 a) 0 (moved y.1) ++ drop 32768 a ≡ overwrite a 0 (moved y.1) =
      ap (λ (x : List ℕ). x ++ drop 32768 a) (over-whole (take 32768 a) (moved y.1) (m ∙ sym l))
      ∙ sym (over-eq a 0 (moved y.1) (omega (arith, m, h)) ∙ ap (λ (k : ℕ). moved y.1 ++ drop k a) (let q : 0 + length (moved y.1) ≡ 32768 = omega (arith, m) in q)) in
      ap (λ (x : Listened × (List ℕ × List ℕ)). (x.0, (x.1.0 ++ drop 32768 a, x.1.1))) e ∙ ap (build u) t ∙ ap (λ (x : List ℕ). ((build u y).0, (x, (build u y).1.1))) z

  module _ (a : List ℕ) (z : Listened × (List ℕ × List ℕ)) where
    pub was-accepted : receive_refusal r a number (length out) ≡ 0 → z ≡ accepted r a number bytes sizes slots db out → z ≡ reception_of r a number bytes sizes slots db out
    unfolding reception_of
    was-accepted e k = cond_yes (eqb (receive_refusal r a number (length out)) 0) _ _ _ (eq-eqb (receive_refusal r a number (length out)) 0 e) k

    pub was-refused : (n : ℕ) → n ≡ receive_refusal r a number (length out) → (n ≡ 0 → ⊥) → z ≡ (record { answer = no_answer n; next = r }, (a, out)) → z ≡ reception_of r a number bytes sizes slots db out
    unfolding reception_of
    was-refused n e h k =
        cond_no (eqb (receive_refusal r a number (length out)) 0) _ _ _ (ne_eqb (receive_refusal r a number (length out)) 0 (λ x. h (e ∙ x)))
        (k ∙ ap (λ (m : ℕ). (record { answer = no_answer m; next = r }, (a, out))) e)
