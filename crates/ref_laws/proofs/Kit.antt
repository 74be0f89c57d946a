-- What a printed walk cites of the logic, under one name.
pub use Prim.Native.Nat.{ℕ, ◌<◌}
pub use base.Fml.{GName, Lft, Share, fat, fdies, flent, flft, froom, ftrue}
pub use base.Logic.{SProp, emp, ent, fst∗, id⊢, via}
pub use contract.Monad.{Fun}
pub use contract.Running.{tables}
unfoldable pub use contract.Running.{tables_of}
pub use denote.Builtin.{u8, u16, u32, u64, usize, i8, i16, i32, i64, isize, f32, f64, bool, unit}
pub use denote.Floats.{float_Lawful, float_Makes, float_Tells, float_vals}
pub use denote.Laws.{Is, shows}
pub use denote.Lend.{LentAgain as LentRefAgain, lends_again as lends-ref-again, comes_back as ref-comes-back}
pub use denote.Memory.{cell_at, mem, part_at}
pub use denote.Plain.{bool_Lawful, bool_Makes, bool_Tells, bool_vals, Nothing-Lawful, Nothing-Makes, Nothing-Tells, nothing_vals, uint_Lawful, uint_Makes, uint_Tells, uint_vals}
pub use denote.RattleType.{owns}
pub use denote.Ref.{MutRef, Bor, MutBor, ShrRef, mut_Tells, shr_vals, mut_vals, shr_Tells}
pub use denote.Signature.{mut_slice, plain, shr_ref_to, shr_slice}
pub use denote.Signed.{sint_Lawful, sint_Makes, sint_Tells, sint_vals}
pub use denote.Slice.{MutSlice, ShrSlice, mut_slice_Lawful, mut_slice_Tells, shr_slice_copy, shr_slice_Lawful, shr_slice_Tells, shr_slice_vals, mut_slice_vals}
pub use denote.Steps.{facts, nothing, only, owned, peeks}
pub use denote.Triple.Call.{calls_at, calls_at_last}
pub use denote.Triple.Clauses.{Lasts, at_exit, ensured, lasts}
pub use denote.Triple.Entry.{on_entry}
pub use denote.Triple.Spec.{Meets, triple_of}
pub use denote.Triple.Statement.{Contract, Triple}
pub use denote.Triple.Table.{cited, entered}
pub use denote.Triple.Walked.{AllGo, Stays, Walks, ends_at, Goes-ref, Goes-slice, says, stay_ref, stay_slice, walk_Meets, walk_of, walked}
pub use ghost.Atoms.{Atoms}
pub use base.Fraction.{full_share}
pub use seplogic.Ra.Ura.{Ura}
pub use lib.Dec.{ltb, leb, eqb, lit<}
pub use lib.Ieee.{Float, binary32, binary64}
pub use lib.IntN.{ℤ}
pub use lib.ListN.{length}
pub use mathlib.Core.Bool.{Bool, true, false}
pub use mathlib.Core.List.{List, [], ◌∷◌}
pub use mathlib.Core.Path.{◌≡◌, refl, ap, subst, ◌∙◌}
pub use mathlib.Core.WellFounded.{WellFounded}
pub use mir.Syntax.{erased, named, ty_bool, ty_float, ty_int, ty_unit, w8, w16, w32, w64}
pub use mir.Val.{Val, vptr}
pub use prog.Memory.{Memory}
pub use prog.Routine.{Routine}
pub use prog.Wp.{Calls, Env, Heap, Loops, Out, Tables, Wp, WpFn, after_block, after_seq, at_return}
unfoldable pub use prog.Wp.{after_turn}
pub use sound.WpLaws.{FmC, WpFn-mono, fm_of}
pub use types.Kit.{given, Item, Sq, ◌$◌, ◌∵◌, ◌⊛◌, any_q, at_ret, await, done, drop, feq_l, fjoin, frame, fsplit, join, keep, later, move, pick, qed, raw, rewrite, runs, some, split, suffices, use1, use2, use3, ‵, ! }
pub use types.Part.{agg, look_in, store_in, sub, whole}
pub use types.Run.{Below, addr, again, alloc0, and_then, assigns, assigns_last, bin, blocks, branches, enter, exec, false_lit, first, fld, forget, free0, free1, from, hop, init, jumps, land, land_last, lit, load, look, look_raw, loops, no_more, of_opd, params1, pass0, pass1, returns, returns_within, skips, stop, store, store_raw, true_lit, unit_lit}
pub use types.SemTy.{Body}
pub use types.Tokens.{lft_end, lft_new}
