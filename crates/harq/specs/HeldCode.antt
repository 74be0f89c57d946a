-- Held numbers (document 01, module 2; harq.rs is not among the files): what follows the code or serves proofs; nothing here has to be believed.
use Rattle.std.specs.Prelude.{cond, ◌&&◌, ◌||◌, ℕ, ltb, eqb}

-- a search for the smallest end above h: the nearer of what was found so far, 0 for none, and e
unfoldable pub nearer : ℕ → ℕ → ℕ → ℕ
nearer best h e = cond (ltb h e && (eqb best 0 || ltb e best)) e best
